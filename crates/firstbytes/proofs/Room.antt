-- A BUFFER WITH ROOM FOR ANY LINE has the whole line afterwards: no part of it is left out. Assumes nothing.
use Prim.Native.Nat.{ℕ, zero, suc, ◌+◌, ◌≤◌}
use native.Mathlib.Omega.{arith}
use native.Mathlib.Decide.{ℕ_discrete}
use mathlib.Core.Path.{◌≡◌}
use mathlib.Core.Bool.{cond}
use mathlib.Core.List.{List, [], ◌++◌}
use lib.ListN.{length, drop, replicate, length-append}
use lib.Dec.{ltb}
use Rattle.wire.specs.Wire.{part, Wrotes, be2}
use Rattle.wire.proofs.Laws.{by_cases, all_run, front}
use Rattle.fields.specs.Fields.{written}
use Rattle.text.specs.Text.{hex_of}
use Rattle.text.specs.Lines.{start_of, from_line}
use Rattle.text.proofs.Laws.{length_hex_of, ten_digits}
use Rattle.card.specs.Values.{fresh}
use Rattle.sheet.specs.Sheet.{pause_row, optional, sheet_lines, row_of, good_line, bad_after, bad_from, first_bad}
use Rattle.personalise.specs.Personalise.{sheet_codes, sheet_card}
use Rattle.personalise.proofs.Laws.{sheet_shape}
use Rattle.manual.specs.declared.Command.TheVariants.{ReadCard}
use Rattle.manual.specs.Words.{sw_process_completed, response_room, draw_size}
use Rattle.manual.specs.Settle.{sent_in}
use Rattle.facts.proofs.Facts.{facts, small_shape, tells}
use Rattle.printing.specs.Printing.{feed, bad_text}
use Rattle.printing.proofs.Laws.{bad_short}
use Rattle.firstanswer.specs.First.{first_request, first_parts, first_line}
use Rattle.firstanswer.proofs.Laws.{bad_line}
use Rattle.firstbytes.specs.Bytes.{fresh_fields, line_room}
use Rattle.firstbytes.proofs.Bytes.{part_over, fresh_line}

-- the number of a bad line is small
end_most : (k j : ℕ) (s : List ℕ) → cond (ltb (start_of j s) (length s)) k 0 ≤ k
end_most k j s = by_cases (λ (x : ℕ). x ≤ k) (ltb (start_of j s) (length s)) {x = k} {y = 0} (λ _. omega arith) (λ _. omega arith)

bad_most : (n k : ℕ) (s : List ℕ) → bad_from n k s ≤ suc k + n
unfolding bad_from bad_after optional
bad_most zero k s =
    by_cases (λ (x : ℕ). x ≤ suc k + 0) (good_line pause_row (from_line k s)) {x = bad_after [] (suc k) s} {y = bad_after [] k s}
    (λ _. omega (arith, end_most (suc k) (suc k) s))
    (λ _. omega (arith, end_most k k s))
bad_most (suc n) k s =
    by_cases (λ (x : ℕ). x ≤ suc k + suc n) (good_line (row_of k) (from_line k s)) {x = bad_from n (suc k) s} {y = k}
    (λ _. omega (arith, bad_most n (suc k) s))
    (λ _. omega arith)

first_most : (s : List ℕ) → first_bad s ≤ 2 + sheet_lines
unfolding first_bad
first_most s = bad_most sheet_lines 1 s

-- a response fits its buffer
fresh_fits : (s : List ℕ) → length (written (fresh_fields s)) + 2 ≤ response_room
unfolding sheet_card fresh
fresh_fits s =
    tells (facts ReadCard) (sheet_card s).face (sent_in (first_request (sheet_codes s).pin1)) (replicate draw_size 0) [] (small_shape (sheet_shape s).face)

pub line_fits : (s : List ℕ) → length (first_line s) ≤ line_room
unfolding first_line bad_text
line_fits s = go (ℕ_discrete (first_bad s) 0)
  where
    go : Dec (first_bad s ≡ 0) → length (first_line s) ≤ line_room
    go (yes e) =
        let v : List ℕ = written (fresh_fields s) ++ be2 sw_process_completed in
        let a = length-append (written (fresh_fields s)) (be2 sw_process_completed) in
        rw (fresh_line s e) (omega (arith, length-append (hex_of v) feed, length_hex_of v, a, fresh_fits s))
    go (no h) =
        let b = bad_short (first_bad s) (ten_digits (first_bad s) (omega (arith, first_most s))) in
        rw (← bad_line s h) (omega (arith, b))

-- WHAT A PROGRAM PRINTS from a buffer with that room: as many bytes as were returned are the line
pub whole_line : (s : List ℕ) {d d' : List ℕ} {r : ℕ} → line_room ≤ length d → Wrotes d 0 (first_parts s) d' r → part d' 0 r ≡ first_line s
unfolding first_line
whole_line s {d} h w =
    let x = front (all_run w) (omega (arith, line_fits s, h)) in
    rw (x.0, x.1) (part_over (first_line s) (drop (length (first_line s)) d))
