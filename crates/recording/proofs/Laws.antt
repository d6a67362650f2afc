-- What the code of the play is shown by: fields that fit their buffers, what a buffer then holds, and what settle's response is. Assumes nothing.
use Prim.Native.Nat.{ℕ, ◌≤◌, ◌<◌}
use native.Mathlib.Omega.{arith}
use mathlib.Core.Path.{◌≡◌, refl, ◌∙◌, subst}
use mathlib.Core.List.{List, ◌++◌}
use mathlib.Core.Bool.{true, false}
use lib.ListN.{length, take, drop, length-append}
use lib.Seq.{take_at}
use lib.Dec.{leb, ltb, eqb}
use borrow.Author.Tests.{leb-true, ltb-true}
use Rattle.wire.specs.Wire.{part, alike, Wrote, Wrotes, joined}
use Rattle.wire.proofs.Laws.{by_cases, both_true, runs, front, all_run, part_plain, part_none, part_small}
use Rattle.text.specs.Text.{unhex}
use Rattle.text.specs.Lines.{head_to, tail_after, ended}
use Rattle.text.proofs.Laws.{length_unhex}
use Rattle.text.proofs.LineLaws.{head_small, tail_small}
use Rattle.card.specs.declared.Card.{Card}
use Rattle.card.specs.Valid.{is_card}
use Rattle.manual.specs.Words.{draw_size}
use Rattle.manual.specs.Settle.{holding, Call, Settled, Said, settled, settled_of, lent, over, untouched, roomy}
use Rattle.story.specs.Buffers.{response}
use Rattle.tapline.specs.Line.{request_in, draw_in, answers_in, longest, is_tap_line}
use Rattle.printing.specs.Printing.{told_as, tap_text}
use Rattle.recording.specs.Recording.{most_taps, field_room}
use Rattle.recording.specs.Step.{is_next, Says, line_room}

-- A FIELD is no longer than its line, and spells half as many bytes
halved : (v l : List ℕ) → length v ≤ length l → length l ≤ longest → length (unhex v) ≤ field_room
halved v l h k = omega (arith, length_unhex v)

pub request_fits : (l : List ℕ) → length l ≤ longest → length (unhex (request_in l)) ≤ field_room
unfolding request_in
request_fits l = halved (head_to 9 l) l (head_small 9 l)

pub draw_fits : (l : List ℕ) → length l ≤ longest → length (unhex (draw_in l)) ≤ field_room
unfolding draw_in
draw_fits l = halved (head_to 9 (tail_after 9 l)) l (omega (arith, head_small 9 (tail_after 9 l), tail_small 9 l))

pub answers_fits : (l : List ℕ) → length l ≤ longest → length (unhex (answers_in l)) ≤ field_room
unfolding answers_in
answers_fits l =
    let t = tail_after 9 (tail_after 9 l) in
    halved (head_to 9 t) l (omega (arith, head_small 9 t, tail_small 9 (tail_after 9 l), tail_small 9 l))

-- WHAT A BUFFER HOLDS: what was written at its start is read back from there
pub read_back : {d v d' : List ℕ} {r : ℕ} → Wrote d 0 v d' r → length v ≤ length d → part d' 0 r ≡ v
read_back {d} {v} {d'} {r} w h =
    let f = front (runs w) h in
    let w = drop (length v) d in
    rw (f.0, f.1) (part_plain (v ++ w) 0 (length v) (rw (length-append v w) (omega arith)) ∙ take_at v w (length v) refl)

-- a line that was printed, part by part
pub says :
    {vs : List (List ℕ)} {t out out' : List ℕ} {r : ℕ}
    → joined vs ≡ t → Wrotes out 0 vs out' r → length t ≤ line_room → line_room ≤ length out → Says t out r out'
says {vs} {t} {out} {out'} {r} e w h k = subst (λ u. Says u out r out') e whole
  where
    fits : length (joined vs) ≤ length out
    fits = rw e (omega arith)

    whole : Says (joined vs) out r out'
    whole = let f = front (all_run w) fits in record { size = f.1; bytes = f.0 }

pub small_part : (s : List ℕ) (n k : ℕ) → length s ≡ k → length (part s 0 n) ≤ k
small_part s n k e = omega (arith, part_small s 0 n)

-- THE RESPONSE that settle wrote is read from its buffer by its length, whatever settle said
abbrev Read : Settled → Type 0
Read x = part x.response 0 x.result.length ≡ response x

read_none : (n : ℕ) (out nxt : List ℕ) → eqb n 0 ≡ false → Read (untouched n out nxt)
read_none n out nxt e = rw e (part_none out 0)

read_lent : (s : Said) (c : Card) (out nxt : List ℕ) → Read (lent s c out nxt)
unfolding lent
read_lent s c out nxt = by_cases Read (eqb s.number 0) (λ e. all) (λ e. read_none s.number out nxt e)
  where
    all : part (over s.response out) 0 (length s.response) ≡ take (length s.response) (over s.response out)
    all = part_plain (over s.response out) 0 (length s.response) (rw (length-append s.response (drop (length s.response) out)) (omega arith))

pub said_is : (m : List ℕ) (i : Call) → Read (settled (holding m) i)
unfolding settled settled_of
said_is m i =
    by_cases Read (is_card m)
    (λ _. by_cases Read (roomy (length i.buffers.out) (length i.buffers.next))
    (λ _. by_cases Read (eqb (length i.draw) draw_size) (λ _. read_lent _ _ i.buffers.out i.buffers.next)
    (λ _. read_none 3 i.buffers.out i.buffers.next refl))
    (λ _. read_none 2 i.buffers.out i.buffers.next refl))
    (λ _. read_none 1 i.buffers.out i.buffers.next refl)

-- THE LINE OF A TAP is settled by its number, what was expected, and what settle said
pub same_line :
    {n n' : ℕ} {e e' : List ℕ} {k k' : ℕ} {v v' : List ℕ}
    → n ≡ n' → e ≡ e' → k ≡ k' → v ≡ v' → tap_text n (alike e (told_as k v)) (told_as k v) ≡ tap_text n' (alike e' (told_as k' v')) (told_as k' v')
same_line a b c d = λ j. tap_text (a j) (alike (b j) (told_as (c j) (d j))) (told_as (c j) (d j))

-- A LINE THAT IS THE NEXT TAP is not too long, and not one too many
pub next_tap : (taps : ℕ) (s : List ℕ) → is_next taps s ≡ true → (taps < most_taps) × (length (head_to 10 s) ≤ longest)
unfolding is_tap_line
next_tap taps s e =
    let a = both_true (ltb taps most_taps) _ e in
    let b = both_true (leb (length (head_to 10 s)) longest) _ (both_true (ended s) _ a.1).1 in
    (ltb-true taps most_taps a.0, leb-true (length (head_to 10 s)) longest b.0)
