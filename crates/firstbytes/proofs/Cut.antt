-- THE REST OF A LONG INPUT changes nothing: what is printed for as many bytes as firstread reads is what is printed for them all. Assumes nothing.
use Prim.Native.Nat.{ℕ, ◌*◌, ◌<◌}
use native.Mathlib.Omega.{arith}
use native.Mathlib.Decide.{dec_lt}
use mathlib.Core.Path.{◌≡◌, sym, ap, ◌∙◌}
use mathlib.Core.List.{List, ◌++◌}
use lib.ListN.{length, take, drop, length-take, take-append-drop}
use lib.Seq.{take_all}
use Rattle.sheet.specs.Sheet.{sheet_lines}
use Rattle.sheets_back.proofs.Early.{bad_early, bad_far}
use Rattle.printing.specs.Printing.{bad_parts}
use Rattle.firstanswer.specs.First.{first_parts}
use Rattle.firstanswer.proofs.Laws.{bad_line}
use Rattle.firstbytes.specs.Bytes.{sheet_room}

-- a long text, and the same with more after it: both have a bad line, and it is the same
more_after : (t r : List ℕ) → 80 * sheet_lines < length t → first_parts t ≡ first_parts (t ++ r)
more_after t r l =
    let e = bad_early t r l in
    sym (bad_line t (bad_far t l)) ∙ ap bad_parts e ∙ bad_line (t ++ r) (λ z. bad_far t l (e ∙ z))

pub front_enough : (s : List ℕ) → first_parts (take sheet_room s) ≡ first_parts s
front_enough s = go (dec_lt sheet_room (length s))
  where
    go : Dec (sheet_room < length s) → first_parts (take sheet_room s) ≡ first_parts s
    go (yes h) =
        let l : 80 * sheet_lines < length (take sheet_room s) = omega (arith, length-take sheet_room s, h) in
        more_after (take sheet_room s) (drop sheet_room s) l ∙ ap first_parts (take-append-drop sheet_room s)
    go (no h) = ap first_parts (take_all sheet_room s (omega (arith, h)))
