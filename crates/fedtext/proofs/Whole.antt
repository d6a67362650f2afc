-- FED BYTE BY BYTE, a recording prints its meaning, whatever it is. Assumes nothing.
use Prim.Native.Nat.{ℕ, ◌≤◌, ◌<◌}
use native.Mathlib.Omega.{arith}
use mathlib.Core.Path.{◌≡◌, refl, sym, ap, ◌∙◌}
use mathlib.Core.Bool.{Bool, true, false}
use mathlib.Core.List.{List, [], ◌∷◌, ◌++◌}
use lib.ListN.{length, drop}
use lib.Seq.{take_at}
use Rattle.wire.specs.Wire.{part}
use Rattle.wire.proofs.Laws.{length_part, part_none}
use Rattle.text.specs.Lines.{lines_of}
use Rattle.sheet.specs.Sheet.{sheet_lines}
use Rattle.sheet.proofs.Laws.{sheet_begun}
use Rattle.manual.specs.Settle.{over}
use Rattle.recording.specs.Play.{printed}
use Rattle.recording.specs.Step.{Stepped, start, run_text, steps_text}
use Rattle.recorded.proofs.Steps.{steps_print_all}
use Rattle.player.specs.declared.Player.{Player}
use Rattle.player.specs.Feed.{at_first, after, text_room, is_whole, held_with, Left, left_by, roomy, fed, at_end, closed}
use Rattle.fedtext.specs.Whole.{more, count, turn, fed_text, printed_by}
use Rattle.fedtext.proofs.Held.{held_text, buffer_holds}
use Rattle.fedtext.proofs.Later.{NoFeed, after_sheet_lem}
use Rattle.sheets_back.specs.Feeds.{feeds}
use Rattle.fedtext.proofs.First.{sheet_first}

-- AFTER THE SHEET: with a place for a line and one byte more, and with bytes held that have no line feed, what is printed is what the lines print
pub later_prints :
    (p : Player) (text m s : List ℕ) → p.lines ≡ sheet_lines → NoFeed (part text 0 p.held) → p.held < text_room → text_room ≤ length text
    → fed_text p text m s ≡ run_text p.play m (lines_of (part text 0 p.held ++ s))
later_prints p text m s e f h r =
    let v : List ℕ = part text 0 p.held in
    buffer_holds p text v m s (λ _. v) (length_part text 0 p.held (omega arith)) h r
    ∙ ap (λ (n : ℕ). held_text p.play n v m s) e
    ∙ after_sheet_lem p.play v m s f

from_first : (m s : List ℕ) → held_text start 0 [] m s ≡ steps_text m s
unfolding feeds
from_first m s = sheet_first [] m s sheet_begun

-- A RECORDING FED BYTE BY BYTE from the first on prints its meaning, whatever its bytes are and whatever the buffers held
pub fed_prints : (text m s : List ℕ) → text_room ≤ length text → fed_text at_first text m s ≡ printed s
fed_prints text m s r = buffer_holds at_first text [] m s (part_none text 0) refl (omega arith) r ∙ from_first m s ∙ steps_print_all m s

-- ONE CALL with room: where bytes are whole it plays them, and otherwise it holds one byte more
module _ (p : Player) (text m out : List ℕ) (e : roomy (length text) (length m) (length out) ≡ true) where
  pub call_turns :
      (b : ℕ) → is_whole p.lines (count p b text) b ≡ true
      → (let z : Stepped = turn p b text m in
      fed p b text m out ≡ left_by (record { player = after z.play; length = length z.text }) (more p b text) z.image (over z.text out))
  unfolding fed
  call_turns b f = rw (e, f)

  pub call_holds :
      (b : ℕ) → is_whole p.lines (count p b text) b ≡ false
      → fed p b text m out ≡ left_by (record { player = held_with p b (count p b text); length = 0 }) (more p b text) m out
  unfolding fed
  call_holds b f = rw (e, f)

  pub call_closes :
      (let z : Stepped = at_end p text m in
      closed p text m out ≡ left_by (record { player = after z.play; length = length z.text }) text z.image (over z.text out))
  unfolding closed
  call_closes = rw e

  -- so the text is what the call printed, and then what is printed from what it left
  pub call_prints :
      (b : ℕ) (s : List ℕ)
      → (let r : Left = fed p b text m out in fed_text p text m (b ∷ s) ≡ printed_by r ++ fed_text r.result.player r.text r.image s)
  unfolding fed_text
  call_prints b s = go (is_whole p.lines (count p b text) b) refl
    where
      go :
          (c : Bool) → is_whole p.lines (count p b text) b ≡ c
          → (let r : Left = fed p b text m out in fed_text p text m (b ∷ s) ≡ printed_by r ++ fed_text r.result.player r.text r.image s)
      go true f =
          let z : Stepped = turn p b text m in
          let w = sym (take_at z.text (drop (length z.text) out) (length z.text) refl) in
          rw (call_turns b f, f) (ap (λ (t : List ℕ). t ++ fed_text (after z.play) (more p b text) z.image s) w)
      go false f = rw (call_holds b f, f)

  -- and at the end it is what the call printed
  pub close_prints : fed_text p text m [] ≡ printed_by (closed p text m out)
  unfolding fed_text
  close_prints = let z : Stepped = at_end p text m in rw call_closes (sym (take_at z.text (drop (length z.text) out) (length z.text) refl))
