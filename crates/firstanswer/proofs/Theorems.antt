-- WHAT FIRSTREAD PRINTS, in full: of a good sheet what settle gives on its fresh card, of another its first bad line. Assumes nothing.
use Prim.Native.Nat.{ℕ}
use mathlib.Core.Path.{◌≡◌, refl, sym, ap, ◌∙◌}
use mathlib.Core.List.{List, [], ◌∷◌}
use lib.ListN.{replicate}
use Rattle.wire.specs.Wire.{part}
use Rattle.text.specs.Text.{ascii, hex_of, decimal_of}
use Rattle.card.specs.Layout.{image_room}
use Rattle.card.specs.Image.{encode}
use Rattle.sheet.specs.Sheet.{first_bad}
use Rattle.personalise.specs.Personalise.{sheet_codes, sheet_card}
use Rattle.manual.specs.declared.Outcome.{Outcome}
use Rattle.manual.specs.Words.{response_room, draw_size}
use Rattle.manual.specs.Settle.{holding, settle_call, settled_by, settled}
use Rattle.printing.specs.Printing.{tab, feed}
use Rattle.firstanswer.specs.First.{first_request, first_parts}
use Rattle.firstanswer.proofs.Laws.{response_is, bad_line, good_line_lem}

-- whatever settle returns and leaves, called on the fresh card of a good sheet with READ_CARD under the sheet's PIN1, a draw of zeros and no answers: so many
-- bytes of its buffer in capital hex, and a line feed
pub good_answer :
    (s : List ℕ) → first_bad s ≡ 0 → {r : Outcome} {out next : List ℕ}
    → settled_by r out next
    ≡ settled (holding (encode (sheet_card s)))
    (settle_call (first_request (sheet_codes s).pin1) (replicate draw_size 0) [] (replicate response_room 0) (replicate image_room 0))
    → first_parts s ≡ hex_of (part out 0 r.length) ∷ feed ∷ []
good_answer s e p = sym (good_line_lem s e) ∙ ap (λ v. hex_of v ∷ feed ∷ []) (sym (response_is _ _ refl refl p refl))

pub bad_answer : (s : List ℕ) → (first_bad s ≡ 0 → ⊥) → first_parts s ≡ ascii "line" ∷ tab ∷ decimal_of (first_bad s) ∷ feed ∷ []
bad_answer s h = sym (bad_line s h)
