-- THE WRONG CARDS that know no right wait, specs/Wrong.antt 23 to 26, each rejected by the demand named. Assumes nothing.
use Prim.Native.Nat.{ℕ, zero, suc}
use native.Mathlib.Omega.{arith}
use mathlib.Core.Path.{◌≡◌, refl, ap, ◌∙◌}
use mathlib.Core.List.{List, [], ◌∷◌}
use mathlib.Core.Bool.{Bool, true, ◌&&◌}
use lib.ListN.{get_or, replicate}
use lib.Dec.{ltb}
use borrow.Author.Tests.{ltb-true}
use Rattle.wire.specs.Wire.{Bytes}
use Rattle.card.specs.Layout.{image_room, pending_at}
use Rattle.card.specs.Image.{encode, decode}
use Rattle.manual.specs.declared.Command.TheVariants.{ReadCard}
use Rattle.manual.specs.Settle.{State, holding, Call, waiting, over}
use Rattle.history.specs.Demands.{Demand1, Demand2, TurnedOff, off, only_counted, taps_of, left}
use Rattle.history.specs.Wrong.{hurried, impatient, trusting, forgiving}
use Rattle.history.proofs.Choice.{both_true}
use Rattle.history.proofs.Images.{model}
use Rattle.rejected.proofs.Story.{run, image0, codes1, request, call, reads}

-- READ_CARD with another PIN1, and the card after it: one wrong code is counted
abbrev guess : Call
guess = call (request codes1 ReadCard []) []

abbrev guessed : State
guessed = left model (holding image0) (taps_of (guess ∷ []))

-- 23. has nobody wait: READ_CARD after a wrong code is told Pause, and not CID
pub hurried_rejected : Demand2 hurried → ⊥
unfolding run
hurried_rejected h = let e : ◌≡◌ {A = ℕ} 0x01 0x1C = ap (λ z. get_or z.response 0 0) (h.settles guessed reads) in absurd (omega arith)

-- 24. a wait of one second is over at the first sending: the same
pub impatient_rejected : Demand2 impatient → ⊥
unfolding run
impatient_rejected h = let e : ◌≡◌ {A = ℕ} 0x01 0x1C = ap (λ z. get_or z.response 0 0) (h.settles guessed reads) in absurd (omega arith)

-- 25. counts no wrong code: the byte of the count
pub trusting_rejected : Demand2 trusting → ⊥
unfolding run
trusting_rejected h = let e : ◌≡◌ {A = ℕ} 0 1 = ap (λ z. get_or z.next pending_at 0) (h.settles (holding image0) guess) in absurd (omega arith)

-- 26. forgets the wrong codes at a power-off. The image is one of bytes: each was looked at
abbrev pub below : List ℕ → Bool
below [] = true
below (x ∷ xs) = ltb x 256 && below xs

pub all_bytes : (l : List ℕ) → below l ≡ true → Bytes l
all_bytes [] e i = omega arith
all_bytes (x ∷ xs) e zero = ltb-true x 256 (both_true (ltb x 256) (below xs) e).0
all_bytes (x ∷ xs) e (suc i) = all_bytes xs (both_true (ltb x 256) (below xs) e).1 i

pub forgiving_rejected : Demand1 forgiving → ⊥
unfolding run
forgiving_rejected h = go (h.turns_off guessed (replicate image_room 0) (all_bytes guessed.image refl) refl)
  where
    go : TurnedOff guessed (replicate image_room 0) (forgiving.power_off guessed (replicate image_room 0)) → ⊥
    go (off m' b e) =
        let x : m' ≡ encode (waiting (only_counted 1) (decode guessed.image)) = b.bytes refl (all_bytes guessed.image refl) in
        let z : ◌≡◌ {A = ℕ} 0 1 = ap (λ y. get_or y.next pending_at 0) e ∙ ap (λ l. get_or (over l (replicate image_room 0)) pending_at 0) x in
        absurd (omega arith)
