-- WHAT `write` LEAVES, where there is room: the image in front, and the bytes after it as they were. Assumes nothing.
use Prim.Native.Nat.{ℕ, ◌+◌, ◌≤◌}
use native.Mathlib.Omega.{arith}
use mathlib.Core.Path.{◌≡◌, ap, ◌∙◌}
use mathlib.Core.List.{List, ◌++◌}
use lib.ListN.{length, drop, length-append}
use lib.Seq.{take_at, drop_at}
use Rattle.wire.specs.Wire.{part, Wrote}
use Rattle.wire.proofs.Laws.{runs, front, part_plain}
use Rattle.card.specs.declared.Card.{Card}
use Rattle.card.specs.Layout.{image_size}
use Rattle.card.specs.Image.{encode}
use Rattle.card.specs.Shape.{Shape}
use Rattle.cards.proofs.Shape.{length_encode}

pub record Left (c : Card) (d d' : List ℕ) (r : ℕ) : Type 0 where
  pub image : part d' 0 image_size ≡ encode c
  pub rest : drop image_size d' ≡ drop image_size d
  pub size : r ≡ image_size

pub left : (c : Card) → Shape c → {d d' : List ℕ} {r : ℕ} → Wrote d 0 (encode c) d' r → image_size ≤ length d → Left c d d' r
left c s {d} {d'} w h =
    let l = length_encode c s in
    let k : length (encode c) ≤ length d = omega arith in
    let p = front (runs w) k in
    let t = drop (length (encode c)) d in
    let n : 0 + image_size ≤ length (encode c ++ t) = omega (arith, length-append (encode c) t) in
    record {
      image = rw p.0 (part_plain (encode c ++ t) 0 image_size n ∙ take_at (encode c) t image_size l);
      rest = rw p.0 (drop_at (encode c) t image_size l) ∙ ap (λ m. drop m d) l;
      size = p.1 ∙ l;
    }
