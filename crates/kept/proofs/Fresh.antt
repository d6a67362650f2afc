-- A FRESH CARD passes the tests. Assumes nothing.
use Prim.Native.Nat.{ℕ, ◌≤◌}
use mathlib.Core.Path.{◌≡◌, refl}
use mathlib.Core.Bool.{true}
use lib.Dec.{eqb}
use borrow.Author.Tests.{le-leb}
use native.Mathlib.Omega.{arith}
use Rattle.wire.specs.Wire.{all_zero}
use Rattle.card.specs.declared.Codes.{Codes}
use Rattle.card.specs.declared.Fixed.{Fixed}
use Rattle.card.specs.declared.Flags.{Flags}
use Rattle.card.specs.Layout.{most_pause}
use Rattle.card.specs.Values.{no_wallet, no_key, no_block, no_issuer, no_last, fresh}
use Rattle.card.specs.Image.{encode}
use Rattle.card.specs.Valid.{curve_known, key_size, ok_flags, ok_key, ok_block, ok_issuer, ok_last, ok_face, is_card}
use Rattle.card.specs.Shape.{ShapeCodes, ShapeFixed}
use Rattle.kept.proofs.Tests.{or_true, is_ranged, is_stated, is_valid}
use Rattle.kept.proofs.Waits.{no_pending_ok}
use Rattle.cards.proofs.Shape.{shape_fresh}
use Rattle.cards.proofs.Round.{is_card_encode}

no_key_ok : (curve : ℕ) → ok_key curve 1 no_key ≡ true
unfolding ok_key key_size all_zero
no_key_ok curve = refl

no_block_ok : ok_block no_block ≡ true
unfolding ok_block all_zero
no_block_ok = refl

no_issuer_ok : ok_issuer no_issuer ≡ true
unfolding ok_issuer ok_block all_zero
no_issuer_ok = refl

no_last_ok : ok_last no_last ≡ true
unfolding ok_last all_zero
no_last_ok = refl

module _ (x : Fixed) (g : Flags) (k : Codes) where
  pub fresh_ok : curve_known x ≡ true → 1 ≤ x.max → x.pause ≤ most_pause → ok_flags g ≡ true → ok_face (fresh x g k).face ≡ true
  unfolding fresh
  fresh_ok curve max pause flags =
      is_valid (fresh x g k).face
      (record {
        flags = flags;
        ranges = is_ranged x no_wallet
            (record { curve = curve; max = le-leb 1 x.max max; status = refl; remaining = le-leb 0 x.max (omega arith); idle = refl });
        state = is_stated g no_wallet
            (record {
              begun = refl;
              once = or_true (eqb g.reusable 1) refl;
              purges = or_true (eqb g.reusable 0) refl;
              asleep = or_true (eqb g.active 1) refl;
            });
        key = no_key_ok x.curve;
        pause = le-leb x.pause most_pause pause;
        user = no_block_ok;
        protected = no_block_ok;
        issuer = no_issuer_ok;
        pending = no_pending_ok;
        last = no_last_ok;
        owned = refl;
      })

  -- so its image is a card
  pub fresh_is_card :
      ShapeFixed x → ShapeCodes k → curve_known x ≡ true → 1 ≤ x.max → x.pause ≤ most_pause → ok_flags g ≡ true
      → is_card (encode (fresh x g k)) ≡ true
  fresh_is_card fixed codes curve max pause flags = is_card_encode (fresh x g k) (shape_fresh x g k fixed codes) (fresh_ok curve max pause flags)
