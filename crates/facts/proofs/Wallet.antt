-- THE FACTS of the commands on the wallet and the codes: F2, F8, FA, FB, FC. Assumes nothing.
use Prim.Native.Nat.{ℕ, ◌+◌, ◌%◌, ◌≤◌}
use native.Mathlib.Omega.{arith}
use mathlib.Core.Path.{◌≡◌}
use mathlib.Core.List.{List, [], ◌∷◌}
use mathlib.Core.Bool.{Bool, true, false, cond, ◌&&◌}
use lib.ListN.{length}
use lib.Dec.{leb, eqb}
use borrow.Author.Tests.{leb-true}
use Rattle.wire.specs.Wire.{be4, alike}
use Rattle.wire.proofs.Laws.{by_cases, both_true}
use Rattle.fields.specs.Fields.{View, has, val, fld}
use Rattle.card.specs.declared.Face.{Face}
use Rattle.card.specs.Layout.{most_hashes}
use Rattle.card.specs.Values.{key_of, created, spent, risen, purged, held_key, held_last, with_wallet, with_key, with_counters}
use Rattle.card.specs.Shape.{ShapeFace}
use Rattle.cards.proofs.Shape.{held_codes_long, held_key_long, held_last_long, shape_with_wallet, shape_with_key, shape_with_counters, shape_with_last}
use Rattle.manual.specs.Words.{hash_size, questions_room}
use Rattle.manual.specs.Tags.{NewPIN1, NewPIN2, TransactionHash, TransactionHashSize, WalletPublicKey, Remaining}
use Rattle.manual.specs.Row.{Question}
use Rattle.manual.specs.Wallet.{is_loaded, is_active, active_fields, asleep_fields, read_fields, read_card, create_wallet, set_pin, sign, purge_wallet}
use Rattle.manual.specs.Wallet.{is_new, count, hashes_ok, sign_fields, signed_face}
use Rattle.facts.proofs.Row.{Small, Facts}
use Rattle.facts.proofs.Sizes.{weight, load, weight_cond, key_long, last_long, name_long, hashes_long}

-- what READ_CARD tells, which FE tells too
pub read_light : (f : Face) → Small f → weight (read_fields f) ≤ 256
read_light f s =
    let n = name_long f.front.fixed.curve in
    let k = key_long f.front.key in
    let g = f.front in
    let w = weight_cond (is_loaded f) (fld WalletPublicKey (key_of g.key) ∷ fld Remaining (be4 g.wallet.remaining) ∷ []) [] in
    let x = weight_cond (is_active f) (active_fields f) (asleep_fields f) in
    omega arith

pub of_read_card : Facts read_card
of_read_card =
    record {
      shape = λ f v a s. s;
      codes = λ v x s. s;
      more = λ m. omega arith;
      loads = λ f v d s e. omega arith;
      weighs = λ f v d a s. let r = read_light f s in omega arith;
    }

pub of_create_wallet : Facts create_wallet
of_create_wallet =
    record {
      shape = λ f v a s.
          let w = with_wallet (created f.front.fixed.max f.front.wallet) f in
          shape_with_key w (shape_with_wallet f s (created f.front.fixed.max f.front.wallet)) (held_key a) (held_key_long a);
      codes = λ v x s. s;
      more = λ m. omega arith;
      loads = λ f v d s e. omega arith;
      weighs = λ f v d a s. let k = key_long f.front.key in omega arith;
    }

pub of_set_pin : Facts set_pin
of_set_pin =
    record {
      shape = λ f v a s. s;
      codes = λ v x s. held_codes_long (val NewPIN1 v) (val NewPIN2 v);
      more = λ m. sum m.new1 m.new2;
      loads = λ f v d s e. omega arith;
      weighs = λ f v d a s. omega arith;
    }
  where
    sum : (b c : Bool) → cond b 0 1 + cond c 0 2 ≤ 3
    sum true true = omega arith
    sum true false = omega arith
    sum false true = omega arith
    sum false false = omega arith

-- 1 to 10 hashes
pub few : (v : View) → is_new v ≡ true → sign_fields v ≡ true → count v ≤ most_hashes
few v n e =
    let l : ℕ = length (val TransactionHash v) in
    let s : Bool = alike (val TransactionHashSize v) (hash_size ∷ []) in
    let x : (has TransactionHash v && (s && hashes_ok l)) ≡ true = rw n at e in
    let y = (both_true s (hashes_ok l) (both_true (has TransactionHash v) (s && hashes_ok l) x).1).1 in
    let z = (both_true (eqb (l % hash_size) 0) (leb 1 (count v) && leb (count v) most_hashes) y).1 in
    leb-true (count v) most_hashes (both_true (leb 1 (count v)) (leb (count v) most_hashes) z).1

sign_shape : (f : Face) (n : ℕ) (a : List ℕ) → ShapeFace f → ShapeFace (signed_face f n a)
sign_shape f n a s =
    let w = with_wallet (spent n f.front.wallet) f in
    let x = shape_with_counters w (shape_with_wallet f s (spent n f.front.wallet)) (risen f.front.counters) in
    shape_with_last (with_counters (risen f.front.counters) w) x (held_last a) (held_last_long a)

pub of_sign : Facts sign
of_sign =
    record {
      shape = λ f v a s. by_cases ShapeFace (is_new v) (λ _. sign_shape f (count v) a s) (λ _. s);
      codes = λ v x s. s;
      more = λ m. omega arith;
      loads = λ f v d s e.
          by_cases (λ (z : List Question). load z ≤ questions_room) (is_new v)
          (λ n. omega (arith, hashes_long f.front.wallet.number f.front.fixed.curve (count v) (val TransactionHash v), few v n e))
          (λ _. omega arith);
      weighs = λ f v d a s. let l = last_long f.last in omega arith;
    }

pub of_purge_wallet : Facts purge_wallet
of_purge_wallet =
    record {
      shape = λ f v a s.
          let w = with_wallet (purged f.front.flags.reusable f.front.wallet) f in
          let y = shape_with_key w (shape_with_wallet f s (purged f.front.flags.reusable f.front.wallet)) (held_key []) (held_key_long []) in
          shape_with_last (with_key (held_key []) w) y (held_last []) (held_last_long []);
      codes = λ v x s. s;
      more = λ m. omega arith;
      loads = λ f v d s e. omega arith;
      weighs = λ f v d a s. omega arith;
    }
