-- THE FACTS of the commands on user and issuer data: E1, E0, F6, F7. Assumes nothing.
use Prim.Native.Nat.{ℕ, ◌+◌, ◌≤◌}
use native.Mathlib.Omega.{arith}
use mathlib.Core.Path.{◌≡◌}
use mathlib.Core.List.{List, [], ◌∷◌, ◌++◌}
use mathlib.Core.Bool.{Bool, true, false, cond, not, ◌&&◌, ◌||◌}
use lib.ListN.{length}
use lib.Dec.{leb, eqb}
use borrow.Author.Tests.{leb-true, eqb-true}
use Rattle.wire.specs.Wire.{be4}
use Rattle.wire.proofs.Laws.{by_cases, both_true}
use Rattle.fields.specs.Fields.{View, has, val, Tagged, fld}
use Rattle.card.specs.declared.Block.{Block}
use Rattle.card.specs.declared.Face.{Face}
use Rattle.card.specs.Layout.{data_room, signature_size}
use Rattle.card.specs.Values.{held_issuer, block_of, with_user, with_protected}
use Rattle.cards.proofs.Shape.{held_block_long, held_issuer_long, shape_with_user, shape_with_protected, shape_with_counters, shape_with_issuer}
use Rattle.manual.specs.Tags.{UserData, UserProtectedData, UserCounter, UserProtectedCounter, IssuerData, IssuerDataSignature, IssuerDataCounter}
use Rattle.manual.specs.Storage.{held_field, is_data, is_number, stored_block, stored_counters, mode_ok, guarded, counter_bytes, issuer_fields, kept_counter}
use Rattle.manual.specs.Storage.{note_of, note_fields, counter_field, read_user_data, write_user_data, write_issuer_data, read_issuer_data}
use Rattle.facts.proofs.Row.{Facts}
use Rattle.facts.proofs.Sizes.{weight, weight_append, weight_cond, block_long}

held_weight : (t : ℕ) (d : List ℕ) → weight (held_field t d) ≤ length d + 4
held_weight t d = let x = weight_cond (eqb (length d) 0) [] (fld t d ∷ []) in omega arith

pub of_read_user_data : Facts read_user_data
of_read_user_data =
    record {
      shape = λ f v a s. s;
      codes = λ v x s. s;
      more = λ m. omega arith;
      loads = λ f v d s e. omega arith;
      weighs = λ f v d a s.
          let b = block_long f.held.user in
          let c = block_long f.held.protected in
          let x : List Tagged = held_field UserData (block_of f.held.user) in
          let y : List Tagged = held_field UserProtectedData (block_of f.held.protected) in
          let z : List Tagged = fld UserCounter (be4 f.front.counters.user) ∷ fld UserProtectedCounter (be4 f.front.counters.protected) ∷ [] in
          let u = held_weight UserData (block_of f.held.user) in
          let w = held_weight UserProtectedData (block_of f.held.protected) in
          omega (arith, weight_append x (y ++ z), weight_append y z);
    }

stored_long : (t : ℕ) (v : View) (b : Block) → length b.bytes ≡ data_room → length (stored_block t v b).bytes ≡ data_room
stored_long t v b e = by_cases (λ (z : Block). length z.bytes ≡ data_room) (has t v) (λ _. held_block_long (val t v)) (λ _. e)

pub of_write_user_data : Facts write_user_data
of_write_user_data =
    record {
      shape = λ f v a s.
          let x = stored_block UserData v f.held.user in
          let y = stored_block UserProtectedData v f.held.protected in
          let p = shape_with_user f s x (stored_long UserData v f.held.user s.held.user) in
          let q = shape_with_protected (with_user x f) p y (stored_long UserProtectedData v f.held.protected s.held.protected) in
          shape_with_counters (with_protected y (with_user x f)) q (stored_counters v f.front.counters);
      codes = λ v x s. s;
      more = λ m. omega arith;
      loads = λ f v d s e. omega arith;
      weighs = λ f v d a s. omega arith;
    }

-- data of 1 to 512 bytes
pub data_long : (d : List ℕ) → is_data d ≡ true → (1 ≤ length d) × (length d ≤ data_room)
data_long d e =
    let z = both_true (leb 1 (length d)) (leb (length d) data_room) e in
    (leb-true 1 (length d) z.0, leb-true (length d) data_room z.1)

-- what a note brings
pub record Note (f : Face) (v : View) : Type 0 where
  pub least : 1 ≤ length (val IssuerData v)
  pub most : length (val IssuerData v) ≤ data_room
  pub signature : length (val IssuerDataSignature v) ≡ signature_size
  pub counter : length (counter_bytes f v) ≤ 4

pub note : (f : Face) (v : View) → issuer_fields f v ≡ true → Note f v
note f v e =
    let sized = eqb (length (val IssuerDataSignature v)) signature_size in
    let counted = not (guarded f) || is_number (val IssuerDataCounter v) in
    let a = both_true (is_data (val IssuerData v)) (sized && counted) (both_true (mode_ok v) _ e).1 in
    let b = both_true sized counted a.1 in
    let n = data_long (val IssuerData v) a.0 in
    record { least = n.0; most = n.1; signature = eqb-true _ _ b.0; counter = count (guarded f) b.1 }
  where
    count : (g : Bool) → (not g || is_number (val IssuerDataCounter v)) ≡ true → length (cond g (val IssuerDataCounter v) []) ≤ 4
    count true z = omega (arith, eqb-true (length (val IssuerDataCounter v)) 4 z)
    count false z = omega arith

pub of_write_issuer_data : Facts write_issuer_data
of_write_issuer_data =
    record {
      shape = λ f v a s.
          shape_with_issuer f s (held_issuer (val IssuerData v) (val IssuerDataSignature v) (kept_counter f v))
          (held_issuer_long (val IssuerData v) (val IssuerDataSignature v) (kept_counter f v));
      codes = λ v x s. s;
      more = λ m. omega arith;
      loads = λ f v d s e. let n = note f v e in omega arith;
      weighs = λ f v d a s. omega arith;
    }

pub of_read_issuer_data : Facts read_issuer_data
of_read_issuer_data =
    record {
      shape = λ f v a s. s;
      codes = λ v x s. s;
      more = λ m. omega arith;
      loads = λ f v d s e. omega arith;
      weighs = λ f v d a s.
          let b = block_long f.held.issuer.block in
          let n = weight_cond (eqb (length (note_of f)) 0) [] (fld IssuerData (note_of f) ∷ fld IssuerDataSignature f.held.issuer.signature ∷ []) in
          let c = weight_cond (guarded f) (fld IssuerDataCounter (be4 f.held.issuer.counter) ∷ []) [] in
          omega (arith, weight_append (note_fields f) (counter_field f));
    }
