-- THE CONDUCT of the commands on user and issuer data: E1, E0, F6, F7. Assumes nothing.
use Prim.Native.Nat.{ℕ, ◌<◌}
use native.Mathlib.Omega.{arith}
use mathlib.Core.Path.{◌≡◌, refl, ap}
use mathlib.Core.List.{List, [], ◌∷◌}
use mathlib.Core.Bool.{true, not, ◌&&◌}
use lib.ListN.{length}
use lib.Dec.{ltb, eqb}
use borrow.Author.Tests.{ltb-true}
use Rattle.fields.specs.Fields.{View, has, val, fld}
use Rattle.card.specs.declared.Block.{Block}
use Rattle.card.specs.declared.Face.{Face}
use Rattle.card.specs.Values.{held_issuer, block_of, with_user, with_protected}
use Rattle.card.specs.Valid.{ok_block}
use Rattle.kept.proofs.Tests.{valid}
use Rattle.kept.proofs.Kept.{held_block_ok, held_issuer_ok}
use Rattle.kept.proofs.Next.{ok_counters, ok_user, ok_protected, ok_issuer_lem}
use Rattle.manual.specs.Tags.{UserData, UserProtectedData, UserCounter, UserProtectedCounter, IssuerData, IssuerDataSignature}
use Rattle.manual.specs.declared.Command.TheVariants.{ReadUserData, WriteUserData, WriteIssuerData, ReadIssuerData}
use Rattle.manual.specs.Row.{Matched}
use Rattle.manual.specs.Storage.{held_field, is_data, block_sent, number_sent, any_sent, user_fields, stored_block, stored_counters, guarded, sent_counter, kept_counter}
use Rattle.manual.specs.Storage.{note_of, note_fields, read_user_data, write_user_data, write_issuer_data, read_issuer_data}
use Rattle.manual.specs.Settle.{sent_in}
use Rattle.facts.proofs.Storage.{data_long, note}
use Rattle.history.proofs.Choice.{by_cases, both_true, clash, or_false}
use Rattle.history.proofs.Taps.{Passed}
use Rattle.history.proofs.Conduct.{quiet, Conduct, quietly, quiet_join, same}

held_quiet : (t : ℕ) (d : List ℕ) → quiet (fld t d ∷ []) ≡ true → quiet (held_field t d) ≡ true
held_quiet t d x = by_cases (λ z. quiet z ≡ true) (eqb (length d) 0) (λ _. refl) (λ _. x)

stored_ok : (t : ℕ) (v : View) (b : Block) → ok_block b ≡ true → block_sent t v ≡ true → ok_block (stored_block t v b) ≡ true
stored_ok t v b o e =
    by_cases (λ (z : Block). ok_block z ≡ true) (has t v)
    (λ h. held_block_ok (val t v) (data_long (val t v) (or_false (not (has t v)) (is_data (val t v)) e (ap not h))).1)
    (λ _. o)

-- what check 11 asks of each field of an E0 that is there
pub record Formed (v : View) : Type 0 where
  pub block : block_sent UserData v ≡ true
  pub hidden : block_sent UserProtectedData v ≡ true
  pub number : number_sent UserCounter v ≡ true
  pub guarded : number_sent UserProtectedCounter v ≡ true

pub formed : (v : View) → user_fields v ≡ true → Formed v
formed v e =
    let x = (both_true (any_sent v) _ e).1 in
    let y = both_true (block_sent UserData v && block_sent UserProtectedData v) (number_sent UserCounter v && number_sent UserProtectedCounter v) x in
    let b = both_true (block_sent UserData v) (block_sent UserProtectedData v) y.0 in
    let n = both_true (number_sent UserCounter v) (number_sent UserProtectedCounter v) y.1 in
    record { block = b.0; hidden = b.1; number = n.0; guarded = n.1 }

-- what check 12 asks of a note on a protected card
pub above : (m : Matched) (f : Face) (v : View) → Passed write_issuer_data m f v → guarded f ≡ true → f.held.issuer.counter < sent_counter v
above m f v p g =
    let n = f.held.issuer.counter in
    ltb-true n (sent_counter v) (or_false (not (guarded f)) (ltb n (sent_counter v)) p.conditions (ap not g))

module _ (m : Matched) (f : Face) (q d a : List ℕ) where
  pub of_read_user_data : Passed read_user_data m f (sent_in q) → Conduct ReadUserData f q d a
  of_read_user_data p =
      record {
        reports =
            quietly _ _
            (quiet_join (held_field UserData (block_of f.held.user)) _ (held_quiet UserData (block_of f.held.user) refl)
            (quiet_join (held_field UserProtectedData (block_of f.held.protected)) _
            (held_quiet UserProtectedData (block_of f.held.protected) refl)
            refl));
        asks = refl;
        keeps = λ sh x h r i t s. rw (t.create, t.pin, t.sign, t.purge, t.activate) i;
        stays = λ o g. o;
        alive = λ u e. clash u refl;
        climbs = λ g. same refl refl;
      }

  pub of_write_user_data : Passed write_user_data m f (sent_in q) → Conduct WriteUserData f q d a
  of_write_user_data p =
      let v : View = sent_in q in
      record {
        reports = quietly _ _ refl;
        asks = refl;
        keeps = λ sh x h r i t s. rw (t.create, t.pin, t.sign, t.purge, t.activate) i;
        stays = λ o g.
            let y = valid f o in
            let e = formed v p.fields in
            let x = stored_block UserData v f.held.user in
            let z = stored_block UserProtectedData v f.held.protected in
            let i = ok_user f o x (stored_ok UserData v f.held.user y.user e.block) in
            let j = ok_protected (with_user x f) i z (stored_ok UserProtectedData v f.held.protected y.protected e.hidden) in
            ok_counters (with_protected z (with_user x f)) j (stored_counters v f.front.counters);
        alive = λ u e. clash u refl;
        climbs = λ g. same refl refl;
      }

  pub of_write_issuer_data : Passed write_issuer_data m f (sent_in q) → Conduct WriteIssuerData f q d a
  of_write_issuer_data p =
      let v : View = sent_in q in
      record {
        reports = quietly _ _ refl;
        asks = refl;
        keeps = λ sh x h r i t s. rw (t.create, t.pin, t.sign, t.purge, t.activate) i;
        stays = λ o g.
            let n = note f v p.fields in
            ok_issuer_lem f o (held_issuer (val IssuerData v) (val IssuerDataSignature v) (kept_counter f v))
            (held_issuer_ok (val IssuerData v) (val IssuerDataSignature v) (kept_counter f v) n.least n.most);
        alive = λ u e. clash u refl;
        climbs = λ g. record { replay = refl; counter = let e : kept_counter f v ≡ sent_counter v = rw g in omega (arith, above m f v p g) };
      }

  pub of_read_issuer_data : Passed read_issuer_data m f (sent_in q) → Conduct ReadIssuerData f q d a
  of_read_issuer_data p =
      record {
        reports =
            quietly _ _
            (quiet_join (note_fields f) _
            (by_cases (λ z. quiet z ≡ true) (eqb (length (note_of f)) 0) (λ _. refl) (λ _. refl))
            (by_cases (λ z. quiet z ≡ true) (guarded f) (λ _. refl) (λ _. refl)));
        asks = refl;
        keeps = λ sh x h r i t s. rw (t.create, t.pin, t.sign, t.purge, t.activate) i;
        stays = λ o g. o;
        alive = λ u e. clash u refl;
        climbs = λ g. same refl refl;
      }
