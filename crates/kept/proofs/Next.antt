-- THE NEXT CARD: a face with a group anew passes the tests. Those that the change touches are shown, the others are kept. Assumes nothing.
use Rattle.std.proofs.Common.{rules}
use mathlib.Core.Path.{◌≡◌, ap, ◌∙◌}
use mathlib.Core.Bool.{true, ◌||◌}
use lib.Dec.{eqb}
use Rattle.card.specs.declared.Flags.{Flags}
use Rattle.card.specs.declared.Wallet.{Wallet}
use Rattle.card.specs.declared.Key.{Key}
use Rattle.card.specs.declared.Counters.{Counters}
use Rattle.card.specs.declared.Block.{Block}
use Rattle.card.specs.declared.Issuer.{Issuer}
use Rattle.card.specs.declared.Last.{Last}
use Rattle.card.specs.declared.Held.{Held}
use Rattle.card.specs.declared.Face.{Face}
use Rattle.card.specs.Values.{holding, with_flags, with_wallet, with_key, with_counters, with_user, with_protected, with_issuer, with_last}
use Rattle.card.specs.Valid.{ok_flags, ok_ranges, ok_state, ok_key, ok_block, ok_issuer, ok_last, last_owned, ok_front, ok_face}
use Rattle.kept.proofs.Tests.{valid, is_valid}

module _ (f : Face) (ok : ok_face f ≡ true) where
  -- the wallet, and what is there only with one: F8 and FC change key or signatures with it
  pub ok_own :
      (w : Wallet) (k : Key) (l : Last) → ok_ranges f.front.fixed w ≡ true → ok_state f.front.flags w ≡ true
      → ok_key f.front.fixed.curve w.status k ≡ true → ok_last l ≡ true → last_owned w l ≡ true
      → ok_face (with_last l (with_key k (with_wallet w f))) ≡ true
  ok_own w k l ranges state key last owned =
      let v = valid f ok in
      is_valid (with_last l (with_key k (with_wallet w f))) (search rules)

  -- FB: Status stays, and so do the key and whose the signatures are
  pub ok_wallet :
      (w : Wallet) → ok_ranges f.front.fixed w ≡ true → ok_state f.front.flags w ≡ true → w.status ≡ f.front.wallet.status
      → ok_face (with_wallet w f) ≡ true
  ok_wallet w ranges state same =
      let v = valid f ok in
      let key = ap (λ s. ok_key f.front.fixed.curve s f.front.key) same ∙ v.key in
      let owned = ap (λ s. eqb s 2 || eqb f.last.count 0) same ∙ v.owned in
      ok_own w f.front.key f.last ranges state key v.last owned

  pub ok_last_lem : (x : Last) → ok_last x ≡ true → last_owned f.front.wallet x ≡ true → ok_face (with_last x f) ≡ true
  ok_last_lem x e owned = let v = valid f ok in ok_own f.front.wallet f.front.key x v.ranges v.state v.key e owned

  -- FE
  pub ok_flags_lem : (g : Flags) → ok_flags g ≡ true → ok_state g f.front.wallet ≡ true → ok_face (with_flags g f) ≡ true
  ok_flags_lem g flags state =
      let v = valid f ok in
      is_valid (with_flags g f) (search rules)

  pub ok_counters : (x : Counters) → ok_face (with_counters x f) ≡ true
  unfolding ok_face ok_front
  ok_counters x = ok

  -- user and issuer data
  ok_held_lem : (x : Held) → ok_block x.user ≡ true → ok_block x.protected ≡ true → ok_issuer x.issuer ≡ true → ok_face (holding x f) ≡ true
  ok_held_lem x user protected issuer =
      let v = valid f ok in
      is_valid (holding x f) (search rules)

  pub ok_user : (x : Block) → ok_block x ≡ true → ok_face (with_user x f) ≡ true
  ok_user x e = let v = valid f ok in ok_held_lem (with_user x f).held e v.protected v.issuer

  pub ok_protected : (x : Block) → ok_block x ≡ true → ok_face (with_protected x f) ≡ true
  ok_protected x e = let v = valid f ok in ok_held_lem (with_protected x f).held v.user e v.issuer

  pub ok_issuer_lem : (x : Issuer) → ok_issuer x ≡ true → ok_face (with_issuer x f) ≡ true
  ok_issuer_lem x e = let v = valid f ok in ok_held_lem (with_issuer x f).held v.user v.protected e
