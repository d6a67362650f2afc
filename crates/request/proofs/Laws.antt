-- What a SIGN asks for tells whether it is a new one, and how long its hash array is; the payload of a request that check 1 lets through. Assumes nothing.
use Prim.Native.Nat.{ℕ, ◌+◌, ◌*◌, ◌≤◌}
use native.Mathlib.Omega.{arith}
use mathlib.Core.Path.{◌≡◌, refl, subst}
use mathlib.Core.List.{List}
use mathlib.Core.Bool.{true, false}
use lib.ListN.{length, get_or, length-drop}
use lib.Dec.{ltb, eqb}
use borrow.Author.Tests.{ltb-false}
use Rattle.std.specs.Prelude.{Option, None}
use Rattle.wire.proofs.Laws.{by_cases}
use Rattle.fields.specs.Fields.{View, val}
use Rattle.manual.specs.Words.{least_request, most_request}
use Rattle.manual.specs.Tags.{TransactionHash}
use Rattle.manual.specs.declared.Signing.{Signing}
use Rattle.manual.specs.declared.Signing.TheVariants.{New, Again}
use Rattle.manual.specs.Request.{lc_of, fits, payload_by, payload, body_in}
use Rattle.manual.specs.Wallet.{is_new, signing}

abbrev Asks : View → Signing → Type 0
Asks v (New n) = (is_new v ≡ true) × (n ≡ length (val TransactionHash v))
Asks v Again = is_new v ≡ false

asks : (v : View) → Asks v (signing v)
unfolding signing
asks v = by_cases (Asks v) (is_new v) (λ e. (e, refl)) (λ e. e)

pub asks_new : (v : View) {n : ℕ} → signing v ≡ New n → (is_new v ≡ true) × (n ≡ length (val TransactionHash v))
asks_new v e = subst (Asks v) e (asks v)

pub asks_again : (v : View) → signing v ≡ Again → is_new v ≡ false
asks_again v e = subst (Asks v) e (asks v)

-- THE PAYLOAD: where an Lc that fits says, and shorter than a request may be
module _ (q : List ℕ) where
  abbrev Says : Option ℕ → Type 0
  Says x = (fits x ≡ true → body_in q ≡ payload_by x q) × (length (payload_by x q) ≤ most_request)

  wrong : Says None
  wrong = (λ e. let z : ◌≡◌ {A = ℕ} 0 1 = cc in absurd (omega arith), omega arith)

  says : Says (lc_of q)
  unfolding lc_of
  says =
      by_cases Says (ltb (length q) least_request) (λ _. wrong) λ _.
      by_cases Says (ltb most_request (length q)) (λ _. wrong) λ most.
      let few : length q ≤ most_request = ltb-false most_request (length q) most in
      by_cases Says (eqb (get_or q 4 0) 0)
      (λ c. by_cases Says (ltb (length q) 8) (λ _. wrong) λ _.
      by_cases Says (eqb (length q) (7 + (get_or q 5 0 * 256 + get_or q 6 0))) (λ _. (λ _. rw c, simp length-drop (omega arith))) (λ _. wrong))
      (λ c. by_cases Says (eqb (length q) (5 + get_or q 4 0)) (λ _. (λ _. rw c, simp length-drop (omega arith))) (λ _. wrong))

  pub body_is : fits (lc_of q) ≡ true → body_in q ≡ payload q
  body_is = says.0

  pub payload_short : length (payload q) ≤ most_request
  payload_short = says.1
