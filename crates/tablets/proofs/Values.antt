-- WHAT MANY E0 LEAVE OF ONE VALUE, over any tag and any way to read it: what a request has there that all others agree with, or the old value where none has
-- one. So it is the same for the same requests in any order, some of them sent again. Assumes nothing.
use Prim.Native.Nat.{ℕ}
use mathlib.Core.Path.{◌≡◌, refl, sym, ap, ◌∙◌, subst}
use mathlib.Core.List.{List, [], ◌∷◌}
use mathlib.Core.Bool.{Bool, true, false, cond, ◌&&◌}
use mathlib.Core.Logic.{◌⊎◌, inl, inr}
use Rattle.fields.specs.Fields.{View, has}
use Rattle.manual.specs.Settle.{Call, sent_in}
use Rattle.history.specs.Facts.{is_of}
use Rattle.history.proofs.Choice.{by_cases, clash}
use Rattle.tablets.specs.Tablets.{user_tags, Sent, now, later, Compatible, again, apart, TwoByTwo, SameSent}
use Rattle.tablets.proofs.Written.{kept}
use Rattle.tablets.proofs.Theorems.{parted}

-- the value after them all
abbrev pub kept_all : {A : Type 0} → ℕ → (View → A) → List Call → A → A
kept_all t g [] z = z
kept_all t g (i ∷ is) z = kept_all t g is (kept t g (sent_in i.request) z)

-- no request of theirs has the tag; or one has it
abbrev pub Nowhere : ℕ → List Call → Type 0
Nowhere t is = (q : List ℕ) → Sent q is → has t (sent_in q) ≡ false

pub record Somewhere (t : ℕ) (is : List Call) : Type 0 where
  pub request : List ℕ
  pub sent : Sent request is
  pub has : has t (sent_in request) ≡ true

pub none_sent : {q : List ℕ} → Sent q [] → ⊥
none_sent = elim [ ]

nor_first : (t : ℕ) (i : Call) (is : List Call) → has t (sent_in i.request) ≡ false → Nowhere t is → Nowhere t (i ∷ is)
nor_first t i is e n q (now p) = subst (λ q. has t (sent_in q) ≡ false) p e
nor_first t i is e n q (later s) = n q s

pub looked_for : (t : ℕ) (is : List Call) → Somewhere t is ⊎ Nowhere t is
looked_for t [] = inr (λ q s. absurd (none_sent s))
looked_for t (i ∷ is) = go (has t (sent_in i.request)) refl (looked_for t is)
  where
    go : (b : Bool) → has t (sent_in i.request) ≡ b → Somewhere t is ⊎ Nowhere t is → Somewhere t (i ∷ is) ⊎ Nowhere t (i ∷ is)
    go true e z = inl (record { request = i.request; sent = now refl; has = e })
    go false e (inl z) = inl (record { request = z.request; sent = later z.sent; has = z.has })
    go false e (inr z) = inr (nor_first t i is e z)

module _ {A : Type 0} (t : ℕ) (g : View → A) where
  -- none has it
  pub stays_old : (is : List Call) (z : A) → Nowhere t is → kept_all t g is z ≡ z
  stays_old [] z n = refl
  stays_old (i ∷ is) z n =
      ap (λ b. kept_all t g is (cond b (g (sent_in i.request)) z)) (n i.request (now refl)) ∙ stays_old is z (λ q s. n q (later s))

  -- all that have it agree on x
  abbrev Agree : List Call → A → Type 0
  Agree is x = (q : List ℕ) → Sent q is → has t (sent_in q) ≡ true → g (sent_in q) ≡ x

  stays_there : (is : List Call) (x : A) → Agree is x → kept_all t g is x ≡ x
  stays_there [] x a = refl
  stays_there (i ∷ is) x a =
      ap (kept_all t g is) (by_cases (λ (y : A). y ≡ x) (has t (sent_in i.request)) (λ e. a i.request (now refl) e) (λ _. refl))
      ∙ stays_there is x (λ q s. a q (later s))

  comes_to : (is : List Call) (x z : A) → Agree is x → (q : List ℕ) → Sent q is → has t (sent_in q) ≡ true → kept_all t g is z ≡ x
  comes_to [] x z a q s e = elim s [ ]
  comes_to (i ∷ is) x z a q (now p) e =
      let own = subst (λ q. has t (sent_in q) ≡ true) (sym p) e in
      ap (kept_all t g is) (ap (λ b. cond b (g (sent_in i.request)) z) own ∙ a i.request (now refl) own) ∙ stays_there is x (λ q s. a q (later s))
  comes_to (i ∷ is) x z a q (later s) e = comes_to is x (kept t g (sent_in i.request) z) (λ q s. a q (later s)) q s e

  -- of requests that are the same or apart, two by two
  module _ (listed : is_of t user_tags ≡ true) {is : List Call} (two : TwoByTwo is) where
    agrees : (q : List ℕ) → Sent q is → has t (sent_in q) ≡ true → Agree is (g (sent_in q))
    agrees q s e r u k = go (two q r s u)
      where
        go : Compatible q r → g (sent_in r) ≡ g (sent_in q)
        go (again p) = ap (λ q. g (sent_in q)) (sym p)
        go (apart p) = let z : (true && true) ≡ false = rw (e, k) at (parted q r p t listed) in clash refl z

    pub comes_from : (z : A) (q : List ℕ) → Sent q is → has t (sent_in q) ≡ true → kept_all t g is z ≡ g (sent_in q)
    comes_from z q s e = comes_to is (g (sent_in q)) z (agrees q s e) q s e

    pub same_value : {js : List Call} → SameSent is js → (z : A) → kept_all t g is z ≡ kept_all t g js z
    same_value {js} same z = go (looked_for t is)
      where
        go : Somewhere t is ⊎ Nowhere t is → kept_all t g is z ≡ kept_all t g js z
        go (inl y) =
            let a = agrees y.request y.sent y.has in
            comes_from z y.request y.sent y.has
            ∙ sym (comes_to js (g (sent_in y.request)) z (λ q s. a q (same.back q s)) y.request (same.there y.request y.sent) y.has)
        go (inr n) = stays_old is z n ∙ sym (stays_old js z (λ q s. n q (same.back q s)))
