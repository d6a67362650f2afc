-- WHAT THE CARD HOLDS after any number of E0 that are apart two by two; and that of two with a tag in common the later one stands. Assumes nothing.
use Prim.Native.Nat.{ℕ}
use native.Mathlib.Omega.{arith}
use mathlib.Core.Path.{◌≡◌, refl, sym, ap, ◌∙◌, subst}
use mathlib.Core.List.{List, [], ◌∷◌}
use mathlib.Core.Bool.{Bool, true, false, not, ◌||◌}
use lib.ListN.{length}
use lib.Seq.{take_all}
use lib.Dec.{eqb}
use borrow.Author.Tests.{eqb-true}
use Rattle.wire.specs.Wire.{be4, Bytes}
use Rattle.wire.proofs.Parts.{part_pad, part32}
use Rattle.fields.specs.Fields.{View, has, val}
use Rattle.card.specs.declared.Card.{Card}
use Rattle.card.specs.Layout.{data_room}
use Rattle.card.specs.Values.{u16, block_of}
use Rattle.card.specs.Image.{decode}
use Rattle.manual.specs.Tags.{UserData, UserProtectedData, UserCounter, UserProtectedCounter}
use Rattle.manual.specs.Request.{payload}
use Rattle.manual.specs.Storage.{is_data, is_number, block_sent, number_sent, user_fields}
use Rattle.manual.specs.Commands.{row}
use Rattle.manual.specs.Settle.{Call, sent_in}
use Rattle.facts.proofs.Storage.{data_long}
use Rattle.history.specs.Demands.{AnyCard, Demand2}
use Rattle.history.specs.Facts.{is_of}
use Rattle.history.proofs.Choice.{clash, or_false}
use Rattle.history.proofs.Storage.{Formed, formed}
use Rattle.tablets.specs.Tablets.{Ready, Stores, stored, user_tags, is_in, AllStore, stored_all, Sent, now, later, again, TwoByTwo, user_value, WrittenBy}
use Rattle.tablets.proofs.Accepted.{has_passed}
use Rattle.tablets.proofs.Written.{block_in, number_in}
use Rattle.tablets.proofs.Bytes.{bytes_sent}
use Rattle.tablets.proofs.Storing.{is_write, leaves_ready, still_stores}
use Rattle.tablets.proofs.Values.{Nowhere, none_sent, stays_old, comes_from}
use Rattle.tablets.proofs.Many.{wrote_all, with_all, by_values, all_spelled}

-- a tag of the four
pub by_tag :
    (P : ℕ → Type 0) → P UserData → P UserProtectedData → P UserCounter → P UserProtectedCounter → (t : ℕ) → is_of t user_tags ≡ true → P t
by_tag P a b c d t e = go (eqb UserData t) (eqb UserProtectedData t) (eqb UserCounter t) (eqb UserProtectedCounter t) refl refl refl refl e
  where
    go : (p q r s : Bool) → eqb UserData t ≡ p → eqb UserProtectedData t ≡ q → eqb UserCounter t ≡ r → eqb UserProtectedCounter t ≡ s
        → (p || (q || (r || (s || false)))) ≡ true → P t
    go true q r s i j k l e = subst P (eqb-true UserData t i) a
    go false true r s i j k l e = subst P (eqb-true UserProtectedData t j) b
    go false false true s i j k l e = subst P (eqb-true UserCounter t k) c
    go false false false true i j k l e = subst P (eqb-true UserProtectedCounter t l) d
    go false false false false i j k l e = clash e refl

-- WHAT CHECK 11 ASKED of an accepted request: its fields are in their form
right_fields : {f : AnyCard} (h : Demand2 f) {m : List ℕ} {i : Call} → Stores f m i → user_fields (sent_in i.request) ≡ true
right_fields h {m} {i} y = sym (ap (λ k. (row k).fields (decode m).face (sent_in i.request)) (is_write h y)) ∙ (has_passed h y).fields

-- of each request that was sent
module _ {f : AnyCard} (h : Demand2 f) (m : List ℕ) where
  sent_formed : (is : List Call) → AllStore f m is → (q : List ℕ) → Sent q is → Formed (sent_in q) × Bytes q
  sent_formed [] y q s = elim s [ ]
  sent_formed (i ∷ is) y q (now p) = subst (λ q. Formed (sent_in q) × Bytes q) p (formed (sent_in i.request) (right_fields h y.0), y.0.bytes)
  sent_formed (i ∷ is) y q (later s) = sent_formed is y.1 q s

-- A VALUE IS FOUND AGAIN: a block as it was sent, and a number in its four bytes
block_back : (t : ℕ) (v : View) → block_sent t v ≡ true → has t v ≡ true → block_of (block_in t v) ≡ val t v
unfolding block_of
block_back t v e k =
    let l = (data_long (val t v) (or_false (not (has t v)) (is_data (val t v)) e (ap not k))).1 in
    let n : u16 (length (val t v)) ≡ length (val t v) = omega arith in
    rw n (part_pad data_room (val t v) l)

number_back : (t : ℕ) (v : View) → Bytes (val t v) → number_sent t v ≡ true → has t v ≡ true → be4 (number_in t v) ≡ val t v
number_back t v b e k =
    let l : length (val t v) ≡ 4 = eqb-true (length (val t v)) 4 (or_false (not (has t v)) (is_number (val t v)) e (ap not k)) in
    part32 (val t v) 0 b (omega arith) ∙ take_all 4 (val t v) (omega arith)

-- WHAT THE CARD HOLDS
module _ (f : AnyCard) (h : Demand2 f) (m : List ℕ) (u : Ready m) where
  abbrev c : Card
  c = decode m

  module _ (is : List Call) (y : AllStore f m is) (two : TwoByTwo is) where
    value_sent :
        (t : ℕ) → is_of t user_tags ≡ true → (q : List ℕ) → Sent q is → has t (sent_in q) ≡ true → user_value t (with_all is c) ≡ val t (sent_in q)
    value_sent =
        by_tag (λ t. (q : List ℕ) → Sent q is → has t (sent_in q) ≡ true → user_value t (with_all is c) ≡ val t (sent_in q))
        (λ q s e.
        ap block_of (comes_from UserData (block_in UserData) refl two c.face.held.user q s e)
        ∙ block_back UserData (sent_in q) (sent_formed h m is y q s).0.block e)
        (λ q s e.
        ap block_of (comes_from UserProtectedData (block_in UserProtectedData) refl two c.face.held.protected q s e)
        ∙ block_back UserProtectedData (sent_in q) (sent_formed h m is y q s).0.hidden e)
        (λ q s e.
        let z = sent_formed h m is y q s in
        ap be4 (comes_from UserCounter (number_in UserCounter) refl two c.face.front.counters.user q s e)
        ∙ number_back UserCounter (sent_in q) (bytes_sent UserCounter q z.1) z.0.number e)
        (λ q s e.
        let z = sent_formed h m is y q s in
        ap be4 (comes_from UserProtectedCounter (number_in UserProtectedCounter) refl two c.face.front.counters.protected q s e)
        ∙ number_back UserProtectedCounter (sent_in q) (bytes_sent UserProtectedCounter q z.1) z.0.guarded e)

    value_old : (t : ℕ) → is_of t user_tags ≡ true → Nowhere t is → user_value t (with_all is c) ≡ user_value t c
    value_old =
        by_tag (λ t. Nowhere t is → user_value t (with_all is c) ≡ user_value t c)
        (λ n. ap block_of (stays_old UserData (block_in UserData) is c.face.held.user n))
        (λ n. ap block_of (stays_old UserProtectedData (block_in UserProtectedData) is c.face.held.protected n))
        (λ n. ap be4 (stays_old UserCounter (number_in UserCounter) is c.face.front.counters.user n))
        (λ n. ap be4 (stays_old UserProtectedCounter (number_in UserProtectedCounter) is c.face.front.counters.protected n))

  all_written : (is : List Call) → AllStore f m is → TwoByTwo is → WrittenBy is c (wrote_all is c)
  unfolding sent_in
  all_written [] y two = record { sent = λ t l q s e. absurd (none_sent s); old = λ t l n. refl; rest = refl }
  all_written (i ∷ is) y two =
      subst (WrittenBy (i ∷ is) c) (sym (by_values i is c))
      (record { sent = value_sent (i ∷ is) y two; old = value_old (i ∷ is) y two; rest = refl })

  pub holds_written : (is : List Call) → AllStore f m is → TwoByTwo is → WrittenBy is c (decode (stored_all f m is))
  holds_written is y two = subst (WrittenBy is c) (sym (all_spelled f h m u is y)) (all_written is y two)

-- THE LATER ONE STANDS: what an accepted E0 sends is what the card then holds, whatever was there before; so too where another has sent the same tag
module _ (f : AnyCard) (h : Demand2 f) (m : List ℕ) (u : Ready m) where
  alone : (i : Call) → TwoByTwo (i ∷ [])
  alone i q r (now p) (now k) = again (sym p ∙ k)
  alone i q r (now p) (later k) = elim k [ ]
  alone i q r (later p) _ = elim p [ ]

  pub sent_stands :
      (i : Call) → Stores f m i → (t : ℕ) → is_of t user_tags ≡ true → is_in t (payload i.request) ≡ true
      → user_value t (decode (stored f m i)) ≡ val t (sent_in i.request)
  sent_stands i y t l e = (holds_written f h m u (i ∷ []) (y, tt) (alone i)).sent t l i.request (now refl) e

pub later_stands :
    (f : AnyCard) → Demand2 f → (m : List ℕ) → Ready m → (i j : Call) → Stores f m i → Stores f m j → (t : ℕ) → is_of t user_tags ≡ true
    → is_in t (payload j.request) ≡ true → user_value t (decode (stored f (stored f m i) j)) ≡ val t (sent_in j.request)
later_stands f h m u i j x y = sent_stands f h (stored f m i) (leaves_ready h x u) j (still_stores h m u i j x y)
