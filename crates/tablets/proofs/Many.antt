-- ANY NUMBER OF E0, each accepted when sent alone, where no request is held or there is no pause: each is accepted in its turn; and where they are apart two by
-- two, every order leaves the same card, some of them sent again. Assumes nothing.
use Prim.Native.Nat.{ℕ}
use mathlib.Core.Path.{◌≡◌, refl, sym, ap, ◌∙◌}
use mathlib.Core.List.{List, [], ◌∷◌}
use Rattle.card.specs.declared.Card.{Card}
use Rattle.card.specs.Image.{encode, decode}
use Rattle.cards.proofs.Round.{card_image}
use Rattle.manual.specs.Tags.{UserData, UserProtectedData, UserCounter, UserProtectedCounter}
use Rattle.manual.specs.Settle.{Call, sent_in}
use Rattle.history.specs.Demands.{AnyCard, Demand2}
use Rattle.tablets.specs.Tablets.{Ready, Calm, Stores, Reads, stored, AllStore, stored_all, InTurn, Sent, now, TwoByTwo, SameSent, with_user_data}
use Rattle.tablets.proofs.Written.{block_in, number_in, wrote}
use Rattle.tablets.proofs.Storing.{calm_ready, spelled, leaves_ready, leaves_calm, still_stores, still_reads}
use Rattle.tablets.proofs.Values.{none_sent, kept_all, same_value}

-- THE CARD AFTER THEM ALL
abbrev pub wrote_all : List Call → Card → Card
wrote_all [] c = c
wrote_all (i ∷ is) c = wrote_all is (wrote (sent_in i.request) c)

-- value by value, where there is one of them
abbrev pub with_all : List Call → Card → Card
with_all is c =
    with_user_data
    (kept_all UserData (block_in UserData) is c.face.held.user)
    (kept_all UserProtectedData (block_in UserProtectedData) is c.face.held.protected)
    (kept_all UserCounter (number_in UserCounter) is c.face.front.counters.user)
    (kept_all UserProtectedCounter (number_in UserProtectedCounter) is c.face.front.counters.protected) c

pub by_values : (i : Call) (is : List Call) (c : Card) → wrote_all (i ∷ is) c ≡ with_all (i ∷ is) c
by_values i [] c = refl
by_values i (j ∷ is) c = by_values j is (wrote (sent_in i.request) c)

-- the same requests leave the same card
no_more : (js : List Call) → ((q : List ℕ) → Sent q js → Sent q []) → js ≡ []
no_more [] h = refl
no_more (j ∷ js) h = absurd (none_sent (h j.request (now refl)))

same_card : (is js : List Call) (c : Card) → TwoByTwo is → SameSent is js → wrote_all is c ≡ wrote_all js c
same_card [] js c two same = ap (λ l. wrote_all l c) (sym (no_more js same.back))
same_card (i ∷ is) [] c two same = ap (λ l. wrote_all l c) (no_more (i ∷ is) same.there)
same_card (i ∷ is) (j ∷ js) c two same =
    by_values i is c
    ∙ (λ k. with_user_data
    (same_value UserData (block_in UserData) refl two same c.face.held.user k)
    (same_value UserProtectedData (block_in UserProtectedData) refl two same c.face.held.protected k)
    (same_value UserCounter (number_in UserCounter) refl two same c.face.front.counters.user k)
    (same_value UserProtectedCounter (number_in UserProtectedCounter) refl two same c.face.front.counters.protected k) c)
    ∙ sym (by_values j js c)

module _ (f : AnyCard) (h : Demand2 f) where
  -- the others are still accepted
  all_still : (m : List ℕ) → Ready m → (i : Call) → Stores f m i → (is : List Call) → AllStore f m is → AllStore f (stored f m i) is
  all_still m u i x [] y = tt
  all_still m u i x (j ∷ is) y = (still_stores h m u i j x y.0, all_still m u i x is y.1)

  -- EACH IS ACCEPTED IN ITS TURN, whatever they have in them
  pub in_turn : (m : List ℕ) → Ready m → (is : List Call) → AllStore f m is → InTurn f m is
  in_turn m u [] y = tt
  in_turn m u (i ∷ is) y = (y.0, in_turn (stored f m i) (leaves_ready h y.0 u) is (all_still m u i y.0 is y.1))

  -- and the card holds no request after them, and is calm where it was
  pub all_ready : (m : List ℕ) → Ready m → (is : List Call) → AllStore f m is → Ready (stored_all f m is)
  all_ready m u [] y = u
  all_ready m u (i ∷ is) y = all_ready (stored f m i) (leaves_ready h y.0 u) is (all_still m u i y.0 is y.1)

  pub all_calm : (m : List ℕ) → Calm m → (is : List Call) → AllStore f m is → Calm (stored_all f m is)
  all_calm m u [] y = u
  all_calm m u (i ∷ is) y = all_calm (stored f m i) (leaves_calm h y.0 u) is (all_still m (calm_ready u) i y.0 is y.1)

  -- READ_USER_DATA that was accepted before them is accepted after them
  pub all_reads : (m : List ℕ) → Ready m → (is : List Call) → AllStore f m is → (r : Call) → Reads f m r → Reads f (stored_all f m is) r
  all_reads m u [] y r x = x
  all_reads m u (i ∷ is) y r x =
      all_reads (stored f m i) (leaves_ready h y.0 u) is (all_still m u i y.0 is y.1) r (still_reads h m u i r y.0 x)

  pub all_spelled : (m : List ℕ) → Ready m → (is : List Call) → AllStore f m is → decode (stored_all f m is) ≡ wrote_all is (decode m)
  all_spelled m u [] y = refl
  all_spelled m u (i ∷ is) y =
      all_spelled (stored f m i) (leaves_ready h y.0 u) is (all_still m u i y.0 is y.1) ∙ ap (wrote_all is) (spelled h y.0)

  all_image : (m : List ℕ) → Ready m → (is : List Call) → AllStore f m is → stored_all f m is ≡ encode (wrote_all is (decode m))
  all_image m u is y =
      let v = all_ready m u is y in
      sym (card_image (stored_all f m is) v.card v.bytes) ∙ ap encode (all_spelled m u is y)

  -- ANY ORDER, SOME AGAIN: the same image, to the byte
  pub any_order :
      (m : List ℕ) → Ready m → (is js : List Call) → AllStore f m is → AllStore f m js → TwoByTwo is → SameSent is js
      → stored_all f m is ≡ stored_all f m js
  any_order m u is js x y two same =
      all_image m u is x ∙ ap encode (same_card is js (decode m) two same) ∙ sym (all_image m u js y)
