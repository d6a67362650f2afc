-- TWO TABLETS WRITING, 02 Ask 11, of any card that meets demand 2: either order leaves the same card, and to send again is the same as once. It is enough that
-- no request is held, or that there is no pause; the paper's own conditions are a special case. Assumes nothing.
use Prim.Native.Nat.{ℕ, ◌+◌}
use native.Mathlib.Omega.{arith}
use mathlib.Core.Path.{◌≡◌, refl, sym, ap, ◌∙◌, subst}
use mathlib.Core.List.{List}
use mathlib.Core.Bool.{true, cond}
use Rattle.card.specs.Image.{encode, decode}
use Rattle.card.specs.Valid.{is_card}
use Rattle.manual.specs.Request.{payload}
use Rattle.manual.specs.Storage.{write_user_data}
use Rattle.manual.specs.Commands.{row}
use Rattle.manual.specs.Settle.{Call, sent_in}
use Rattle.history.specs.Demands.{AnyCard, Demand2, wait_in}
use Rattle.tablets.specs.Tablets.{Ready, Calm, Stores, stored, Apart, EitherOrder}
use Rattle.tablets.proofs.Accepted.{went}
use Rattle.tablets.proofs.Written.{wrote, Parted, either, again}
use Rattle.tablets.proofs.Storing.{calm_ready, none_waited, is_write, leaves, spelled, leaves_calm, still_stores}

-- payloads that are apart are so as views
pub parted : (q r : List ℕ) → Apart (payload q) (payload r) → Parted (sent_in q) (sent_in r)
unfolding sent_in
parted q r a = a

module _ (f : AnyCard) (h : Demand2 f) (m : List ℕ) where
  -- one after the other
  stored_two :
      (u : Ready m) (i j : Call) → Stores f m i → Stores f m j
      → stored f (stored f m i) j ≡ encode (wrote (sent_in j.request) (wrote (sent_in i.request) (decode m)))
  stored_two u i j x y = leaves h (still_stores h m u i j x y) ∙ ap (λ c. encode (wrote (sent_in j.request) c)) (spelled h x)

  -- EITHER ORDER
  pub either_order : Ready m → (i j : Call) → Stores f m i → Stores f m j → Apart (payload i.request) (payload j.request) → EitherOrder f m i j
  either_order u i j x y a =
      record {
        same = stored_two u i j x y ∙ ap encode (either (decode m) (sent_in i.request) (sent_in j.request) (parted i.request j.request a))
            ∙ sym (stored_two u j i y x);
        second = still_stores h m u i j x y;
        first = still_stores h m u j i y x;
      }

  -- THE SAME REQUEST AGAIN, with another draw and other buffers
  pub sent_again :
      Ready m → (i j : Call) → Stores f m i → Stores f m j → j.request ≡ i.request
      → (stored f (stored f m i) j ≡ stored f m i) × Stores f (stored f m i) j
  sent_again u i j x y e = (
    stored_two u i j x y ∙ ap (λ q. encode (wrote (sent_in q) (wrote (sent_in i.request) (decode m)))) e
        ∙ ap encode (again (decode m) (sent_in i.request))
        ∙ sym (leaves h x),
    still_stores h m u i j x y,
  )

  -- where no request is held, an E0 that is accepted alone says that nobody waits: nothing is counted, and there is no pause if it has 2B or 2D
  pub nobody_waits :
      is_card m ≡ true → (wait_in m).size ≡ 0 → (i : Call) → Stores f m i
      → ((wait_in m).wrong ≡ 0) × (write_user_data.pin2 (sent_in i.request) ≡ true → (decode m).face.front.fixed.pause ≡ 0)
  nobody_waits o e i y =
      let q = i.request in
      let c = decode m in
      let n = none_waited m o q i.draw i.answers (went h y) e in
      let k : (wait_in m).wrong + cond (write_user_data.pin2 (sent_in q)) c.face.front.fixed.pause 0 ≡ 0 =
      subst (λ k. (wait_in m).wrong + cond ((row k).pin2 (sent_in q)) c.face.front.fixed.pause 0 ≡ 0) (is_write h y) n in
      (omega (arith, k), λ b. let z = rw b at k in omega (arith, z))

  -- THE PAPER'S WORDS
  pub two_tablets :
      Calm m → (i j : Call) → Stores f m i → Stores f m j → Apart (payload i.request) (payload j.request)
      → EitherOrder f m i j × Calm (stored f m i)
  two_tablets u i j x y a = (either_order (calm_ready u) i j x y a, leaves_calm h x u)

  pub same_twice : Calm m → (i : Call) → Stores f m i → (stored f (stored f m i) i ≡ stored f m i) × Stores f (stored f m i) i
  same_twice u i x = sent_again (calm_ready u) i i x x refl
