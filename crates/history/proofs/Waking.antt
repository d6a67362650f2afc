-- CARDS BY POST, 02 Ask 1: what an activation changes, that it is for good, that the flag in the image is what the history shows, and that the seed is the
-- sheet's after any calls. That a card accepts and asks next to nothing before it, and when READ_CARD tells the seed, are clauses of demand 3.
-- Assumes nothing.
use Prim.Native.Nat.{ℕ}
use mathlib.Core.Path.{◌≡◌, refl, ap}
use mathlib.Core.List.{List, [], ◌∷◌, ◌++◌}
use mathlib.Core.Bool.{Bool, true, false, cond}
use Rattle.card.specs.declared.Card.{Card}
use Rattle.card.specs.Values.{no_pending}
use Rattle.card.specs.Image.{decode}
use Rattle.manual.specs.declared.Command.TheVariants.{ActivateCard}
use Rattle.manual.specs.Settle.{waiting, State, Call, sent_in, paced_to}
use Rattle.story.specs.Sums.{Sheet, History, tap, accepted, did, active}
use Rattle.story.specs.Buffers.{response, image}
use Rattle.history.specs.Demands.{AnyCard, Demand2, Event, tapped, switched_off, tap_by, image_by, leaves, adds, played, Fresh, Demand3}
use Rattle.history.specs.Facts.{woken_card, state_after, history_of}
use Rattle.history.proofs.Choice.{clash, did_activate}
use Rattle.history.proofs.Cards.{after}
use Rattle.history.proofs.Images.{model, by_call, response_is, image_is}
use Rattle.history.proofs.Theorems.{every}
use Rattle.history.proofs.Corollaries.{after_done}

-- AN ACCEPTED ACTIVATION changes the flag and, if it was to, PIN1; nothing is held or counted afterwards
wake_card :
    (c : Card) (q d a : List ℕ) → did ActivateCard (tap q (paced_to c q d a).response) ≡ true → after c q d a ≡ waiting no_pending (woken_card (sent_in q) c)
wake_card c q d a e = (after_done c q d a ActivateCard (did_activate (tap q (paced_to c q d a).response) e)).1

wake_model :
    (m : State) (i : Call) → did ActivateCard (tap_by model m i) ≡ true
    → decode (image_by model m i) ≡ waiting no_pending (woken_card (sent_in i.request) (decode m.image))
unfolding accepted
wake_model m i =
    by_call
    (λ z.
    did ActivateCard (tap i.request (response z)) ≡ true
    → decode (image m.image z) ≡ waiting no_pending (woken_card (sent_in i.request) (decode m.image))) m i
    (λ n k e. clash (rw k at e) refl)
    (λ o _ _. rw (image_is m i o, response_is m i) (wake_card (decode m.image) i.request i.draw i.answers))

pub activation_changes :
    (f : AnyCard) → Demand2 f → (m : State) (i : Call) → did ActivateCard (tap_by f m i) ≡ true
    → decode (image_by f m i) ≡ waiting no_pending (woken_card (sent_in i.request) (decode m.image))
activation_changes =
    every
    (λ f.
    (m : State) (i : Call) → did ActivateCard (tap_by f m i) ≡ true
    → decode (image_by f m i) ≡ waiting no_pending (woken_card (sent_in i.request) (decode m.image)))
    wake_model

-- ACTIVATED ONCE is activated for good, whatever card it is
pub active_stays : (f : AnyCard) (sh : Sheet) (s : State) (h : History) → active sh h ≡ 1 → (es : List Event) → active sh (played f s h es) ≡ 1
active_stays f sh s h e [] = e
active_stays f sh s h e (tapped i ∷ es) =
    active_stays f sh (leaves f s (tapped i)) (adds f s (tapped i) ++ h) (go (did ActivateCard (tap_by f s i))) es
  where
    go : (b : Bool) → cond b 1 (active sh h) ≡ 1
    go true = refl
    go false = e
active_stays f sh s h e (switched_off nxt ∷ es) = active_stays f sh (leaves f s (switched_off nxt)) h e es

-- THE FLAG in the image, and THE SEED, after any calls
module _ (f : AnyCard) (h : Demand3 f) (sh : Sheet) (m : List ℕ) (e : Fresh sh m) (es : List Event) where
  pub flag_is_active : (decode (state_after f m es).image).face.front.flags.active ≡ active sh (history_of f m es)
  flag_is_active = ap (λ g. g.active) (h.kept sh m e es).flags

  pub seed_stays : (decode (state_after f m es).image).face.front.fixed.seed ≡ sh.fixed.seed
  seed_stays = ap (λ x. x.seed) (h.kept sh m e es).fixed
