-- Events, one after the other, on any card. Assumes nothing.
use mathlib.Core.Path.{◌≡◌, refl, sym, subst}
use mathlib.Core.List.{List, [], ◌∷◌, ◌++◌, append_assoc, append-nil}
use Rattle.manual.specs.Settle.{State}
use Rattle.story.specs.Sums.{History}
use Rattle.history.specs.Demands.{AnyCard, Event, leaves, adds, left, played}

-- what one event more leaves, and adds to the history
module _ (f : AnyCard) where
  pub left_more : (s : State) (es : List Event) (e : Event) → left f s (es ++ (e ∷ [])) ≡ leaves f (left f s es) e
  left_more s [] e = refl
  left_more s (x ∷ es) e = left_more (leaves f s x) es e

  pub played_more :
      (s : State) (h : History) (es : List Event) (e : Event) → played f s h (es ++ (e ∷ [])) ≡ adds f (left f s es) e ++ played f s h es
  played_more s h [] e = refl
  played_more s h (x ∷ es) e = played_more (leaves f s x) (adds f s x ++ h) es e

-- what holds of no event, and with each event more, holds of all
pub one_by_one : (P : List Event → Type 0) → P [] → ((es : List Event) (e : Event) → P es → P (es ++ (e ∷ []))) → (es : List Event) → P es
one_by_one P z s es = go [] es z
  where
    go : (xs ys : List Event) → P xs → P (xs ++ ys)
    go xs [] p = subst P (sym (append-nil xs)) p
    go xs (y ∷ ys) p = subst P (append_assoc xs (y ∷ []) ys) (go (xs ++ (y ∷ [])) ys (s xs y p))
