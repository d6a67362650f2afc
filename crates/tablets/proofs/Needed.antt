-- WHY THE CONDITIONS STAND THERE, computed: for each that is left out a card and two requests for which the conclusion fails. Assumes nothing.
use Prim.Native.Nat.{ℕ}
use native.Mathlib.Omega.{arith}
use mathlib.Core.Path.{◌≡◌, refl, sym, ap, ◌∙◌}
use mathlib.Core.List.{List, [], ◌∷◌}
use mathlib.Core.Bool.{true, false, ◌&&◌}
use lib.ListN.{get_or}
use Rattle.wire.specs.Wire.{be4, Bytes}
use Rattle.fields.specs.Fields.{Tagged, fld}
use Rattle.card.specs.Values.{paused_by, fresh}
use Rattle.card.specs.Image.{encode, decode}
use Rattle.card.specs.Valid.{is_card}
use Rattle.manual.specs.Words.{sw_need_pause}
use Rattle.manual.specs.Tags.{UserData, UserProtectedData, UserCounter}
use Rattle.manual.specs.declared.Command.TheVariants.{Sign, WriteUserData}
use Rattle.manual.specs.Request.{payload}
use Rattle.manual.specs.Settle.{holding, Call}
use Rattle.history.specs.Demands.{wait_in}
use Rattle.history.proofs.Images.{model, model_demand2}
use Rattle.rejected.proofs.Story.{run, sheet0, image0, ask0, creates, signs}
use Rattle.rejected.proofs.Hurried.{all_bytes}
use Rattle.tablets.specs.Tablets.{Calm, Accepts, Stores, stored, is_in, Apart, user_value}
use Rattle.tablets.proofs.Storing.{calm_ready, still_stores}
use Rattle.tablets.proofs.Held.{by_tag}

-- an E0 with these fields, PIN1, CID and PIN2 before them
abbrev writes : List Tagged → Call
writes fs = ask0 WriteUserData fs []

-- THE SAME TAG IN BOTH: "none of 2A to 2D is in both" is not so, all else is
abbrev oil : Call
oil = writes (fld UserData (1 ∷ []) ∷ [])

abbrev belt : Call
belt = writes (fld UserData (2 ∷ []) ∷ [])

calm0 : Calm image0
unfolding run
calm0 = record { card = refl; bytes = all_bytes image0 refl; pause = refl; wrong = refl; held = refl }

stores_oil : Stores model image0 oil
unfolding run
stores_oil = record { ins = refl; bytes = all_bytes oil.request refl; number = refl; word = refl }

stores_belt : Stores model image0 belt
unfolding run
stores_belt = record { ins = refl; bytes = all_bytes belt.request refl; number = refl; word = refl }

later_held :
    (user_value UserData (decode (stored model (stored model image0 oil) belt)) ≡ 2 ∷ [])
    × (user_value UserData (decode (stored model (stored model image0 belt) oil)) ≡ 1 ∷ [])
unfolding run
later_held = (refl, refl)

-- nothing is refused, and the later one is held
pub shared_tag :
    Calm image0 × Stores model image0 oil × Stores model image0 belt
    × Stores model (stored model image0 oil) belt × Stores model (stored model image0 belt) oil
    × (user_value UserData (decode (stored model (stored model image0 oil) belt)) ≡ 2 ∷ [])
    × (user_value UserData (decode (stored model (stored model image0 belt) oil)) ≡ 1 ∷ [])
    × (stored model (stored model image0 oil) belt ≡ stored model (stored model image0 belt) oil → ⊥)
shared_tag = (
  calm0,
  stores_oil,
  stores_belt,
  still_stores model_demand2 image0 (calm_ready calm0) oil belt stores_oil stores_belt,
  still_stores model_demand2 image0 (calm_ready calm0) belt oil stores_belt stores_oil,
  later_held.0,
  later_held.1,
  λ e.
      let z = sym later_held.0 ∙ ap (λ m. user_value UserData (decode m)) e ∙ later_held.1 in
      let n : ◌≡◌ {A = ℕ} 2 1 = ap (λ l. get_or l 0 0) z in
      absurd (omega arith),
)

-- A REQUEST IS HELD AND THERE IS A PAUSE, of 1 second: the first, with 2B, was sent once, so that one second is left. The second has 2A
abbrev slow : List ℕ
slow = encode (fresh (paused_by 1 sheet0.fixed) sheet0.flags sheet0.codes)

abbrev hidden : Call
hidden = writes (fld UserProtectedData (3 ∷ []) ∷ [])

abbrev held : List ℕ
held = stored model slow hidden

apart_hidden : Apart (payload hidden.request) (payload oil.request)
unfolding run
apart_hidden = by_tag (λ t. (is_in t (payload hidden.request) && is_in t (payload oil.request)) ≡ false) refl refl refl refl

-- both are accepted when sent alone; after the second the first must wait again
pub held_first :
    (is_card held ≡ true) × Bytes held × ((wait_in held).wrong ≡ 0) × ((wait_in held).left ≡ 1)
    × Stores model held hidden × Stores model held oil × Apart (payload hidden.request) (payload oil.request)
    × ((model.taps.settle (holding (stored model held oil)) hidden).result.word ≡ sw_need_pause)
    × (stored model (stored model held hidden) oil ≡ stored model (stored model held oil) hidden → ⊥)
unfolding run
held_first = (
  refl,
  all_bytes held refl,
  refl,
  refl,
  record { ins = refl; bytes = all_bytes hidden.request refl; number = refl; word = refl },
  record { ins = refl; bytes = all_bytes oil.request refl; number = refl; word = refl },
  apart_hidden,
  refl,
  λ e. let n : ◌≡◌ {A = ℕ} 0 1 = ap (λ m. (wait_in m).left) e in absurd (omega arith),
)

-- the same card: the first sending goes on, and the second waits
pub held_twice :
    Stores model held hidden
    × ((model.taps.settle (holding (stored model held hidden)) hidden).result.word ≡ sw_need_pause)
    × (stored model (stored model held hidden) hidden ≡ stored model held hidden → ⊥)
unfolding run
held_twice = (
  held_first.4,
  refl,
  λ e. let n : ◌≡◌ {A = ℕ} 1 0 = ap (λ m. (wait_in m).left) e in absurd (omega arith),
)

-- ONE IS NO E0: a SIGN raises both user counters, and so a 2C that was sent before it, but not one that is sent after it
abbrev loaded : List ℕ
loaded = stored model image0 creates

abbrev counts : Call
counts = writes (fld UserCounter (be4 7) ∷ [])

calm1 : Calm loaded
unfolding run
calm1 = record { card = refl; bytes = all_bytes loaded refl; pause = refl; wrong = refl; held = refl }

apart_sign : Apart (payload (signs 1 5).request) (payload counts.request)
unfolding run
apart_sign = by_tag (λ t. (is_in t (payload (signs 1 5).request) && is_in t (payload counts.request)) ≡ false) refl refl refl refl

pub sign_between :
    Calm loaded × Accepts Sign model loaded (signs 1 5) × Stores model loaded counts × Apart (payload (signs 1 5).request) (payload counts.request)
    × ((decode (stored model (stored model loaded (signs 1 5)) counts)).face.front.counters.user ≡ 7)
    × ((decode (stored model (stored model loaded counts) (signs 1 5))).face.front.counters.user ≡ 8)
    × (stored model (stored model loaded (signs 1 5)) counts ≡ stored model (stored model loaded counts) (signs 1 5) → ⊥)
unfolding run
sign_between = (
  calm1,
  record { ins = refl; bytes = all_bytes (signs 1 5).request refl; number = refl; word = refl },
  record { ins = refl; bytes = all_bytes counts.request refl; number = refl; word = refl },
  apart_sign,
  refl,
  refl,
  λ e. let n : ◌≡◌ {A = ℕ} 7 8 = ap (λ m. (decode m).face.front.counters.user) e in absurd (omega arith),
)
