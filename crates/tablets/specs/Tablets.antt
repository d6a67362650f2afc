-- TWO TABLETS WRITING, 02 Ask 11: what its theorems speak of. Below, f is a card, m an image, i and j are calls, q and r requests. Assumes nothing.
use Rattle.std.specs.Prelude.{ℕ, ◌≡◌, List, [], ◌∷◌, Bool, true, false, cond, ◌&&◌, ◌⊎◌, eqb}
use Rattle.wire.specs.Wire.{be4, Bytes}
use Rattle.fields.specs.Fields.{view_of, has, val}
use Rattle.card.specs.declared.Block.{Block}
use Rattle.card.specs.declared.Counters.{Counters}
use Rattle.card.specs.declared.Card.{Card}
use Rattle.card.specs.Values.{block_of, no_block, no_pending, faced, with_user, with_protected, with_counters}
use Rattle.card.specs.Image.{decode}
use Rattle.card.specs.Valid.{is_card}
use Rattle.manual.specs.Words.{sw_process_completed}
use Rattle.manual.specs.Tags.{UserData, UserProtectedData, UserCounter, UserProtectedCounter}
use Rattle.manual.specs.declared.Command.{Command}
use Rattle.manual.specs.declared.Command.TheVariants.{ReadUserData, WriteUserData}
use Rattle.manual.specs.Request.{code, payload}
use Rattle.manual.specs.Settle.{holding, Call, sent_in, waiting}
use Rattle.story.specs.Sums.{ins}
use Rattle.history.specs.Demands.{AnyCard, wait_in, taps_of, image_by, left}
use Rattle.history.specs.Facts.{is_of}

-- "With `pause` 0, no wrong codes counted and no request held": m is a card, in bytes, and of no request a byte is held
pub record Calm (m : List ℕ) : Type 0 where
  pub card : is_card m ≡ true
  pub bytes : Bytes m
  pub pause : (decode m).face.front.fixed.pause ≡ 0
  pub wrong : (wait_in m).wrong ≡ 0
  pub held : (wait_in m).size ≡ 0

-- less is enough: no request is held, or there is no pause
abbrev pub Free : List ℕ → Type 0
Free m = ((wait_in m).size ≡ 0) ⊎ ((decode m).face.front.fixed.pause ≡ 0)

pub record Ready (m : List ℕ) : Type 0 where
  pub card : is_card m ≡ true
  pub bytes : Bytes m
  pub free : Free m

-- "accepted when sent alone": a request for this command, in bytes, to which settle, given m, says number 0 and 9000. Draw and buffers are
-- whatever they are, and may differ from call to call
pub record Accepts (k : Command) (f : AnyCard) (m : List ℕ) (i : Call) : Type 0 where
  pub ins : ins i.request ≡ code k
  pub bytes : Bytes i.request
  pub number : (f.taps.settle (holding m) i).result.number ≡ 0
  pub word : (f.taps.settle (holding m) i).result.word ≡ sw_process_completed

-- E0 WRITE_USER_DATA and E1 READ_USER_DATA
abbrev pub Stores : AnyCard → List ℕ → Call → Type 0
Stores = Accepts WriteUserData

abbrev pub Reads : AnyCard → List ℕ → Call → Type 0
Reads = Accepts ReadUserData

-- the card afterwards
abbrev pub stored : AnyCard → List ℕ → Call → List ℕ
stored f m i = image_by f (holding m) i

-- "2A to 2D"
abbrev pub user_tags : List ℕ
user_tags = UserData ∷ UserProtectedData ∷ UserCounter ∷ UserProtectedCounter ∷ []

-- a tag is in a payload; "none of 2A to 2D is in both": presence counts, not content
abbrev pub is_in : ℕ → List ℕ → Bool
is_in t p = has t (view_of p)

abbrev pub Apart : List ℕ → List ℕ → Type 0
Apart p p' = (t : ℕ) → is_of t user_tags ≡ true → (is_in t p && is_in t p') ≡ false

-- "the card afterwards is the same in either order": the image, to the byte; and both are accepted in either order
pub record EitherOrder (f : AnyCard) (m : List ℕ) (i j : Call) : Type 0 where
  pub same : stored f (stored f m i) j ≡ stored f (stored f m j) i
  pub second : Stores f (stored f m i) j
  pub first : Stores f (stored f m j) i

-- ANY NUMBER OF THEM, each accepted when sent alone; the card after them all, one after the other; and that each is accepted in its turn
abbrev pub AllStore : AnyCard → List ℕ → List Call → Type 0
AllStore f m [] = Unit {0}
AllStore f m (i ∷ is) = Stores f m i × AllStore f m is

abbrev pub stored_all : AnyCard → List ℕ → List Call → List ℕ
stored_all f m is = (left f (holding m) (taps_of is)).image

abbrev pub InTurn : AnyCard → List ℕ → List Call → Type 0
InTurn f m [] = Unit {0}
InTurn f m (i ∷ is) = Stores f m i × InTurn f (stored f m i) is

-- q is the request of one of them
pub data Sent (q : List ℕ) : List Call → Type 0 where
  now : {i : Call} {is : List Call} → i.request ≡ q → Sent q (i ∷ is)
  later : {i : Call} {is : List Call} → Sent q is → Sent q (i ∷ is)

-- two requests are one, sent again, or are apart; so are any two of them
pub data Compatible (q r : List ℕ) : Type 0 where
  again : q ≡ r → Compatible q r
  apart : Apart (payload q) (payload r) → Compatible q r

abbrev pub TwoByTwo : List Call → Type 0
TwoByTwo is = (q r : List ℕ) → Sent q is → Sent r is → Compatible q r

-- the same requests, whatever their order, and however often each is sent
pub record SameSent (is js : List Call) : Type 0 where
  pub there : (q : List ℕ) → Sent q is → Sent q js
  pub back : (q : List ℕ) → Sent q js → Sent q is

-- WHAT A CARD HOLDS under 2A, 2B, 2C or 2D: bytes of data, or a counter in four bytes
abbrev pub user_value : ℕ → Card → List ℕ
user_value t c =
    cond (eqb t UserData) (block_of c.face.held.user)
    (cond (eqb t UserProtectedData) (block_of c.face.held.protected)
    (cond (eqb t UserCounter) (be4 c.face.front.counters.user)
    (be4 c.face.front.counters.protected)))

-- c with these as its user data, and nothing held or counted; and with none of it
abbrev pub with_user_data : Block → Block → ℕ → ℕ → Card → Card
with_user_data x y n k c =
    let z : Counters = c.face.front.counters in
    waiting no_pending
    (faced
    (with_counters (record { checks = z.checks; validations = z.validations; user = n; protected = k }) (with_protected y (with_user x c.face)))
    c)

abbrev pub without_user_data : Card → Card
without_user_data c = with_user_data no_block no_block 0 0 c

-- c' is the card c after these calls: under each of the four tags it holds what the one request with this tag has there, or what c holds where none has;
-- but for user data and the wait it is c
pub record WrittenBy (is : List Call) (c c' : Card) : Type 0 where
  pub sent : (t : ℕ) → is_of t user_tags ≡ true → (q : List ℕ) → Sent q is → is_in t (payload q) ≡ true → user_value t c' ≡ val t (sent_in q)
  pub old : (t : ℕ) → is_of t user_tags ≡ true → ((q : List ℕ) → Sent q is → is_in t (payload q) ≡ false) → user_value t c' ≡ user_value t c
  pub rest : without_user_data c' ≡ without_user_data c
