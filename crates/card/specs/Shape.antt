-- The shape of a card: its arrays have their lengths. Every card that code holds, and every card that an image of the right length spells, has it. Assumes
-- nothing.
use Rattle.std.specs.Prelude.{◌≡◌, length}
use Rattle.card.specs.declared.Codes.{Codes}
use Rattle.card.specs.declared.Fixed.{Fixed}
use Rattle.card.specs.declared.Issuer.{Issuer}
use Rattle.card.specs.declared.Front.{Front}
use Rattle.card.specs.declared.Held.{Held}
use Rattle.card.specs.declared.Face.{Face}
use Rattle.card.specs.declared.Card.{Card}
use Rattle.card.specs.Layout.{pin_size, cid_size, cvc_size, seed_size, key_room, data_room, signature_size, held_room, last_room}

pub record ShapeCodes (x : Codes) : Type 0 where
  pub pin1 : length x.pin1 ≡ pin_size
  pub pin2 : length x.pin2 ≡ pin_size

pub record ShapeFixed (x : Fixed) : Type 0 where
  pub cid : length x.cid ≡ cid_size
  pub cvc : length x.cvc ≡ cvc_size
  pub seed : length x.seed ≡ seed_size

pub record ShapeIssuer (x : Issuer) : Type 0 where
  pub block : length x.block.bytes ≡ data_room
  pub signature : length x.signature ≡ signature_size

pub record ShapeFront (x : Front) : Type 0 where
  pub fixed : ShapeFixed x.fixed
  pub key : length x.key.bytes ≡ key_room

pub record ShapeHeld (x : Held) : Type 0 where
  pub user : length x.user.bytes ≡ data_room
  pub protected : length x.protected.bytes ≡ data_room
  pub issuer : ShapeIssuer x.issuer

pub record ShapeFace (x : Face) : Type 0 where
  pub front : ShapeFront x.front
  pub held : ShapeHeld x.held
  pub pending : length x.pending.request ≡ held_room
  pub last : length x.last.signatures ≡ last_room

pub record Shape (c : Card) : Type 0 where
  pub codes : ShapeCodes c.codes
  pub face : ShapeFace c.face
