-- WHAT HOLDS OF EVERY ROW, as one record of facts; whatever holds of all commands cites that. Assumes nothing.
use Prim.Native.Nat.{ℕ, ◌+◌, ◌≤◌}
use native.Mathlib.Omega.{arith}
use mathlib.Core.Path.{◌≡◌}
use mathlib.Core.List.{List}
use mathlib.Core.Bool.{true}
use lib.ListN.{length}
use Rattle.wire.proofs.Laws.{part_most}
use Rattle.fields.specs.Fields.{View, Writable, written}
use Rattle.card.specs.declared.Codes.{Codes}
use Rattle.card.specs.declared.Face.{Face}
use Rattle.card.specs.Layout.{cid_size, seed_size, key_room, data_room, signature_size, last_room, block_width}
use Rattle.card.specs.Layout.{fixed_at, key_at, user_at, protected_at, issuer_at, last_at}
use Rattle.card.specs.Image.{decode}
use Rattle.card.specs.Shape.{ShapeCodes, ShapeFace}
use Rattle.manual.specs.Words.{questions_room, response_room}
use Rattle.manual.specs.Row.{Row, Matched, asked}
use Rattle.manual.specs.Settle.{fields_of}
use Rattle.facts.proofs.Sizes.{weight, load, light_writes, light_written, asked_long}

-- a face that is as small as a card's: what is read from any bytes is, and what has its shape
pub record Small (f : Face) : Type 0 where
  pub cid : length f.front.fixed.cid ≤ cid_size
  pub seed : length f.front.fixed.seed ≤ seed_size
  pub key : length f.front.key.bytes ≤ key_room
  pub user : length f.held.user.bytes ≤ data_room
  pub protected : length f.held.protected.bytes ≤ data_room
  pub note : length f.held.issuer.block.bytes ≤ data_room
  pub signature : length f.held.issuer.signature ≤ signature_size
  pub last : length f.last.signatures ≤ last_room

pub small_decode : (l : List ℕ) → Small (decode l).face
unfolding decode
small_decode l =
    record {
      cid = part_most l fixed_at cid_size;
      seed = part_most l (fixed_at + 16) seed_size;
      key = part_most l (key_at + 1) key_room;
      user = part_most l (user_at + 2) data_room;
      protected = part_most l (protected_at + 2) data_room;
      note = part_most l (issuer_at + 2) data_room;
      signature = part_most l (issuer_at + block_width) signature_size;
      last = part_most l (last_at + 1) last_room;
    }

pub small_shape : {f : Face} → ShapeFace f → Small f
small_shape s =
    record {
      cid = omega (arith, s.front.fixed.cid);
      seed = omega (arith, s.front.fixed.seed);
      key = omega (arith, s.front.key);
      user = omega (arith, s.held.user);
      protected = omega (arith, s.held.protected);
      note = omega (arith, s.held.issuer.block);
      signature = omega (arith, s.held.issuer.signature);
      last = omega (arith, s.last);
    }

pub record Facts (r : Row) : Type 0 where
  -- whatever is stored, the arrays have their lengths
  pub shape : (f : Face) (v : View) (a : List ℕ) → ShapeFace f → ShapeFace (r.next f v a)
  pub codes : (v : View) (x : Codes) → ShapeCodes x → ShapeCodes (r.recode v x)
  -- 9000 to 9003
  pub more : (m : Matched) → r.more m ≤ 3
  -- what its questions weigh where check 11 has passed, and what a response does, of the face after, with CID and a status word
  pub loads : (f : Face) (v : View) (d : List ℕ) → Small f → r.fields f v ≡ true → load (r.questions f v d) ≤ questions_room
  pub weighs : (f : Face) (v : View) (d a : List ℕ) → Small f → weight (fields_of r f v d a) + 2 ≤ response_room

-- so the questions fit their buffer, and a response can be written and fits its own
module _ {r : Row} (x : Facts r) (f : Face) (v : View) (d : List ℕ) where
  pub asks : Small f → r.fields f v ≡ true → length (asked (r.questions f v d)) ≤ questions_room
  asks s e = omega (arith, asked_long (r.questions f v d), x.loads f v d s e)

  pub writes : (a : List ℕ) → Small f → Writable (fields_of r f v d a)
  writes a s = light_writes (fields_of r f v d a) (omega (arith, x.weighs f v d a s))

  pub tells : (a : List ℕ) → Small f → length (written (fields_of r f v d a)) + 2 ≤ response_room
  tells a s = omega (arith, light_written (fields_of r f v d a) (writes a s), x.weighs f v d a s)
