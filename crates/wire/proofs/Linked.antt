-- WHERE ITS CODE STANDS: in a world that has this crate's table, and the code that it calls of other crates, what they call here is found, with all that it
-- calls. Assumes nothing.
use mathlib.Core.Bool.{true}
use prog.Linked.{Tree, World, Holds, in_world}
use prog.LinkedThreads.{HasT}
use Rattle.wire.proofs.TheLink
use Rattle.wire.proofs.be2.Symbol as be2_code
use Rattle.wire.proofs.be4.Symbol as be4_code
use Rattle.wire.proofs.equal.Symbol as equal_code
use Rattle.wire.proofs.get16.Symbol as get16_code
use Rattle.wire.proofs.get32.Symbol as get32_code
use Rattle.wire.proofs.get8.Symbol as get8_code
use Rattle.wire.proofs.give.Symbol as give_code
use Rattle.wire.proofs.has_room.Symbol as has_room_code
use Rattle.wire.proofs.padded.Symbol as padded_code
use Rattle.wire.proofs.part.Symbol as part_code
use Rattle.wire.proofs.put16.Symbol as put16_code
use Rattle.wire.proofs.put32.Symbol as put32_code
use Rattle.wire.proofs.put8.Symbol as put8_code
use Rattle.wire.proofs.put_bytes.Symbol as put_bytes_code
use Rattle.wire.proofs.put_padded.Symbol as put_padded_code
use Rattle.wire.proofs.rest.Symbol as rest_code
use Rattle.wire.proofs.zero_from.Symbol as zero_from_code

abbrev pub table : Tree
table = TheLink.table

-- what it calls of other crates
abbrev pub Below : World → Type 0
Below W = TheLink.Below W

module _ (W : World) (here : Holds W "wire" table) (below : Below W) where
  pub has_be2 : HasT (in_world W) true be2_code.code
  has_be2 = TheLink.linked-wire::be2 W here below

  pub has_be4 : HasT (in_world W) true be4_code.code
  has_be4 = TheLink.linked-wire::be4 W here below

  pub has_equal : HasT (in_world W) true equal_code.code
  has_equal = TheLink.linked-wire::equal W here below

  pub has_get16 : HasT (in_world W) true get16_code.code
  has_get16 = TheLink.linked-wire::get16 W here below

  pub has_get32 : HasT (in_world W) true get32_code.code
  has_get32 = TheLink.linked-wire::get32 W here below

  pub has_get8 : HasT (in_world W) true get8_code.code
  has_get8 = TheLink.linked-wire::get8 W here below

  pub has_give : HasT (in_world W) true give_code.code
  has_give = TheLink.linked-wire::give W here below

  pub has_has_room : HasT (in_world W) true has_room_code.code
  has_has_room = TheLink.linked-wire::has_room W here below

  pub has_padded : HasT (in_world W) true padded_code.code
  has_padded = TheLink.linked-wire::padded W here below

  pub has_part : HasT (in_world W) true part_code.code
  has_part = TheLink.linked-wire::part W here below

  pub has_put16 : HasT (in_world W) true put16_code.code
  has_put16 = TheLink.linked-wire::put16 W here below

  pub has_put32 : HasT (in_world W) true put32_code.code
  has_put32 = TheLink.linked-wire::put32 W here below

  pub has_put8 : HasT (in_world W) true put8_code.code
  has_put8 = TheLink.linked-wire::put8 W here below

  pub has_put_bytes : HasT (in_world W) true put_bytes_code.code
  has_put_bytes = TheLink.linked-wire::put_bytes W here below

  pub has_put_padded : HasT (in_world W) true put_padded_code.code
  has_put_padded = TheLink.linked-wire::put_padded W here below

  pub has_rest : HasT (in_world W) true rest_code.code
  has_rest = TheLink.linked-wire::rest W here below

  pub has_zero_from : HasT (in_world W) true zero_from_code.code
  has_zero_from = TheLink.linked-wire::zero_from W here below

-- all of them
pub ruleset linked = (has_be2, has_be4, has_equal, has_get16, has_get32, has_get8, has_give, has_has_room, has_padded, has_part, has_put16, has_put32, has_put8, has_put_bytes, has_put_padded, has_rest, has_zero_from)
