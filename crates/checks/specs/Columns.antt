-- Columns of a row, of a whole card and the view of a payload. Assumes nothing.
use Rattle.std.specs.Prelude.{Bool, not, ◌&&◌, ◌||◌, eqb, ltb}
use Rattle.fields.specs.Fields.{View, holds}
use Rattle.card.specs.declared.Card.{Card}
use Rattle.manual.specs.declared.Command.{Command}
use Rattle.manual.specs.Tags.{NewPIN1, NewPIN2}
use Rattle.manual.specs.Storage.{guarded, sent_counter}
use Rattle.manual.specs.Commands.{row}
use Rattle.manual.specs.Settle.{matched}

-- CHECK 12
abbrev pub conditions_of : Command → Card → View → Bool
conditions_of k c v = (row k).conditions (matched c.codes v) c.face v

-- of SET_PIN: a code that differs from the stored one may change
abbrev pub pin_conditions : Card → View → Bool
pin_conditions c v =
    (holds NewPIN1 v c.codes.pin1 || eqb c.face.front.flags.setpin1 1)
    && (holds NewPIN2 v c.codes.pin2 || eqb c.face.front.flags.setpin2 1)

-- of WRITE_ISSUER_DATA
abbrev pub issuer_conditions : Card → View → Bool
issuer_conditions c v = not (guarded c.face) || ltb c.face.held.issuer.counter (sent_counter v)
