use Rattle.std.proofs.Common.{arith}
use Rattle.std.proofs.lemmas.Grind.{common_steps}
use Rattle.sheet.specs.Sheet.{some_line}
use Rattle.personalise.specs.Personalise.{personalised}
use Rattle.personalise.proofs.Laws.{written}
use Rattle.personalise.proofs.personalise.Goals as goal

pub returns : goal.returns
unfolding personalised some_line
returns c = grind (arith, common_steps, written c.write.ensures.0 c.write.ensures.1 c.if-image-lt-IMAGE_ROOM.false)
