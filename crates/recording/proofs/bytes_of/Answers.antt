use mathlib.Core.Path.{◌∙◌}
use Rattle.recording.proofs.Laws.{read_back}
use Rattle.recording.proofs.bytes_of.Goals as goal

pub returns : goal.returns
returns c = c.part.ensures ∙ read_back c.unhex-n.ensures c.requires
