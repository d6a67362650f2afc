use Rattle.fields.proofs.Laws.{both_wrote, neither_wrote}
use Rattle.fields.proofs.put_both.Goals as goal

pub returns-then-not-has_room : goal.returns-then-not-has_room
returns-then-not-has_room c = neither_wrote c.args.head.now c.args.v.now (cc)

pub returns : goal.returns
returns c = both_wrote (cc) c.put_bytes-b.ensures c.put_bytes.ensures
