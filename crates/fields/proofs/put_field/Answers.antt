use Rattle.fields.proofs.Laws.{tlv_none, empty_wrote}
use Rattle.fields.proofs.put_field.Goals as goal

pub returns-else-n-lt65536 : goal.returns-else-n-lt65536
returns-else-n-lt65536 c = empty_wrote (tlv_none c.args.tag c.args.v.now c.if-n-lt65536.false)
