use Rattle.std.proofs.Common.{eq-eqb, ne_eqb}
use Rattle.fields.proofs.Laws.{empty_wrote}
use Rattle.changes.specs.Carried.{kept_image}
use Rattle.changes.proofs.keep.Goals as goal

pub returns-then-img-eq-IMAGE_SIZE : goal.returns-then-img-eq-IMAGE_SIZE
unfolding kept_image
returns-then-img-eq-IMAGE_SIZE c = rw (eq-eqb _ _ c.if-img-eq-IMAGE_SIZE.true) c.put_bytes.ensures

pub returns-else-img-eq-IMAGE_SIZE : goal.returns-else-img-eq-IMAGE_SIZE
unfolding kept_image
returns-else-img-eq-IMAGE_SIZE c = empty_wrote (rw (ne_eqb _ _ c.if-img-eq-IMAGE_SIZE.false))
