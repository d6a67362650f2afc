use Rattle.wire.proofs.Laws.{wrote_none}
use Rattle.handed.specs.Handed.{printed, handed_parts}
use Rattle.booktext.specs.BookText.{meaning}
use Rattle.handed.proofs.Laws.{joined_front}
use Rattle.handed.proofs.handed.Goals as goal

pub slice_bounds-joined-end : goal.slice_bounds-joined-end
slice_bounds-joined-end c = (joined_front (meaning c.args.first.now) (meaning c.args.second.now) c.in-Ok.ensures).few

pub slice_bounds-put_lines-end : goal.slice_bounds-put_lines-end
slice_bounds-put_lines-end c = (joined_front (meaning c.args.first.now) (meaning c.args.second.now) c.in-Ok.ensures).count

pub returns-in-Ok : goal.returns-in-Ok
unfolding handed_parts printed
returns-in-Ok c = rw (← c.in-Ok.ensures.0, ← (joined_front (meaning c.args.first.now) (meaning c.args.second.now) c.in-Ok.ensures).notes) c.put_lines.ensures.0

pub returns-in-Err-BadLine : goal.returns-in-Err-BadLine
unfolding handed_parts printed
returns-in-Err-BadLine c =
    rw (← c.in-Err-BadLine.ensures.0, c.in-Err-BadLine.field-0-is, ← c.in-Err-BadLine.book-is, ← c.in-Err-BadLine.line-is) c.put_told.ensures

pub returns-in-Err-Clash : goal.returns-in-Err-Clash
unfolding handed_parts printed
returns-in-Err-Clash c =
    rw (← c.in-Err-Clash.ensures.0, c.in-Err-Clash.field-0-is, ← c.in-Err-Clash.tablet-is, ← c.in-Err-Clash.number-is) c.put_told-in-Err-Clash.ensures

pub returns-in-Err-Full : goal.returns-in-Err-Full
unfolding handed_parts printed
returns-in-Err-Full c = rw (← c.in-Err-Full.ensures.0, c.in-Err-Full.field-0-is) c.put_full.ensures

pub returns-in-Err-NoRoom : goal.returns-in-Err-NoRoom
unfolding handed_parts printed
returns-in-Err-NoRoom c = rw (← c.in-Err-NoRoom.ensures.0, c.in-Err-NoRoom.field-0-is) wrote_none
