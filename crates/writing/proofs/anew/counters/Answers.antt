use Rattle.cards.proofs.Shape.{long_counters}
use Rattle.writing.proofs.Laws.{guarded, barred}
use Rattle.writing.proofs.anew.counters.Goals as goal

pub returns-then-not-has_room : goal.returns-then-not-has_room
returns-then-not-has_room c = barred (long_counters c.args.x) c.if-not-has_room.ensures

pub returns : goal.returns
returns c = guarded (long_counters c.args.x) c.if-not-has_room.ensures c.write_counters.ensures
