use Rattle.cards.proofs.Shape.{long_wallet}
use Rattle.writing.proofs.Laws.{guarded, barred}
use Rattle.writing.proofs.anew.wallet.Goals as goal

pub returns-then-not-has_room : goal.returns-then-not-has_room
returns-then-not-has_room c = barred (long_wallet c.args.x) c.if-not-has_room.ensures

pub returns : goal.returns
returns c = guarded (long_wallet c.args.x) c.if-not-has_room.ensures c.write_wallet.ensures
