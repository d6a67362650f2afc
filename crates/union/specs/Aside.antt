-- TWO LISTS SIDE BY SIDE, as the iterator over them has them. Assumes nothing.
use Rattle.std.specs.Prelude.{List}
use Rattle.union.specs.declared.Aside.{Aside}
use Rattle.union.specs.Union.{Pair, aside}

abbrev pub pairs_left : Aside → List Pair
pairs_left s = aside s.first.now s.second.now
