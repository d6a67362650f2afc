-- A CARD'S IMAGE, once it is tested: the card that it holds. Assumes nothing.
use Rattle.card.specs.declared.Card.{Card}
use Rattle.card.specs.Image.{decode}
use Rattle.practice.specs.declared.whole.Whole.{Whole}

abbrev pub card_in : Whole → Card
card_in w = decode w.bytes.now
