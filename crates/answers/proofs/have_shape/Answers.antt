use Rattle.card.specs.Image.{decode}
use Rattle.answers.proofs.have_shape.Goals as goal

pub returns-in-Sign : goal.returns-in-Sign
returns-in-Sign c = λ d. rw c.in-Sign.is (c.sign_answers.ensures (decode c.args.img.now).face d)
