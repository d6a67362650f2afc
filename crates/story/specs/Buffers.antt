-- WHAT THE CALLER READS out of the buffers after a call: the questions, the response, and the image for the next call, which is the old one unless the
-- number is 0. Assumes nothing.
use Rattle.std.specs.Prelude.{ℕ, List, [], cond, take, eqb}
use Rattle.card.specs.Layout.{image_size}
use Rattle.manual.specs.Settle.{Posed, Settled, Off}

abbrev pub questions : Posed → List ℕ
questions x = cond (eqb x.result.number 0) (take x.result.length x.questions) []

abbrev pub response : Settled → List ℕ
response x = cond (eqb x.result.number 0) (take x.result.length x.response) []

abbrev pub image : List ℕ → Settled → List ℕ
image m x = cond (eqb x.result.number 0) (take image_size x.next) m

-- after a power-off
abbrev pub image_off : List ℕ → Off → List ℕ
image_off m x = cond (eqb x.result.number 0) (take image_size x.next) m
