use Prim.Native.Nat.{suc, ◌+◌}
use native.Mathlib.Omega.{arith}
use mathlib.Core.Path.{◌≡◌, ap, ◌∙◌}
use mathlib.Core.Bool.{false}
use lib.ListN.{length, replicate}
use Rattle.wire.specs.Wire.{part}
use Rattle.text.specs.Text.{unhex}
use Rattle.manual.specs.Words.{response_room}
use Rattle.manual.specs.Settle.{over}
use Rattle.story.specs.Sums.{tap}
use Rattle.tapline.specs.Line.{recorded_in}
use Rattle.sums.specs.Counted.{counted}
use Rattle.recording.specs.Play.{call_of}
use Rattle.recording.specs.Step.{settled_in, renewed, left_by}
use Rattle.recording.proofs.Laws.{request_fits, small_part, said_is, same_line}
use borrow.Author.Rules.{rules}
use Rattle.recording.proofs.tap.Goals as goal

pub bytes_of-request-requires : goal.bytes_of-request-requires
bytes_of-request-requires c = rw c.request.ensures (request_fits c.args.l.now c.requires.1)

pub print_tap-length-requires : goal.print_tap-length-requires
print_tap-length-requires c = (rw c.part-said.ensures (small_part _ _ response_room (search rules)), c.requires.2)

pub returns : goal.returns
returns c = let y = c.args in
    let m = y.img.now in
    let l = y.l.now in
    let request = c.bytes_of-request.ensures ∙ ap unhex c.request.ensures in
    let gave = c.settle-o.ensures in
    let given = ap (λ q. settled_in m q l (replicate response_room 0)) request in
    let result = gave.result ∙ ap (λ z. z.result) given in
    let response = gave.response ∙ ap (λ z. z.response) given in
    let image = gave.image ∙ ap (λ z. renewed z.result.number z.next m) given in
    let told =
    c.part-said.ensures
    ∙ (λ j. part (response j) 0 (result j).length)
    ∙ said_is m (call_of (recorded_in l)) in
    let sums = c.count.ensures ∙ (λ j. counted y.play.sums (tap (request j) (told j))) in
    let taps : y.play.taps + 1 ≡ suc y.play.taps = omega arith in
    let line = same_line taps c.expected.ensures (ap (λ z. z.number) result) told in
    let size = c.print_tap-length.ensures.size ∙ ap length line in
    let bytes = c.print_tap-length.ensures.bytes ∙ ap (λ v. over v y.out.now) line in
    λ j. left_by (record { play = record { taps = taps j; sums = sums j; paused = y.play.paused; ended = false }; length = size j }) (image j) (bytes j)
