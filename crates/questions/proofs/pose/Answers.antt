use Rattle.std.proofs.Common.{[]}
use Rattle.sent.specs.Sent.{view}
use Rattle.questions.proofs.pose.Goals as goal

-- These ask nothing of the draw, and two of them nothing of the view, so that the ones at hand will do.
pub returns-in-CreateWallet : goal.returns-in-CreateWallet
returns-in-CreateWallet c = rw c.in-CreateWallet.is (c.pose_key.ensures (view c.args.sent.now) [])

pub returns-in-Sign : goal.returns-in-Sign
returns-in-Sign c = rw c.in-Sign.is (c.pose_sign.ensures [])

pub returns-in-ValidateCard : goal.returns-in-ValidateCard
returns-in-ValidateCard c = rw c.in-ValidateCard.is (c.pose_validate.ensures (view c.args.sent.now) [])

pub returns-in-WriteIssuerData : goal.returns-in-WriteIssuerData
returns-in-WriteIssuerData c = rw c.in-WriteIssuerData.is (c.pose_issuer.ensures [])

pub returns-in-ActivateCard : goal.returns-in-ActivateCard
returns-in-ActivateCard c = rw c.in-ActivateCard.is (c.pose_activation.ensures [])
