use Rattle.std.proofs.Common.{[]}
use Rattle.sent.specs.Sent.{view}
use Rattle.card.specs.Image.{decode}
use Rattle.tells.proofs.tell_own.Goals as goal

-- These tell nothing of the view, the draw or the answers, so that the ones at hand will do.
pub returns-in-CreateWallet : goal.returns-in-CreateWallet
returns-in-CreateWallet c = rw c.in-CreateWallet.is (c.tell_created.ensures (view c.args.sent.now) [] [])

pub returns-in-Sign : goal.returns-in-Sign
returns-in-Sign c = rw c.in-Sign.is (c.tell_signed.ensures (view c.args.sent.now) [] [])

pub returns-in-VerifyCard : goal.returns-in-VerifyCard
returns-in-VerifyCard c = rw c.in-VerifyCard.is (c.tell_verified.ensures (decode c.args.img.now).face (view c.args.sent.now))

pub returns-in-ValidateCard : goal.returns-in-ValidateCard
returns-in-ValidateCard c = rw c.in-ValidateCard.is (c.tell_validated.ensures (view c.args.sent.now) [])

pub returns-in-PurgeWallet : goal.returns-in-PurgeWallet
returns-in-PurgeWallet c = rw c.in-PurgeWallet.is (c.tell_purged.ensures (view c.args.sent.now) [] [])

pub returns-in-ReadUserData : goal.returns-in-ReadUserData
returns-in-ReadUserData c = rw c.in-ReadUserData.is (c.tell_user.ensures (view c.args.sent.now) [] [])

pub returns-in-ReadIssuerData : goal.returns-in-ReadIssuerData
returns-in-ReadIssuerData c = rw c.in-ReadIssuerData.is (c.tell_issuer.ensures (view c.args.sent.now) [] [])
