-- The portfolio alone changes.
use Rattle.engine.specs.{Account.charged}
use Rattle.engine.proofs.account.charge_funding.Goals as goal

pub returns : goal.returns
unfolding charged
returns c = cc
