-- The portfolio alone changes.
use Rattle.engine.specs.{Account.facing}
use Rattle.engine.proofs.account.facing.Goals as goal

pub returns : goal.returns
unfolding facing
returns c = cc
