-- The exit, then the position without it.
use Rattle.engine.specs.{Account.exit_filled}
use Rattle.engine.proofs.account.leave.Goals as goal

pub returns : goal.returns
unfolding exit_filled
returns c = cc
