-- The first word.
use Rattle.accounts.specs.{Status.is_stopped}
use Rattle.accounts.proofs.status.is_stopped.Goals as goal

pub returns : goal.returns
unfolding is_stopped
returns c = rw (← c.word.ensures)
