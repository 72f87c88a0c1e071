-- Three words.
use Rattle.accounts.specs.{Status.stopped_with}
use Rattle.accounts.proofs.status.stop.Goals as goal

pub returns : goal.returns
unfolding stopped_with
returns c = c.put.ensures
