-- `check` meets its contract: it is the reader of every version that there is.
-- Assumes nothing.
use Rattle.table.specs.{Checked.checked, Ends.ends_beside}
use Rattle.table.proofs.check.Goals as goal

pub returns : goal.returns
unfolding checked ends_beside
returns c = c.check_up_to.ensures
