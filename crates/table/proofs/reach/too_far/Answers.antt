-- `too_far` meets its contract.
-- Assumes nothing.
use Rattle.table.proofs.reach.too_far.Goals as goal

pub returns : goal.returns
returns c = cc
