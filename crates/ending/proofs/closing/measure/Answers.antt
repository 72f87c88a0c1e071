-- The figures are over the first records of each room. Assumes nothing.
use Rattle.engine.specs.{Finish.measured}
use Rattle.ending.proofs.closing.measure.Goals as goal

pub returns : goal.returns
unfolding measured
returns c = cc
