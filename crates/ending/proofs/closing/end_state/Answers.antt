-- Field by field. Assumes nothing.
use Rattle.engine.specs.{Finish.end_state}
use Rattle.ending.proofs.closing.end_state.Goals as goal

pub returns : goal.returns
unfolding end_state
returns c = cc
