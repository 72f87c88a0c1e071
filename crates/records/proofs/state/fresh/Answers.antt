-- The account is the only part that a call makes.
use Rattle.records.specs.{State.fresh_state}
use Rattle.records.proofs.state.fresh.Goals as goal

pub returns : goal.returns
unfolding fresh_state
returns c = cc
