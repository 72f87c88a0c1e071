-- A call of one bar. Assumes nothing.
use Rattle.stepping.proofs.{Stepping.one_call}
use Rattle.capi.proofs.bars.ysh_step.Goals as goal

pub returns : goal.returns
returns c = one_call _ _ _ _ _ c.call_bars.ensures
