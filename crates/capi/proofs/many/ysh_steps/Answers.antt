-- A call of many bars. Assumes nothing.
use Rattle.capi.proofs.many.ysh_steps.Goals as goal

pub returns : goal.returns
returns c = c.call_bars.ensures
