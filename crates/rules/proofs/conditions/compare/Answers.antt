-- The comparison of the two values. Assumes nothing.
use Rattle.rules.proofs.conditions.compare.Goals as goal

pub returns : goal.returns
returns c = rw (← c.eval_operand-x.ensures, ← c.eval_operand-y.ensures) c.compared.ensures
