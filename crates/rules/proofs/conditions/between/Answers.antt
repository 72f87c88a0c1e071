-- The comparison of the three values. Assumes nothing.
use Rattle.rules.proofs.conditions.between.Goals as goal

pub returns : goal.returns
returns c =
    rw (← c.eval_operand-v.ensures, ← c.eval_operand-l.ensures, ← c.eval_operand-h.ensures)
    c.within.ensures
