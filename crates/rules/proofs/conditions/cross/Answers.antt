-- No at bar 0; else the cross of the four values. Assumes nothing.
use Rattle.words.specs.Prelude.{eq-eqb, ne_eqb}
use Rattle.rules.proofs.conditions.cross.Goals as goal

pub returns-then-bar-eq0 : goal.returns-then-bar-eq0
returns-then-bar-eq0 c = rw (eq-eqb _ _ c.if-bar-eq0.true)

pub returns : goal.returns
returns c =
    rw (ne_eqb _ _ c.if-bar-eq0.false, ← c.eval_operand-x.ensures, ← c.eval_operand-y.ensures, ← c.eval_operand-x_before.ensures, ← c.eval_operand-y_before.ensures)
    c.crossed.ensures
