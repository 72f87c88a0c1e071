-- No where there is no bar n back; else the comparison of the two values. Assumes nothing.
use Rattle.words.specs.Prelude.{lt-ltb, le-ltb}
use Rattle.rules.proofs.conditions.compare_prev.Goals as goal

pub returns-then-bar-back : goal.returns-then-bar-back
returns-then-bar-back c = rw (lt-ltb _ _ c.if-bar-back.true)

pub returns : goal.returns
returns c =
    rw (le-ltb _ _ c.if-bar-back.false, ← c.eval_operand-now.ensures, ← c.eval_operand-then.ensures) c.trended.ensures
