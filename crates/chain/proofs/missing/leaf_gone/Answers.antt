-- Missing where there is no such bar, or by the value there. Assumes nothing.
use Rattle.words.specs.Prelude.{lt-ltb, le-ltb}
use Rattle.chain.specs.{Missing.leaf_gone, Missing.gone_if}
use Rattle.chain.proofs.missing.leaf_gone.Goals as goal

pub returns-then-bar-back : goal.returns-then-bar-back
unfolding leaf_gone gone_if
returns-then-bar-back c = rw (lt-ltb _ _ c.if-bar-back.true)

pub returns-in-None : goal.returns-in-None
unfolding leaf_gone gone_if
returns-in-None c = rw (le-ltb _ _ c.if-bar-back.false, ← c.eval_operand.ensures, c.in-None.is)

pub returns-in-Some : goal.returns-in-Some
unfolding leaf_gone gone_if
returns-in-Some c = rw (le-ltb _ _ c.if-bar-back.false, ← c.eval_operand.ensures, c.in-Some.is)
