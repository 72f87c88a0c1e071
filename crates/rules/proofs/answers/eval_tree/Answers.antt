-- An absent tree is told by its count; any other is evaluated at its root. Assumes nothing.
use Rattle.words.specs.Prelude.{eq-eqb, ne_eqb}
use Rattle.rules.specs.{Meaning.says}
use Rattle.rules.proofs.answers.eval_tree.Goals as goal

pub returns-then-count-eq0 : goal.returns-then-count-eq0
unfolding says
returns-then-count-eq0 c = rw (← c.count.ensures.0, eq-eqb _ _ c.if-count-eq0.true)

pub returns : goal.returns
unfolding says
returns c =
    rw (← c.count.ensures.0, ne_eqb _ _ c.if-count-eq0.false, ← c.slots-slots.ensures, ← c.root-root.ensures.0, ← c.newest.ensures)
    c.eval_condition.ensures
