-- Each of the four says it of its own step.
use Rattle.words.specs.Prelude.{sym, true≢false}
use Rattle.steps.proofs.quick.phrase_yes.Goals as goal

pub returns-then-leaf_there : goal.returns-then-leaf_there
returns-then-leaf_there c e = (
  c.leaf_there.ensures c.if-leaf_there.true,
  c.leaf_there-then-leaf_there.ensures e,
  c.test_there.ensures c.if-test_there.true _ _,
  c.jump_there.ensures c.if-jump_there.true _ _,
)

pub returns-else-leaf_there : goal.returns-else-leaf_there
returns-else-leaf_there c e = absurd (true≢false (sym e))

pub returns-else-jump_there : goal.returns-else-jump_there
returns-else-jump_there c e = absurd (true≢false (sym e))

pub returns-else-test_there : goal.returns-else-test_there
returns-else-test_there c e = absurd (true≢false (sym e))
