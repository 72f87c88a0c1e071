-- The test is that of the definition.
use Rattle.words.specs.Prelude.{lt-ltb, le-ltb, arith}
use Rattle.steps.specs.{Bytes.extreme_op}
use Rattle.steps.proofs.decode.extreme_op.Goals as goal

pub returns-then-x-lt-HIGHEST_SLOT : goal.returns-then-x-lt-HIGHEST_SLOT
unfolding extreme_op
returns-then-x-lt-HIGHEST_SLOT c = rw (lt-ltb _ _ c.if-x-lt-HIGHEST_SLOT.true, c.newest_back-back.ensures)

pub overflow_sub-result : goal.overflow_sub-result
unfolding extreme_op
overflow_sub-result c = omega arith

pub returns : goal.returns
unfolding extreme_op
returns c = rw (le-ltb _ _ c.if-x-lt-HIGHEST_SLOT.false, c.newest_back-back.ensures)
