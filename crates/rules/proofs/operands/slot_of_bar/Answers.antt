-- The row of a bar that is there lies within the list, so its place fits. Assumes nothing.
use Rattle.words.specs.Prelude.{arith}
use Rattle.rows.specs.{History.history_of, Laws.RowEnds.row_ends}
use Rattle.rules.proofs.operands.slot_of_bar.Goals as goal

pub overflow_add-slots : goal.overflow_add-slots
unfolding history_of
overflow_add-slots c = omega (arith, let a = c.args in row_ends a.slots a.rows.now a.bar c.requires)

pub overflow_mul-bar : goal.overflow_mul-bar
unfolding history_of
overflow_mul-bar c = omega (arith, let a = c.args in row_ends a.slots a.rows.now a.bar c.requires)

pub returns : goal.returns
unfolding history_of
returns c = c.slot_at.ensures
