-- The row of a bar that is there lies within the list, so its place fits; the price is the word after the time. Assumes nothing.
use Rattle.words.specs.Prelude.{arith, lt-ltb}
use Rattle.rows.specs.{History.history_of, Laws.RowEnds.row_ends}
use Rattle.rules.specs.{Values.price_of}
use Rattle.rules.proofs.operands.field_of_bar.Goals as goal

pub overflow_add-slots : goal.overflow_add-slots
unfolding history_of price_of
overflow_add-slots c = omega (arith, let a = c.args in row_ends a.slots a.rows.now a.bar c.requires.0)

pub overflow_mul-bar : goal.overflow_mul-bar
unfolding history_of price_of
overflow_mul-bar c = omega (arith, let a = c.args in row_ends a.slots a.rows.now a.bar c.requires.0)

pub returns : goal.returns
unfolding history_of price_of
returns c = rw (lt-ltb _ _ c.requires.1) c.field_at.ensures
