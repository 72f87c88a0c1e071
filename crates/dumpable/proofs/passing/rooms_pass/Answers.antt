-- The products are small, and three tests.
use Rattle.words.specs.Prelude.{arith, rules}
use Rattle.rows.specs.{Laws.RowEnds.rows_most}
use Rattle.dumpable.specs.{Laws.Passing.rooms_pass}
use Rattle.dumpable.proofs.passing.rooms_pass.Goals as goal

pub overflow_mul-deep : goal.overflow_mul-deep
unfolding rooms_pass
overflow_mul-deep c = omega (arith, rows_most c.args.slots c.args.depth _ c.requires.0 c.requires.1)

pub overflow_mul-result : goal.overflow_mul-result
unfolding rooms_pass
overflow_mul-result c = omega (arith, rows_most c.args.slots c.args.held _ c.requires.0 c.requires.2)

pub overflow_mul-result-2 : goal.overflow_mul-result-2
unfolding rooms_pass
overflow_mul-result-2 c = omega (arith, rows_most c.args.slots c.args.depth _ c.requires.0 c.requires.1)

pub overflow_add-result : goal.overflow_add-result
unfolding rooms_pass
overflow_add-result c = omega (arith, rows_most c.args.slots c.args.depth _ c.requires.0 c.requires.1)

pub returns : goal.returns
unfolding rooms_pass
returns c = search rules
