-- The product is small.
use Rattle.words.specs.Prelude.{refl, arith}
use Rattle.rows.specs.{Laws.RowEnds.rows_most}
use Rattle.images.proofs.judge.row_place.Goals as goal

pub overflow_mul-result : goal.overflow_mul-result
overflow_mul-result c = omega (arith, rows_most c.args.slots c.args.i _ c.requires.0 c.requires.1)

pub overflow_mul-result-2 : goal.overflow_mul-result-2
overflow_mul-result-2 c = omega (arith, rows_most c.args.slots c.args.i _ c.requires.0 c.requires.1)

pub overflow_add-result-2 : goal.overflow_add-result-2
overflow_add-result-2 c = omega (arith, rows_most c.args.slots c.args.i _ c.requires.0 c.requires.1)

pub returns : goal.returns
returns c = (refl, omega (arith, rows_most c.args.slots c.args.i _ c.requires.0 c.requires.1))
