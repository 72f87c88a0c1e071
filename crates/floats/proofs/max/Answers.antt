-- `floats::max`: a NaN first, then the comparison, as the definition has them. Assumes nothing.
use Rattle.words.specs.Prelude.{true, false}
use Rattle.floats.specs.{Floats.max}
use Rattle.floats.proofs.{Words.tested}
use Rattle.floats.proofs.max.Goals as goal

pub returns-then-x : goal.returns-then-x
unfolding max
returns-then-x c = simp (tested c.args.x true c.if-x.true)

pub returns-then-x-y : goal.returns-then-x-y
unfolding max
returns-then-x-y c = simp (tested c.args.x false c.if-x.false, c.if-x-y.true)

pub returns-else-x-y : goal.returns-else-x-y
unfolding max
returns-else-x-y c = simp (tested c.args.x false c.if-x.false, c.if-x-y.false)
