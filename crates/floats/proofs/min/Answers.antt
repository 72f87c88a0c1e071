-- `floats::min`: a NaN first, then the comparison, as the definition has them. Assumes nothing.
use Rattle.words.specs.Prelude.{true, false}
use Rattle.floats.specs.{Floats.min}
use Rattle.floats.proofs.{Words.tested}
use Rattle.floats.proofs.min.Goals as goal

pub returns-then-x : goal.returns-then-x
unfolding min
returns-then-x c = simp (tested c.args.x true c.if-x.true)

pub returns-then-y-x : goal.returns-then-y-x
unfolding min
returns-then-y-x c = simp (tested c.args.x false c.if-x.false, c.if-y-x.true)

pub returns-else-y-x : goal.returns-else-y-x
unfolding min
returns-else-y-x c = simp (tested c.args.x false c.if-x.false, c.if-y-x.false)
