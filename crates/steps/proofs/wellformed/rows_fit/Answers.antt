-- The tests are those of the definition, with nothing that wraps.
use Rattle.words.specs.Prelude.{le-leb, lt-leb, arith}
use Rattle.steps.specs.{WellFormed.rows_fit}
use Rattle.steps.proofs.wellformed.rows_fit.Goals as goal

pub returns-then-skip-eq0 : goal.returns-then-skip-eq0
unfolding rows_fit
returns-then-skip-eq0 c = rw (lt-leb 1 c.args.skip (omega arith))

pub returns-then-skip-n : goal.returns-then-skip-n
unfolding rows_fit
returns-then-skip-n c = rw (le-leb 1 c.args.skip (omega arith), le-leb _ _ c.if-skip-n.true)

pub returns : goal.returns
unfolding rows_fit
returns c = rw (le-leb 1 c.args.skip (omega arith), lt-leb _ _ c.if-skip-n.false)
