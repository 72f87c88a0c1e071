-- The test is the definition's. Assumes nothing.
use Rattle.words.specs.Prelude.{lt-ltb, le-ltb}
use Rattle.rules.specs.{Shapes.end_in}
use Rattle.rules.proofs.shapes.end_in.Goals as goal

pub returns-then-i-lt256 : goal.returns-then-i-lt256
unfolding end_in
returns-then-i-lt256 c = simp (lt-ltb _ _ c.if-i-lt256.true)

pub returns-else-i-lt256 : goal.returns-else-i-lt256
unfolding end_in
returns-else-i-lt256 c = simp (le-ltb _ _ c.if-i-lt256.false)
