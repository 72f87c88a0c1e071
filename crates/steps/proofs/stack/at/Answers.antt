-- The test is that of the definition.
use Rattle.steps.specs.{Places.value_at}
use Rattle.steps.proofs.stack.at.Goals as goal

pub returns-then-there-i : goal.returns-then-there-i
unfolding value_at
returns-then-there-i c = rw c.if-there-i.true

pub returns : goal.returns
unfolding value_at
returns c = rw c.if-there-i.false
