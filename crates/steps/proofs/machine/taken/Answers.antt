-- The test is that of the contract.
use Rattle.words.specs.Prelude.{lt-ltb, le-ltb}
use Rattle.steps.proofs.machine.taken.Goals as goal

pub returns-then-kind-lt-BETWEEN : goal.returns-then-kind-lt-BETWEEN
returns-then-kind-lt-BETWEEN c = rw (lt-ltb _ _ c.if-kind-lt-BETWEEN.true)

pub returns-else-kind-lt-BETWEEN : goal.returns-else-kind-lt-BETWEEN
returns-else-kind-lt-BETWEEN c = rw (le-ltb _ _ c.if-kind-lt-BETWEEN.false)
