-- The test is that of the definition.
use Rattle.words.specs.Prelude.{eq-eqb, ne_eqb}
use Rattle.translation.proofs.emit.trend_test.Goals as goal

pub returns-then-kind-eq-RISING : goal.returns-then-kind-eq-RISING
returns-then-kind-eq-RISING c = rw (eq-eqb _ _ c.if-kind-eq-RISING.true)

pub returns-else-kind-eq-RISING : goal.returns-else-kind-eq-RISING
returns-else-kind-eq-RISING c = rw (ne_eqb _ _ c.if-kind-eq-RISING.false)
