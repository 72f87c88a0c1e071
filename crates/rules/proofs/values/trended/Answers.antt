-- The kind picks the comparison. Assumes nothing.
use Rattle.words.specs.Prelude.{eq-eqb, ne_eqb}
use Rattle.rules.specs.{Values.trended}
use Rattle.rules.proofs.values.trended.Goals as goal

pub returns-then-kind-eq-RISING : goal.returns-then-kind-eq-RISING
unfolding trended
returns-then-kind-eq-RISING c = simp (eq-eqb _ _ c.if-kind-eq-RISING.true) c.compared.ensures

pub returns : goal.returns
unfolding trended
returns c = simp (ne_eqb _ _ c.if-kind-eq-RISING.false) c.compared-2.ensures
