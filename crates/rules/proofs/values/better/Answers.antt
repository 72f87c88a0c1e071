-- By the kind. Assumes nothing.
use Rattle.words.specs.Prelude.{eq-eqb, ne_eqb}
use Rattle.rules.specs.{Values.better}
use Rattle.rules.proofs.values.better.Goals as goal

pub returns-then-kind-eq-HIGHEST : goal.returns-then-kind-eq-HIGHEST
unfolding better
returns-then-kind-eq-HIGHEST c = simp (eq-eqb _ _ c.if-kind-eq-HIGHEST.true)

pub returns : goal.returns
unfolding better
returns c = simp (ne_eqb _ _ c.if-kind-eq-HIGHEST.false)
