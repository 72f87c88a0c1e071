-- Test by test.
use Rattle.words.specs.Prelude.{lt-ltb, le-ltb, eq-eqb, ne_eqb}
use Rattle.dumpable.specs.{Laws.Passing.sizing_passes}
use Rattle.dumpable.proofs.passing.sizing_passes.Goals as goal

pub returns-then-kind-lt3 : goal.returns-then-kind-lt3
unfolding sizing_passes
returns-then-kind-lt3 c = simp (lt-ltb _ _ c.if-kind-lt3.true)

pub returns-then-kind-eq3 : goal.returns-then-kind-eq3
unfolding sizing_passes
returns-then-kind-eq3 c = simp (le-ltb _ _ c.if-kind-lt3.false, eq-eqb _ _ c.if-kind-eq3.true)

pub returns-then-kind-eq4 : goal.returns-then-kind-eq4
unfolding sizing_passes
returns-then-kind-eq4 c = simp (le-ltb _ _ c.if-kind-lt3.false, ne_eqb _ _ c.if-kind-eq3.false, eq-eqb _ _ c.if-kind-eq4.true)

pub returns : goal.returns
unfolding sizing_passes
returns c = simp (le-ltb _ _ c.if-kind-lt3.false, ne_eqb _ _ c.if-kind-eq3.false, ne_eqb _ _ c.if-kind-eq4.false)
