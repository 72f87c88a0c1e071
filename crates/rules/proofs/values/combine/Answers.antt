-- Each return is what `combine` says where the tests that led there hold. Assumes nothing.
use Rattle.words.specs.Prelude.{eq-eqb, ne_eqb}
use Rattle.rules.specs.{Values.combine}
use Rattle.rules.proofs.values.combine.Goals as goal

pub returns-then-kind-eq-ADD : goal.returns-then-kind-eq-ADD
unfolding combine
returns-then-kind-eq-ADD c = simp (eq-eqb _ _ c.if-kind-eq-ADD.true)

pub returns-then-kind-eq-SUB : goal.returns-then-kind-eq-SUB
unfolding combine
returns-then-kind-eq-SUB c = simp (ne_eqb _ _ c.if-kind-eq-ADD.false, eq-eqb _ _ c.if-kind-eq-SUB.true)

pub returns-then-kind-eq-MUL : goal.returns-then-kind-eq-MUL
unfolding combine
returns-then-kind-eq-MUL c = simp (ne_eqb _ _ c.if-kind-eq-ADD.false, ne_eqb _ _ c.if-kind-eq-SUB.false, eq-eqb _ _ c.if-kind-eq-MUL.true)

pub returns : goal.returns
unfolding combine
returns c =
    simp (ne_eqb _ _ c.if-kind-eq-ADD.false, ne_eqb _ _ c.if-kind-eq-SUB.false, ne_eqb _ _ c.if-kind-eq-MUL.false)
    c.divided.ensures
