-- Each return is what `crossed` says where the tests that led there hold. Assumes nothing.
use Rattle.words.specs.Prelude.{eq-eqb, ne_eqb}
use Rattle.rules.specs.{Values.crossed}
use Rattle.rules.proofs.values.crossed.Goals as goal

pub returns-then-compared : goal.returns-then-compared
unfolding crossed
returns-then-compared c =
    simp (eq-eqb _ _ c.if-kind-eq-CROSS_ABOVE.true, ← c.compared.ensures, c.if-compared.true) c.compared-then-compared.ensures

pub returns-then-kind-eq-CROSS_ABOVE : goal.returns-then-kind-eq-CROSS_ABOVE
unfolding crossed
returns-then-kind-eq-CROSS_ABOVE c = simp (eq-eqb _ _ c.if-kind-eq-CROSS_ABOVE.true, ← c.compared.ensures, c.if-compared.false)

pub returns-then-compared-2 : goal.returns-then-compared-2
unfolding crossed
returns-then-compared-2 c =
    simp (ne_eqb _ _ c.if-kind-eq-CROSS_ABOVE.false, ← c.compared-2.ensures, c.if-compared-2.true) c.compared-then-compared-2.ensures

pub returns : goal.returns
unfolding crossed
returns c = simp (ne_eqb _ _ c.if-kind-eq-CROSS_ABOVE.false, ← c.compared-2.ensures, c.if-compared-2.false)
