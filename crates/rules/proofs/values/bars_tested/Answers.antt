-- Each return is what `bars_tested` says where the tests that led there hold. Assumes nothing.
use Rattle.words.specs.Prelude.{eq-eqb, ne_eqb}
use Rattle.rules.specs.{Values.bars_tested}
use Rattle.rules.proofs.values.bars_tested.Goals as goal

pub returns-then-selector-eq0 : goal.returns-then-selector-eq0
unfolding bars_tested
returns-then-selector-eq0 c = simp (eq-eqb _ _ c.if-selector-eq0.true)

pub returns-then-selector-eq1 : goal.returns-then-selector-eq1
unfolding bars_tested
returns-then-selector-eq1 c = simp (ne_eqb _ _ c.if-selector-eq0.false, eq-eqb _ _ c.if-selector-eq1.true)

pub returns-then-selector-eq2 : goal.returns-then-selector-eq2
unfolding bars_tested
returns-then-selector-eq2 c =
    simp (ne_eqb _ _ c.if-selector-eq0.false, ne_eqb _ _ c.if-selector-eq1.false, eq-eqb _ _ c.if-selector-eq2.true)

pub returns-then-selector-eq3 : goal.returns-then-selector-eq3
unfolding bars_tested
returns-then-selector-eq3 c =
    simp (ne_eqb _ _ c.if-selector-eq0.false, ne_eqb _ _ c.if-selector-eq1.false, ne_eqb _ _ c.if-selector-eq2.false, eq-eqb _ _ c.if-selector-eq3.true)

pub returns : goal.returns
unfolding bars_tested
returns c =
    simp (ne_eqb _ _ c.if-selector-eq0.false, ne_eqb _ _ c.if-selector-eq1.false, ne_eqb _ _ c.if-selector-eq2.false, ne_eqb _ _ c.if-selector-eq3.false)
