-- The test is the definition's.
use Rattle.words.specs.Prelude.{eq-eqb, ne_eqb}
use Rattle.records.specs.{StateWords.entered_of}
use Rattle.records.proofs.state_words.entered_of.Goals as goal

pub returns-then-kind-eq0 : goal.returns-then-kind-eq0
unfolding entered_of
returns-then-kind-eq0 c = simp (eq-eqb _ _ c.if-kind-eq0.true)

pub returns : goal.returns
unfolding entered_of
returns c = simp (ne_eqb _ _ c.if-kind-eq0.false)
