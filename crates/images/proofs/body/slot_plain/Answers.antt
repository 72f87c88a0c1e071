-- One test.
use Rattle.words.specs.Prelude.{eq-eqb, ne_eqb}
use Rattle.images.proofs.body.slot_plain.Goals as goal

pub returns-then-bits-eq1 : goal.returns-then-bits-eq1
returns-then-bits-eq1 c = simp (eq-eqb _ _ c.if-bits-eq1.true) c.word_is_finite.ensures

pub returns : goal.returns
returns c = simp (ne_eqb _ _ c.if-bits-eq1.false)
