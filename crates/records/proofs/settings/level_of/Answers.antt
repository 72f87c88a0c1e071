-- The test is the definition's.
use Rattle.words.specs.Prelude.{eq-eqb, ne_eqb}
use Rattle.records.specs.{Settings.level_of}
use Rattle.records.proofs.settings.level_of.Goals as goal

pub returns-then-bits-eq1 : goal.returns-then-bits-eq1
unfolding level_of
returns-then-bits-eq1 c = simp (c.float_of.ensures, eq-eqb _ _ c.if-bits-eq1.true)

pub returns : goal.returns
unfolding level_of
returns c = simp (ne_eqb _ _ c.if-bits-eq1.false)
