-- The two tests, one after the other.
use Rattle.words.specs.Prelude.{sym, ◌∙◌}
use Rattle.refusals.proofs.entries.lot_fine.Goals as goal

pub returns-then-is_finite : goal.returns-then-is_finite
returns-then-is_finite c = simp (sym c.is_finite.ensures ∙ c.if-is_finite.true)

pub returns : goal.returns
returns c = simp (sym c.is_finite.ensures ∙ c.if-is_finite.false)
