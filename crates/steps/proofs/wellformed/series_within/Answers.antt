-- A case each.
use Rattle.steps.specs.{WellFormed.series_within}
use Rattle.steps.proofs.wellformed.series_within.Goals as goal

pub returns-in-Price : goal.returns-in-Price
unfolding series_within
returns-in-Price c = simp c.in-Price.is

pub returns-in-Slot : goal.returns-in-Slot
unfolding series_within
returns-in-Slot c = simp c.in-Slot.is
