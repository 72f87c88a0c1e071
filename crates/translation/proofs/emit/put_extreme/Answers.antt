-- One step, by what is looked over.
use Rattle.words.specs.Prelude.{arith}
use Rattle.steps.specs.{Bytes.extreme_step, Bytes.step_of}
use Rattle.translation.proofs.{Writes.fits_one, Writes.wrote_one}
use Rattle.table.specs.declared.series.Series.TheVariants as Over
use Rattle.steps.specs.declared.step.Op.TheVariants as Op
use Rattle.translation.proofs.emit.put_extreme.Goals as goal

pub overflow_add-oldest : goal.overflow_add-oldest
overflow_add-oldest c = omega (arith, c.saturating_sub.ensures, c.requires.0)

pub put_step-requires : goal.put_step-requires
put_step-requires c = fits_one _ c.requires.1

pub put_step-requires-in-Slot : goal.put_step-requires-in-Slot
put_step-requires-in-Slot c = fits_one _ c.requires.1

pub returns-in-Price : goal.returns-in-Price
unfolding step_of extreme_step
returns-in-Price c =
    rw c.in-Price.is
    (wrote_one _ _ (Op.Extreme _ (Over.Price _) _ _) _ _ c.put_step.ensures.value
    (rw c.saturating_sub.ensures at c.put_step.ensures.room_after))

pub returns-in-Slot : goal.returns-in-Slot
unfolding step_of extreme_step
returns-in-Slot c =
    rw c.in-Slot.is
    (wrote_one _ _ (Op.Extreme _ (Over.Slot _) _ _) _ _ c.put_step-in-Slot.ensures.value
    (rw (c.saturating_sub.ensures, c.slot_kind.ensures) at c.put_step-in-Slot.ensures.room_after))
