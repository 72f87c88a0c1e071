-- The value, both ends, and a step.
use Rattle.steps.specs.{declared.step.Op.TheVariants.Between, Bytes.step_of}
use Rattle.translation.proofs.{Writes.fits_first, Writes.fits_rest, Writes.fits_one, Writes.wrote_then, Writes.wrote_one, Conditions.code-between}
use Rattle.translation.proofs.{Conditions.between-reach}
use Rattle.translation.proofs.emit.emit_between.Goals as goal

pub emit_operand-p-requires : goal.emit_operand-p-requires
unfolding step_of
emit_operand-p-requires c = record { i_bound = (between-reach _ _ _ c.requires.high_bound).0; fits = fits_first _ _ (rw code-between at c.requires.operand) }

pub emit_two-q-requires : goal.emit_two-q-requires
unfolding step_of
emit_two-q-requires c =
    record { operand = (between-reach _ _ _ c.requires.high_bound).1; operand_2 = fits_first _ _ (fits_rest _ _ c.emit_operand-p.ensures (rw code-between at c.requires.operand)) }

pub put_step-requires : goal.put_step-requires
unfolding step_of
put_step-requires c =
    fits_one _ (fits_rest _ _ c.emit_two-q.ensures (fits_rest _ _ c.emit_operand-p.ensures (rw code-between at c.requires.operand)))

pub returns : goal.returns
unfolding step_of
returns c =
    rw code-between (wrote_then _ _ c.emit_operand-p.ensures
    (wrote_then _ _ c.emit_two-q.ensures (wrote_one _ _ Between _ _ c.put_step.ensures.value c.put_step.ensures.room_after)))
