-- Both operands now, both one row back, and a step.
use Rattle.words.specs.Prelude.{arith}
use Rattle.steps.specs.{declared.step.Op.TheVariants.Cross, Bytes.step_of}
use Rattle.translation.proofs.{Writes.fits_first, Writes.fits_rest, Writes.fits_one, Writes.wrote_then, Writes.wrote_one, Conditions.code_cross}
use Rattle.translation.proofs.{Conditions.cross_reach}
use Rattle.translation.proofs.emit.emit_cross.Goals as goal

pub emit_two-p-requires : goal.emit_two-p-requires
unfolding step_of
emit_two-p-requires c = record { operand = cross_reach _ _ _ c.requires.b_bound 0 (omega arith); operand_2 = fits_first _ _ (rw code_cross at c.requires.fits) }

pub emit_two-q-requires : goal.emit_two-q-requires
unfolding step_of
emit_two-q-requires c =
    record { operand = cross_reach _ _ _ c.requires.b_bound 1 (omega arith); operand_2 = fits_first _ _ (fits_rest _ _ c.emit_two-p.ensures (rw code_cross at c.requires.fits)) }

pub put_step-requires : goal.put_step-requires
unfolding step_of
put_step-requires c =
    fits_one _ (fits_rest _ _ c.emit_two-q.ensures (fits_rest _ _ c.emit_two-p.ensures (rw code_cross at c.requires.fits)))

pub returns : goal.returns
unfolding step_of
returns c =
    rw code_cross (wrote_then _ _ c.emit_two-p.ensures
    (wrote_then _ _ c.emit_two-q.ensures (wrote_one _ _ (Cross _) _ _ c.put_step.ensures.value c.put_step.ensures.room_after)))
