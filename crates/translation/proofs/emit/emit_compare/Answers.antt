-- Both operands and a step.
use Rattle.steps.specs.{declared.step.Op.TheVariants.Compare, Bytes.step_of}
use Rattle.translation.proofs.{Writes.fits_first, Writes.fits_rest, Writes.fits_one, Writes.wrote_then, Writes.wrote_one}
use Rattle.translation.proofs.emit.emit_compare.Goals as goal

pub emit_two-p-requires : goal.emit_two-p-requires
unfolding step_of
emit_two-p-requires c = record { operand = c.requires.operand; operand_2 = fits_first _ _ c.requires.operand_2 }

pub put_step-requires : goal.put_step-requires
unfolding step_of
put_step-requires c = fits_one _ (fits_rest _ _ c.emit_two-p.ensures c.requires.operand_2)

pub returns : goal.returns
unfolding step_of
returns c =
    let put = c.put_step.ensures in
    wrote_then _ _ c.emit_two-p.ensures (wrote_one _ _ (Compare _) _ _ put.value put.room_after)
