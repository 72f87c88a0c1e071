-- One operand after the other.
use Rattle.translation.proofs.{Writes.fits_first, Writes.fits_rest, Writes.wrote_then}
use Rattle.translation.proofs.emit.emit_two.Goals as goal

pub emit_operand-p-requires : goal.emit_operand-p-requires
emit_operand-p-requires c = record { i_bound = c.requires.operand.0; fits = fits_first _ _ c.requires.operand_2 }

pub emit_operand-requires : goal.emit_operand-requires
emit_operand-requires c = record { i_bound = c.requires.operand.1; fits = fits_rest _ _ c.emit_operand-p.ensures c.requires.operand_2 }

pub returns : goal.returns
returns c = wrote_then _ _ c.emit_operand-p.ensures c.emit_operand.ensures
