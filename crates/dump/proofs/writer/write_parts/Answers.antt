-- Part after part.
use Rattle.dump.specs.{Laws.InOrder.in_order}
use Rattle.dump.proofs.writer.write_parts.Goals as goal

pub returns : goal.returns
unfolding in_order
returns c =
    rw (c.lay_part-3.ensures, c.lay_part-2.ensures, c.lay_part.ensures)
