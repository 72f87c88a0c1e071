-- The row that the rows begin at, set right first.
use Rattle.rows.specs.{Laws.Ring.first_fits, Laws.Ring.ring_first}
use Rattle.steps.proofs.machine.run_ring.Goals as goal

pub run_from-requires : goal.run_from-requires
run_from-requires c = rw c.first_row.ensures (first_fits _ _)

pub returns : goal.returns
returns c = rw (c.run_from.ensures, c.first_row.ensures, ring_first)
