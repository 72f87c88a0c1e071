-- `execute_entry`: rows that begin at row 0.
use Rattle.rows.specs.{Laws.Ring.ring_none}
use Rattle.execution.proofs.fills.execute_entry.Goals as goal

pub returns : goal.returns
returns c = rw (c.execute_entry_ring.ensures, ring_none)
