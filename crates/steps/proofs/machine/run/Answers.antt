-- Rows that begin at row 0.
use Rattle.words.specs.Prelude.{arith}
use Rattle.rows.specs.{Laws.Ring.ring_none}
use Rattle.steps.proofs.machine.run.Goals as goal

pub run_from-requires : goal.run_from-requires
run_from-requires c = omega arith

pub returns : goal.returns
returns c = rw (c.run_from.ensures, ring_none)
