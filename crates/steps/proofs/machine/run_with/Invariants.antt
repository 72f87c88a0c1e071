-- The loop's invariant is that the run has come to place p; a step of each kind takes it one further, and a value that finds no
-- place is one more than there are places.
use Rattle.words.specs.Prelude.{◌-◌}
use Rattle.rows.specs.{Ring.ring_of}
use Rattle.steps.proofs.{Going.Going}
use Rattle.steps.proofs.machine.run_with.Given as goal

abbrev pub invariant-loop-p : goal.invariant-loop-p
invariant-loop-p l = Going (ring_of l.slots l.first l.rows) l.s l.list l.n l.places l.numbers l.there l.top l.answer l.visits l.p

abbrev pub decreases-loop-p : goal.decreases-loop-p
decreases-loop-p l = l.n - l.p
