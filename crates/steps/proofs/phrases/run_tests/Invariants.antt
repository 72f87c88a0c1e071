-- The loop's invariant is that the run has come to place p with no value; a jump, an answer and a test with its leaves each take it further.
use Rattle.words.specs.Prelude.{[], ◌-◌}
use Rattle.rows.specs.{Ring.ring_of}
use Rattle.steps.specs.{Places.Came}
use Rattle.steps.proofs.phrases.run_tests.Given as goal

abbrev pub invariant-loop-p : goal.invariant-loop-p
invariant-loop-p l = Came (ring_of l.slots l.first l.rows) l.s l.list l.n [] l.answer l.visits l.p

abbrev pub decreases-loop-p : goal.decreases-loop-p
decreases-loop-p l = l.n - l.p
