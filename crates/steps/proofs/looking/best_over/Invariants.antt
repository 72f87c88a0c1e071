-- The loop's invariant: the best so far is that of the rows up to the one reached.
use Rattle.std.specs.Prelude.{Some}
use Rattle.words.specs.Prelude.{◌-◌, ◌≤◌, ◌≡◌}
use Rattle.rows.specs.{Ring.ring_of}
use Rattle.rules.specs.{Meaning.extreme_over}
use Rattle.steps.specs.{Looks.over_of}
use Rattle.steps.proofs.looking.best_over.Given as goal

abbrev pub invariant-loop-at : goal.invariant-loop-at
invariant-loop-at l = (l.oldest ≤ l.at) × (l.at ≤ l.last) × (Some l.best ≡ extreme_over (ring_of l.slots l.first l.rows) l.kind (over_of l.slot l.which) l.oldest (l.at - l.oldest))

abbrev pub decreases-loop-at : goal.decreases-loop-at
decreases-loop-at l = l.last - l.at
