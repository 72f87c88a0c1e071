-- The steps are asked in their order, so the first bad one is the lowest: what is said of the whole list is what is said of it from p on.
use Rattle.words.specs.Prelude.{◌-◌, ◌≤◌, ◌≡◌}
use Rattle.steps.specs.{WellFormed.formed_from}
use Rattle.steps.proofs.wellformed.check.Given as goal

abbrev pub invariant-loop-p : goal.invariant-loop-p
invariant-loop-p l = (l.p ≤ l.n) × (formed_from l.slots l.depth l.list 0 l.n ≡ formed_from l.slots l.depth l.list l.p (l.n - l.p))

abbrev pub decreases-loop-p : goal.decreases-loop-p
decreases-loop-p l = l.n - l.p
