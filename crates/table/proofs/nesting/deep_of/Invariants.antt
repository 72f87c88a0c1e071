-- `deep_of` meets its contract. The loop's invariant: the first node below more than 32 levels is the first below more than `left`
-- levels among those from node j on. A subtree that is too tall has it inside, any other is passed by its end.
-- Assumes nothing.
use Rattle.words.specs.Prelude.{◌≡◌, ◌-◌, ◌≤◌}
use Rattle.table.specs.{Forest.trees, Nesting.deeper}
use Rattle.table.proofs.nesting.deep_of.Given as goal

abbrev pub invariant-loop-j : goal.invariant-loop-j
invariant-loop-j l = (l.b ≤ l.j) × (l.j ≤ l.e) × (l.left ≤ 32) × (deeper 32 (trees l.t (l.e - l.b) l.b) ≡ deeper l.left (trees l.t (l.e - l.j) l.j))

abbrev pub decreases-loop-j : goal.decreases-loop-j
decreases-loop-j l = l.e - l.j
