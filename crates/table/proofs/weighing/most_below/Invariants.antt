-- `most_below` meets its contract. The loop's invariant: the greatest of the words passed and of those to come is the greatest of all.
-- Assumes nothing.
use Rattle.words.specs.Prelude.{◌-◌, ◌≤◌, ◌<◌}
use Rattle.table.proofs.{Weigh.Rest}
use Rattle.table.proofs.weighing.most_below.Given as goal

abbrev pub invariant-loop : goal.invariant-loop
invariant-loop l = (l.i < l.j) × (l.j ≤ l.e) × Rest l.t l.words l.i l.e (l.children - l.counter) l.most l.j
