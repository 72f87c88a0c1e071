-- `end_below` meets its contract. The loop's invariant: what is wanted from node i on is, at node j, the children that are left;
-- a child's own word passes it in one step.
-- Assumes nothing.
use Rattle.words.specs.Prelude.{◌-◌, ◌≤◌, ◌<◌}
use Rattle.table.proofs.{Prefix.Here}
use Rattle.table.proofs.order.end_below.Given as goal

abbrev pub invariant-loop : goal.invariant-loop
invariant-loop l = (l.i < l.j) × (l.j ≤ l.e) × Here l.t l.e l.i l.below (l.many - l.counter) l.j
