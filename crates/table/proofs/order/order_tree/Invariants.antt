-- `order_tree` meets its contract. The loop's invariant: the array has the words of the nodes from i on, and is as given elsewhere.
-- Assumes nothing.
use Rattle.words.specs.Prelude.{◌≡◌, ◌≤◌, length}
use Rattle.words.specs.{Limits.most_nodes}
use Rattle.table.specs.{Passes.Ordered}
use Rattle.table.proofs.order.order_tree.Given as goal

abbrev pub invariant-loop-i : goal.invariant-loop-i
invariant-loop-i l = (l.b ≤ l.i) × (l.i ≤ l.e) × (length l.ends ≡ most_nodes) × Ordered l.t l.i l.e l.initial.ends l.ends
