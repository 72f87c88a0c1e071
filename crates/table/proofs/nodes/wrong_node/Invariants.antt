-- `wrong_node` meets its contract. The loop's invariant: the lowest wrong node is the lowest of those from node i on.
-- Assumes nothing.
use Rattle.words.specs.Prelude.{◌≡◌, ◌-◌}
use Rattle.table.specs.{Nodes.wrong_node}
use Rattle.table.proofs.nodes.wrong_node.Given as goal

abbrev pub invariant-loop-i : goal.invariant-loop-i
invariant-loop-i l = wrong_node l.t l.total 0 ≡ wrong_node l.t (l.total - l.i) l.i
