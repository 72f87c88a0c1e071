-- `root` meets its contract. The loop's invariant: the place is the root of tree x.
-- Assumes nothing.
use Rattle.words.specs.Prelude.{◌≡◌, ◌*◌, ◌≤◌}
use Rattle.table.specs.Header as Header
use Rattle.table.proofs.header.root.Given as goal

abbrev pub invariant-loop-x : goal.invariant-loop-x
invariant-loop-x l = (l.at ≡ Header.root l.t l.x) × (l.at ≤ 65535 * l.x)
