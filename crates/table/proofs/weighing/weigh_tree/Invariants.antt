-- `weigh_tree` meets its contract. The loop's invariant: the array has what each subtree from node i on weighs, capped at 4,096.
-- Assumes nothing.
use Rattle.words.specs.Prelude.{◌≡◌, ◌≤◌, length}
use Rattle.table.specs.{Passes.WordsFrom, Passes.weight}
use Rattle.words.specs.{Limits.most_nodes}
use Rattle.table.proofs.weighing.weigh_tree.Given as goal

abbrev pub invariant-loop-i : goal.invariant-loop-i
invariant-loop-i l = (l.b ≤ l.i) × (l.i ≤ l.e) × (length l.words ≡ most_nodes) × WordsFrom l.t l.words (weight l.what) l.i l.e
