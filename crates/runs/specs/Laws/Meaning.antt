-- What a step decides is what the table's rules mean over all rows, although its lists read a window of them.
use Rattle.std.specs.Prelude.{ℕ, zero, suc, ◌≤◌, ◌<◌, ◌≡◌, refl, List, Float}
use Rattle.words.specs.Prelude.{ap, arith}
use Rattle.rows.specs.{History.history_of, History.last_rows}
use Rattle.table.specs.{Checked.checked, Header.slots, Reading.tree_of, Trees.reach_of, Depth.greatest_reach}
use Rattle.table.specs.{Depth.depth_of, Bytes.Bytes}
use Rattle.rules.specs.{declared.position.PositionState.PositionState}
use Rattle.steps.specs.{Bytes.bytes_of, Translating.steps_of, Window.window_steps}
use Rattle.records.specs.{declared.state.Order.Order, declared.state.Position.Position, declared.settings.Settings.Settings, Lent.Lists}
use Rattle.engine.specs.{Decide.list_says, Decide.state_at, Decide.answers_of, Decide.order_after, Decide.decided, Rules.rules_of, Rules.lists_of, Rules.meanings}
use Rattle.engine.specs.{Rules.FromTable, Whole.by_lists, Whole.by_meaning}
use Rattle.rules.specs.Meaning as Meaning
use Rattle.table.specs.{Outcome.accepts}

-- "D = 1 + the greatest of the four reaches and, for VolTarget, its lookback" lies above each reach
reach_below : (table : List ℕ) (back x : ℕ) → x < 4 → reach_of (tree_of table x) < depth_of table back
unfolding depth_of greatest_reach
reach_below table back zero four = omega arith
reach_below table back (suc zero) four = omega arith
reach_below table back (suc (suc zero)) four = omega arith
reach_below table back (suc (suc (suc zero))) four = omega arith
reach_below table back (suc (suc (suc (suc x)))) four = absurd (omega arith)

-- So settings whose D is at least what `depth` answers for the table and any lookback belong to it.
pub from_depth : (table : List ℕ) (n r : ℕ) → checked table ≡ accepts n r → Bytes table → (s : Settings) → s.slots ≡ slots table
    → (back : ℕ) → depth_of table back ≤ s.depth → FromTable table s (lists_of table)
from_depth table n r ok bytes s same back deep = record {
  nodes = n;
  rows = r;
  bytes = bytes;
  accepted = ok;
  slots = same;
  depth = λ x four. omega (arith, deep, reach_below table back x four);
  lists = refl;
}

module _ (table : List ℕ) (s : Settings) (ls : Lists) (f : FromTable table s ls) (rows : List ℕ) where
  -- the list of one tree, an absent one too
  tree_means : (p : PositionState) (x : ℕ) → x < 4
      → list_says (history_of s.slots (last_rows s.slots s.depth rows)) p (bytes_of (steps_of table x))
      ≡ Meaning.says (history_of s.slots rows) p (tree_of table x)
  unfolding list_says
  tree_means p x four = rw f.slots (window_steps table f.nodes f.rows f.accepted f.bytes x four s.depth (f.depth x four) rows p)

  -- Asked of a table's lists over the last D rows, the rules answer what they mean over all.
  pub lists_mean : (p : PositionState) → by_lists s ls rows p ≡ by_meaning s (rules_of table) rows p
  unfolding by_lists by_meaning answers_of meanings
  lists_mean p =
      rw (f.lists, tree_means p 0 (omega arith), tree_means p 1 (omega arith), tree_means p 2 (omega arith), tree_means p 3 (omega arith))

  -- THE DECISION: with the lists translated from an accepted table and a D above every reach, a step decides what the table's rules
  -- mean over all rows.
  pub table_decides : (o : Order) (p : Position) (number : ℕ) (close : Float)
      → decided s o p number close rows ls ≡ order_after s o p number close (by_meaning s (rules_of table) rows (state_at p number))
  unfolding decided by_lists
  table_decides o p number close = ap (order_after s o p number close) (lists_mean (state_at p number))
