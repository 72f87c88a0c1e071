-- How many rows a rule needs. Definitions only.
use Rattle.std.specs.Prelude.{ℕ, ◌+◌, ◌*◌, max, List}
use Rattle.words.specs.{Limits.row_words}
use Rattle.table.specs.{Trees.reach_of, Reading.tree_of, Header.slots}

-- "the greatest of the four reaches"
unfoldable pub greatest_reach : List ℕ → ℕ
greatest_reach t = max (max (reach_of (tree_of t 0)) (reach_of (tree_of t 1))) (max (reach_of (tree_of t 2)) (reach_of (tree_of t 3)))

-- "The window is D = 1 + the greatest of the four reaches and, for VolTarget, its lookback." Without one the lookback is 0.
unfoldable pub depth_of : List ℕ → ℕ → ℕ
depth_of t lookback = 1 + max (greatest_reach t) lookback

-- "A row is the bar's six words, the presence mask and K slots", each word of 8 bytes
unfoldable pub row_bytes : List ℕ → ℕ
row_bytes t = 8 * row_words (slots t)
