-- The rows of a run, as a rule reads them. Definitions only.
use Rattle.std.specs.Prelude.{ℕ, ◌+◌, ◌-◌, ◌*◌, ◌/◌, ◌%◌, Bool, List, length, get_or, drop, eqb, Float}
use Rattle.words.specs.{Limits.row_words}
use Rattle.floats.specs.{Floats.float_of}

-- How many rows there are, and word j of row i. Row 0 is the oldest.
pub record History : Type 0 where
  pub rows : ℕ
  pub word : ℕ → ℕ → ℕ

-- "A row is the bar's six words, the presence mask and K slots": word 0 is the time, 1 to 5 open, high, low, close and
-- volume, 6 the mask, 7 + k slot k.
abbrev pub width : ℕ → ℕ
width K = row_words K

-- The rows that stand one after another in a list of words. A part of a row at the end is no row.
unfoldable pub history_of : ℕ → List ℕ → History
history_of K ws = record { rows = length ws / width K; word = λ i j. get_or ws (i * width K + j) 0 }

-- "a row .. list is not whole records" is 13; this is where it is.
unfoldable pub whole_rows : ℕ → List ℕ → Bool
whole_rows K ws = eqb (length ws % width K) 0

-- word j of row i as a float
unfoldable pub field : History → ℕ → ℕ → Float
field h i j = float_of (h.word i j)

-- "The window is handed back as the last D rows of the caller's own rows": all of them where there are fewer.
unfoldable pub last_rows : ℕ → ℕ → List ℕ → List ℕ
last_rows K D ws = drop ((length ws / width K - D) * width K) ws
