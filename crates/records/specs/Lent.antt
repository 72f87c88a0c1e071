-- What a call is lent: rooms of records and lists of steps. Definitions only.
use Rattle.std.specs.Prelude.{ℕ, ◌/◌, List, length}
use Rattle.words.specs.{Limits.row_words, Limits.point_words, Limits.trade_words}

-- The rooms of a call that hold records, in the order of their numbers.
pub record Rooms : Type 0 where
  pub rows : List ℕ
  pub equity : List ℕ
  pub trades : List ℕ

abbrev pub rooms : List ℕ → List ℕ → List ℕ → Rooms
rooms rows equity trades = record { rows = rows; equity = equity; trades = trades }

-- how many records a room has places for; its end may be a part of one
abbrev pub row_places : ℕ → List ℕ → ℕ
row_places K rows = length rows / row_words K

abbrev pub point_places : List ℕ → ℕ
point_places equity = length equity / point_words

abbrev pub trade_places : List ℕ → ℕ
trade_places trades = length trades / trade_words

-- The four lists of a call, in tree order: entry, exit, short entry, short exit.
pub record Lists : Type 0 where
  pub entry : List ℕ
  pub «exit» : List ℕ
  pub short_entry : List ℕ
  pub short_exit : List ℕ

abbrev pub lists : List ℕ → List ℕ → List ℕ → List ℕ → Lists
lists entry «exit» short_entry short_exit =
    record { entry = entry; «exit» = «exit»; short_entry = short_entry; short_exit = short_exit }
