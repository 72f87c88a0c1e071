-- What an image says, whatever bytes it has: a byte past its end counts as 0. Definitions only.
use Rattle.std.specs.Prelude.{ℕ, ◌+◌, ◌*◌, List, [], ◌∷◌, get_or}
use Rattle.words.specs.{Limits.row_words}
use Rattle.table.specs.{Bytes.u16, Bytes.u32, Bytes.u64}
use Rattle.records.specs.{declared.state.State.State, StateWords.state_of}
use Rattle.engine.specs.{Record.listed}
use Rattle.images.specs.{Layout.head_bytes}

-- 3 K; 4, 5 version; 6, 7 D
abbrev pub slots_in : List ℕ → ℕ
slots_in x = get_or x 3 0

abbrev pub version_in : List ℕ → ℕ
version_in x = u16 x 4

abbrev pub depth_in : List ℕ → ℕ
depth_in x = u16 x 6

-- 8 to 11 bars seen; 12 to 15 rows
abbrev pub seen_in : List ℕ → ℕ
seen_in x = u32 x 8

abbrev pub rows_in : List ℕ → ℕ
rows_in x = u32 x 12

-- 16 order; 17 its kind; 18 whether entered; 20 to 23 the entry bar; 24 to 31 the delay left
abbrev pub order_in : List ℕ → ℕ
order_in x = get_or x 16 0

abbrev pub kind_in : List ℕ → ℕ
kind_in x = get_or x 17 0

abbrev pub entered_in : List ℕ → ℕ
entered_in x = get_or x 18 0

abbrev pub entry_in : List ℕ → ℕ
entry_in x = u32 x 20

abbrev pub delay_in : List ℕ → ℕ
delay_in x = u64 x 24

-- 104 to 111 level; 112 to 119 limit
abbrev pub level_in : List ℕ → ℕ
level_in x = u64 x 104

abbrev pub limit_in : List ℕ → ℕ
limit_in x = u64 x 112

-- The words of the state: "empty trade and equity rooms counted from 0".
unfoldable pub words_in : List ℕ → List ℕ
words_in x =
    seen_in x ∷ rows_in x ∷ 0 ∷ 0 ∷ order_in x ∷ delay_in x ∷ entered_in x ∷ entry_in x
    ∷ u64 x 32 ∷ u64 x 40 ∷ u64 x 48 ∷ u64 x 56 ∷ u64 x 64 ∷ u64 x 72 ∷ u64 x 80 ∷ u64 x 88 ∷ u64 x 96
    ∷ kind_in x ∷ level_in x ∷ limit_in x ∷ u64 x 120 ∷ u64 x 128 ∷ []

unfoldable pub state_in : List ℕ → State
state_in x = state_of (words_in x)

-- n words, the first at byte `at`
unfoldable pub words_at : List ℕ → ℕ → ℕ → List ℕ
words_at x at n = listed n (λ j. u64 x (at + 8 * j))

-- where row i begins
abbrev pub row_place : ℕ → ℕ → ℕ
row_place K i = head_bytes + 8 * (i * row_words K)

-- row i, and all of them
abbrev pub row_in : List ℕ → ℕ → ℕ → List ℕ
row_in x K i = words_at x (row_place K i) (row_words K)

unfoldable pub window_in : List ℕ → List ℕ
window_in x = words_at x head_bytes (rows_in x * row_words (slots_in x))
