-- A look over rows that lie one after the other in the words, for the code alone: a look has no end of them. Definitions only.
use Rattle.std.specs.Prelude.{ℕ, zero, suc, ◌+◌, ◌*◌, ◌<◌, ◌≡◌, Bool, true, false, List, Float, Option, Some}
use Rattle.table.specs.{declared.series.Series.Series, declared.series.Series.TheVariants.Price, declared.series.Series.TheVariants.Slot}
use Rattle.rules.specs.{Values.words_from, Values.price_of, Values.slot_of, Values.pick}

-- A slot or a price, by its number.
abbrev pub over_of : Bool → ℕ → Series
over_of true k = Slot k
over_of false p = Price p

-- What a row has of it.
abbrev pub of_row : Series → (ℕ → ℕ) → Option Float
of_row (Price p) row = Some (price_of row p)
of_row (Slot k) row = slot_of row k

-- Where its word stands in a row, and that a row of so many slots has such a word.
abbrev pub place_of : Bool → ℕ → ℕ
place_of true k = 7 + k
place_of false p = p + 1

abbrev pub InRow : ℕ → Bool → ℕ → Type 0
InRow slots true k = (k < slots) × (k < 64)
InRow slots false p = p < 5

-- The best of a value and of so many rows from word `base` on.
unfoldable pub best_after : ℕ → Series → List ℕ → ℕ → ℕ → Option Float → ℕ → Option Float
best_after kind over ws slots base best zero = best
best_after kind over ws slots base best (suc m) =
    pick kind (best_after kind over ws slots base best m) (of_row over (words_from ws (base + m * (7 + slots))))

-- Of the rows from word `base` on, so many leave this number the best.
abbrev pub PassedOver : ℕ → Series → List ℕ → ℕ → ℕ → Float → ℕ → Type 0
PassedOver kind over ws slots base best m =
    (k : ℕ) → k < m → pick kind (Some best) (of_row over (words_from ws (base + k * (7 + slots)))) ≡ Some best

-- All of `count` rows are passed over, or the row after those that are has this.
abbrev pub Stopped : Series → List ℕ → ℕ → ℕ → ℕ → ℕ → Bool → Option Float → Type 0
Stopped over ws slots base count m true later = (m < count) × (later ≡ of_row over (words_from ws (base + m * (7 + slots))))
Stopped over ws slots base count m false later = m ≡ count
