-- Highest and Lowest on rows that a reader can follow, each as one table under one statement. Assumes nothing.
use Rattle.std.specs.Prelude.{ℕ, ◌≡◌, refl, List, [], ◌∷◌, ◌++◌, Float, None, Option, Some}
use Rattle.floats.specs.{Floats.float_of}
use Rattle.rows.specs.{History.history_of}
use Rattle.table.specs.{declared.series.Series.Series, declared.series.Series.TheVariants.Price, declared.series.Series.TheVariants.Slot, Trees.extreme}
use Rattle.rules.specs.{Values.price_of}
use Rattle.rules.specs.{Values.slot_of, Values.better, Values.took, Values.pick, Meaning.newest, Meaning.there, Meaning.series_at, Meaning.extreme_over}
use Rattle.rules.specs.{Meaning.extreme_at, Meaning.value}
use Rattle.std.specs.Float.Ieee as Ieee
use Rattle.table.specs.Named as Named

-- words of 10, 11, 12, and of a zero without and with a sign
abbrev ten : ℕ
ten = 0x4024_0000_0000_0000

abbrev eleven : ℕ
eleven = 0x4026_0000_0000_0000

abbrev twelve : ℕ
twelve = 0x4028_0000_0000_0000

abbrev minus_zero : ℕ
minus_zero = 0x8000_0000_0000_0000

-- a row with this close and no slot, and one whose one slot is there, or not
row : ℕ → List ℕ
row close = 0 ∷ 0 ∷ 0 ∷ 0 ∷ close ∷ 0 ∷ 0 ∷ []

with_slot : ℕ → List ℕ
with_slot word = 0 ∷ 0 ∷ 0 ∷ 0 ∷ 0 ∷ 0 ∷ 1 ∷ word ∷ []

without : List ℕ
without = 0 ∷ 0 ∷ 0 ∷ 0 ∷ 0 ∷ 0 ∷ 0 ∷ ten ∷ []

-- at the newest of these rows, of K slots, over n bars
ask : ℕ → List ℕ → ℕ → Series → ℕ → Option Float
ask K ws kind s n = value (history_of K ws) (extreme kind s n) (newest (history_of K ws))

close : Series
close = Price 3

rows : List ℕ
rows = row twelve ++ (row ten ++ (row eleven ++ row ten))

pub cases : List (Option Float)
cases =
    ask 0 rows Named.highest close 4 ∷
    ask 0 rows Named.highest close 3 ∷
    ask 0 rows Named.highest close 1 ∷
    ask 0 rows Named.lowest close 4 ∷
    ask 0 rows Named.lowest close 1 ∷
    ask 0 (row twelve ++ (row eleven ++ row twelve)) Named.lowest close 2 ∷
    ask 0 rows Named.highest close 5 ∷
    ask 0 (row 0 ++ row minus_zero) Named.highest close 2 ∷
    ask 0 (row minus_zero ++ row 0) Named.highest close 2 ∷
    ask 0 (row 0 ++ row minus_zero) Named.lowest close 2 ∷
    ask 1 (with_slot ten ++ (with_slot twelve ++ with_slot eleven)) Named.highest (Slot 0) 3 ∷
    ask 1 (with_slot ten ++ (without ++ with_slot eleven)) Named.highest (Slot 0) 3 ∷
    ask 1 (with_slot ten ++ (without ++ with_slot eleven)) Named.lowest (Slot 0) 1 ∷ []

-- Of closes 12, 10, 11, 10: the highest of four 12, of three 11, of one 10; the lowest of four 10, of one 10; of 12, 11, 12 the lowest of two 11;
-- the highest of five is missing. Of a zero and a zero with a sign the older, both ways and for both kinds. Of slots 10, 12, 11 the highest is 12; with the
-- second absent it is missing, and the lowest of one is 11.
pub worked : cases ≡
    (Some (float_of twelve) ∷ Some (float_of eleven) ∷ Some (float_of ten) ∷ Some (float_of ten) ∷ Some (float_of ten) ∷
    Some (float_of eleven) ∷ None ∷
    Some (float_of 0) ∷ Some (float_of minus_zero) ∷ Some (float_of 0) ∷
    Some (float_of twelve) ∷ None ∷ Some (float_of eleven) ∷ [])
unfolding row with_slot without ask close rows cases history_of newest there series_at extreme_over extreme_at value price_of slot_of
    better took pick Ieee.lt Ieee.of_bits
worked = refl
