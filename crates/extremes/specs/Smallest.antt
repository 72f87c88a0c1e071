-- D cannot be smaller for Highest and Lowest either: rows on which the steps answer yes over D = reach + 1 of them and no over one less, as
-- steps/specs/Smallest.antt has them for the other kinds that look back.
use Rattle.std.specs.Prelude.{ℕ, ◌+◌, ◌≡◌, refl, Bool, true, false, List, [], ◌∷◌, ◌++◌, None}
use Rattle.floats.specs.{Floats.zero}
use Rattle.rows.specs.{History.history_of, History.last_rows}
use Rattle.table.specs.{declared.series.Series.TheVariants.Price, declared.series.Series.TheVariants.Slot, Trees.const, Trees.prev, Trees.extreme}
use Rattle.table.specs.{Trees.Condition, Trees.compare, Trees.reach, Trees.reach_of}
use Rattle.rules.specs.{declared.position.PositionState.PositionState, Values.price_of, Values.slot_of}
use Rattle.rules.specs.{Values.better, Values.took, Values.pick, Values.tested, Values.compared, Meaning.newest, Meaning.there, Meaning.series_at}
use Rattle.rules.specs.{Meaning.extreme_over, Meaning.extreme_at, Meaning.value}
use Rattle.steps.specs.{Machine.ago, Machine.effect, Machine.does, Machine.after_step, Machine.run, Machine.answers, Smallest.Pair, Translation.code}
use Rattle.steps.specs.{Translation.code_of}
use Rattle.std.specs.Float.Ieee as Ieee
use Rattle.table.specs.Named as Named

-- a row of one slot, present, with this close and this slot's word
row : ℕ → ℕ → List ℕ
row close slot = 0 ∷ 0 ∷ 0 ∷ 0 ∷ close ∷ 0 ∷ 1 ∷ slot ∷ []

ten : ℕ
ten = 0x4024_0000_0000_0000

eleven : ℕ
eleven = 0x4026_0000_0000_0000

flat : PositionState
flat = record { qty = zero; entered = None; bars_seen = 1 }

-- the steps of a condition over the last `rows` of the rows
over_last : ℕ → List ℕ → Condition → Bool
over_last rows ws c = answers (history_of 1 (last_rows 1 rows ws)) flat (code_of c)

both_ways : List ℕ → Condition → Pair
both_ways ws c = record { enough = over_last (reach_of c + 1) ws c; short = over_last (reach_of c) ws c }

rows : List ℕ
rows = row ten eleven ++ (row eleven ten ++ (row ten eleven ++ row ten eleven))

-- Highest(close, 3) above 10; Lowest(slot 0, 3) below 11; and both under a Prev.
pub cases : List Pair
cases =
    both_ways rows (compare Named.gt (extreme Named.highest (Price 3) 3) (const ten)) ∷
    both_ways rows (compare Named.lt (extreme Named.lowest (Slot 0) 3) (const eleven)) ∷
    both_ways rows (compare Named.gt (prev (extreme Named.highest (Price 3) 2) 2) (const ten)) ∷
    both_ways rows (compare Named.lt (prev (extreme Named.lowest (Slot 0) 2) 2) (const eleven)) ∷ []

abbrev split : Pair
split = record { enough = true; short = false }

pub one_row_less : cases ≡ (split ∷ split ∷ split ∷ split ∷ [])
unfolding row ten eleven flat over_last both_ways rows cases history_of last_rows newest there series_at extreme_over extreme_at value price_of slot_of better took pick
    tested compared reach reach_of ago effect does after_step run code code_of Ieee.lt Ieee.le Ieee.of_bits
one_row_less = refl
