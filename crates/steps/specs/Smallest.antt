-- D cannot be smaller: for each kind that looks back, rows on which the steps answer yes over D = reach + 1 of them and no over one less.
use Rattle.std.specs.Prelude.{ℕ, ◌+◌, ◌≡◌, refl, Bool, true, false, List, [], ◌∷◌, ◌++◌, None}
use Rattle.floats.specs.{Floats.zero, Floats.abs}
use Rattle.rows.specs.{History.history_of, History.last_rows}
use Rattle.table.specs.{Trees.Operand, Trees.const, Trees.ref, Trees.price, Trees.prev, Trees.Condition, Trees.compare, Trees.cross, Trees.trend, Trees.reach}
use Rattle.table.specs.{Trees.reach_of}
use Rattle.rules.specs.{declared.position.PositionState.PositionState, Values.price_of, Values.slot_of}
use Rattle.rules.specs.{Values.combined, Values.tested, Values.compared, Values.crossed, Meaning.newest, Meaning.there, Meaning.value}
use Rattle.steps.specs.{Machine.ago, Machine.effect, Machine.does, Machine.after_step, Machine.run, Machine.answers, Translation.code, Translation.code_of}
use Rattle.std.specs.Float.Ieee as Ieee
use Rattle.table.specs.Named as Named

-- a row of two slots, both present, with this close and these slot words
row : ℕ → ℕ → ℕ → List ℕ
row close first second = 0 ∷ 0 ∷ 0 ∷ 0 ∷ close ∷ 0 ∷ 3 ∷ first ∷ second ∷ []

ten : ℕ
ten = 0x4024_0000_0000_0000

eleven : ℕ
eleven = 0x4026_0000_0000_0000

flat : PositionState
flat = record { qty = zero; entered = None; bars_seen = 1 }

-- the steps of a condition over the last `rows` of the rows
over_last : ℕ → List ℕ → Condition → Bool
over_last rows ws c = answers (history_of 2 (last_rows 2 rows ws)) flat (code_of c)

-- over D rows, and over one less
pub record Pair : Type 0 where
  pub enough : Bool
  pub short : Bool

both_ways : List ℕ → Condition → Pair
both_ways ws c = record { enough = over_last (reach_of c + 1) ws c; short = over_last (reach_of c) ws c }

close : Operand
close = price 3

-- closes that rise by one row, closes that fall
rising : List ℕ
rising = row ten ten ten ++ (row ten ten eleven ++ (row ten ten eleven ++ row eleven eleven ten))

falling : List ℕ
falling = row eleven ten ten ++ (row eleven ten eleven ++ (row eleven eleven ten ++ row ten ten eleven))

-- The worked example's entry, CrossAbove(slot 0, slot 1), and exit, Lt(close, Prev(close, 2)); then CrossBelow, Rising, Falling, and a
-- Prev of a constant, which is kept from being folded.
pub cases : List Pair
cases =
    both_ways rising (cross Named.cross_above (ref 0) (ref 1)) ∷
    both_ways falling (compare Named.lt close (prev close 2)) ∷
    both_ways falling (cross Named.cross_below (ref 0) (ref 1)) ∷
    both_ways rising (trend Named.rising close 3) ∷
    both_ways falling (trend Named.falling close 1) ∷
    both_ways rising (compare Named.gt (prev (const eleven) 3) (const ten)) ∷ []

abbrev split : Pair
split = record { enough = true; short = false }

pub one_row_less : cases ≡ (split ∷ split ∷ split ∷ split ∷ split ∷ split ∷ [])
unfolding row ten eleven flat over_last both_ways close rising falling cases history_of last_rows newest there value price_of slot_of combined tested compared
    crossed reach reach_of ago effect does after_step run code code_of abs Ieee.lt Ieee.le Ieee.sub Ieee.of_bits
one_row_less = refl
