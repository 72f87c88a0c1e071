-- "Both sides of each edge": the starred cases 1 to 7, of the definitions themselves, as one table. Assumes nothing.
use Rattle.std.specs.Prelude.{ℕ, ◌≡◌, refl, Bool, true, false, List, [], ◌∷◌, ◌++◌, None}
use Rattle.floats.specs.{Floats.zero, Floats.abs}
use Rattle.rows.specs.{History.history_of}
use Rattle.table.specs.{Trees.Operand, Trees.const, Trees.price, Trees.ref, Trees.prev, Trees.arith, Trees.Condition, Trees.compare, Trees.cross, Trees.every}
use Rattle.table.specs.{Trees.any, Trees.negated, Trees.none, Trees.reach, Trees.reach_of}
use Rattle.rules.specs.{declared.position.PositionState.PositionState, Values.price_of, Values.slot_of}
use Rattle.rules.specs.{Values.divide, Values.combine, Values.combined, Values.tested, Values.compared, Values.crossed, Meaning.newest, Meaning.there}
use Rattle.rules.specs.{Meaning.value, Meaning.holds, Meaning.says}
use Rattle.std.specs.Float.Ieee as Ieee
use Rattle.table.specs.Named as Named

-- the bits of the constants, and the kinds, that the cases name
num0 : Operand
num0 = const 0

num1 : Operand
num1 = const 0x3ff0_0000_0000_0000

num5 : Operand
num5 = const 0x4014_0000_0000_0000

num10 : Operand
num10 = const 0x4024_0000_0000_0000

close : Operand
close = price 3

gt : Operand → Operand → Condition
gt = compare Named.gt

cross_above : Operand → Operand → Condition
cross_above = cross Named.cross_above

one_by_zero : Operand
unfolding num0 num1
one_by_zero = arith Named.div num1 num0

-- a row with this close and no slot, and one whose only slot is absent
row : ℕ → List ℕ
row bits = 0 ∷ 0 ∷ 0 ∷ 0 ∷ bits ∷ 0 ∷ 0 ∷ []

row10 : List ℕ
row10 = row 0x4024_0000_0000_0000

row11 : List ℕ
row11 = row 0x4026_0000_0000_0000

row_absent : List ℕ
row_absent = row 0 ++ (0 ∷ [])

flat : PositionState
flat = record { qty = zero; entered = None; bars_seen = 1 }

ask : ℕ → List ℕ → Condition → Bool
ask K ws c = says (history_of K ws) flat c

-- What the definitions say in each case: an answer, or a reach.
pub data Said : Type 0 where
  answer : Bool → Said
  reaches : ℕ → Said

pub starred : List Said
starred =
    answer (ask 0 row11 (cross_above close num10)) ∷
    answer (ask 0 (row10 ++ row11) (cross_above close num10)) ∷
    answer (ask 1 row_absent (gt (ref 0) num0)) ∷
    answer (ask 1 row_absent (negated (gt (ref 0) num0))) ∷
    answer (ask 0 row10 (compare Named.eq one_by_zero one_by_zero)) ∷
    answer (ask 0 row10 (compare Named.ne one_by_zero one_by_zero)) ∷
    answer (ask 0 row10 (every none)) ∷
    answer (ask 0 row10 (any none)) ∷
    answer (ask 0 (row10 ++ row10 ++ row10) (gt (prev num5 3) num1)) ∷
    answer (ask 0 (row10 ++ row10 ++ row10 ++ row10) (gt (prev num5 3) num1)) ∷
    reaches (reach_of (cross_above (prev (prev close 2) 3) num1)) ∷ []

-- ★1 no, ★2 yes; ★3 no and yes; ★4 both no; ★5 yes, no; ★6 no, yes; ★7 reach 6
pub edges : starred ≡
    (answer false ∷ answer true ∷
    answer false ∷ answer true ∷
    answer false ∷ answer false ∷
    answer true ∷ answer false ∷
    answer false ∷ answer true ∷
    reaches 6 ∷ [])
unfolding num0 num1 num5 num10 close gt cross_above one_by_zero row row10 row11 row_absent flat ask starred history_of newest there value holds says
    price_of slot_of divide combine combined tested compared crossed reach reach_of abs Ieee.lt Ieee.le Ieee.add Ieee.sub Ieee.mul Ieee.div Ieee.neg
    Ieee.of_bits
edges = refl
