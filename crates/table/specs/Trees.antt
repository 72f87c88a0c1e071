-- The trees that a table holds, as trees, and how far back each one reads.
use Rattle.std.specs.Prelude.{Bool, ℕ, ◌+◌, ◌-◌, max}
use Rattle.table.specs.{declared.series.Series.Series}

-- "Kinds: 1 Const (constant, finite); 2 Ref (n = slot, below K); 3 Price (selector 0..6: open, high, low, close, volume,
-- hlc3, ohlc4); 4 Prev (n; one operand); 5..8 Add, Sub, Mul, Div (two operands)": the constant's bits, the slot, the
-- selector, the operand and n, the kind's number and its two operands. "Kinds 9 and 10, Highest and Lowest, take n from 1 to
-- 4,095 and one child that must be a Price or a Ref" (request 8): the kind's number, that child as a series, n.
pub data Operand : Type 0 where
  const : ℕ → Operand
  ref : ℕ → Operand
  price : ℕ → Operand
  prev : Operand → ℕ → Operand
  arith : ℕ → Operand → Operand → Operand
  extreme : ℕ → Series → ℕ → Operand

-- "16..21 Gt, Lt, Ge, Le, Eq, Ne and 22, 23 CrossAbove, CrossBelow (two operands); 24 Between (value, low, high); 25, 26
-- Rising, Falling (n; one operand); 27, 28 All, Any (0 or more conditions); 29 Not (one condition); 30 InPosition (selector 0
-- or 1); 31 BarsSinceEntry (selector 0..4: Gt, Lt, Ge, Le, Eq; n = k)": where a clause is several kinds, the kind's
-- number comes first.
mutual
  pub data Condition : Type 0 where
    compare : ℕ → Operand → Operand → Condition
    cross : ℕ → Operand → Operand → Condition
    between : Operand → Operand → Operand → Condition
    trend : ℕ → Operand → ℕ → Condition
    every : Conditions → Condition
    any : Conditions → Condition
    negated : Condition → Condition
    in_position : Bool → Condition
    bars_since : ℕ → ℕ → Condition

  pub data Conditions : Type 0 where
    none : Conditions
    more : Condition → Conditions → Conditions

-- "Reach: 0 for leaves, else the greatest child's (0 if none); Prev, Rising and Falling add n, a cross adds 1." "The reach is n − 1
-- plus the child's" (request 8), and a Price or a Ref is a leaf.
unfoldable pub reach : Operand → ℕ
reach (const _) = 0
reach (ref _) = 0
reach (price _) = 0
reach (prev a n) = n + reach a
reach (arith _ a b) = max (reach a) (reach b)
reach (extreme _ _ n) = n - 1

unfoldable mutual
  pub reach_of : Condition → ℕ
  reach_of (compare _ a b) = max (reach a) (reach b)
  reach_of (cross _ a b) = 1 + max (reach a) (reach b)
  reach_of (between x low high) = max (reach x) (max (reach low) (reach high))
  reach_of (trend _ a n) = n + reach a
  reach_of (every cs) = reach_of_all cs
  reach_of (any cs) = reach_of_all cs
  reach_of (negated c) = reach_of c
  reach_of (in_position _) = 0
  reach_of (bars_since _ _) = 0

  pub reach_of_all : Conditions → ℕ
  reach_of_all none = 0
  reach_of_all (more c cs) = max (reach_of c) (reach_of_all cs)
