-- The operand and the condition at a node, by the node's shape. Assumes nothing.
use Rattle.words.specs.Prelude.{ℕ, zero, suc, ◌-◌, ◌<◌, ◌≤◌, ◌≡◌, refl, List, sub-one}
use Rattle.table.specs.{Series.series_in, Trees.const, Trees.any, Trees.none}
use Rattle.rules.specs.{declared.shapes.OperandShape.OperandShape, declared.shapes.ConditionShape.ConditionShape, Shapes.operand_shape}
use Rattle.rules.specs.{Shapes.condition_shape, Flat.grow_operand, Flat.flat_operand_at, Flat.grow_condition, Flat.flat_condition_at}

module _ (t ends : List ℕ) (i left : ℕ) where
  pub no_operand : left ≡ 0 → flat_operand_at left t ends i ≡ const 0
  unfolding flat_operand_at
  no_operand e = rw e

  pub no_condition : left ≡ 0 → flat_condition_at left t ends i ≡ any none
  unfolding flat_condition_at
  no_condition e = rw e

module _ (t ends : List ℕ) (i : ℕ) where
  pub grown_operand : (left : ℕ) → (left ≡ 0 → ⊥) → (s u : OperandShape) → s ≡ operand_shape t ends i → s ≡ u
      → flat_operand_at left t ends i ≡ grow_operand (series_in t) (flat_operand_at (left - 1) t ends) u
  unfolding flat_operand_at
  grown_operand zero e s u p q = absurd (e refl)
  grown_operand (suc left) e s u p q = rw (sub-one (suc left), ← p, q)

  pub grown_condition : (left : ℕ) → (left ≡ 0 → ⊥) → (s u : ConditionShape) → s ≡ condition_shape t ends i → s ≡ u
      → flat_condition_at left t ends i ≡ grow_condition (flat_operand_at (left - 1) t ends) (flat_condition_at (left - 1) t ends) ends u
  unfolding flat_condition_at
  grown_condition zero e s u p q = absurd (e refl)
  grown_condition (suc left) e s u p q = rw (sub-one (suc left), ← p, q)

-- a bar below the count that was read is below the history's
pub below : {n m i : ℕ} → n ≡ m → i < n → i < m
below e l = rw e at l

pub above : {n m i : ℕ} → n ≡ m → n ≤ i → m ≤ i
above e l = rw e at l
