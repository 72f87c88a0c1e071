-- The steps of an operand, by the shape of its node.
use Rattle.words.specs.Prelude.{ℕ, zero, suc, ◌+◌, ◌-◌, ◌≤◌, ◌≡◌, refl, List, [], ◌∷◌, ◌++◌, arith, sub-one}
use Rattle.table.specs.{Trees.Operand, Trees.const, Trees.ref, Trees.price, Trees.prev, Trees.arith as sums, Trees.extreme, Trees.reach}
use Rattle.table.specs.{declared.series.Series.Series, Series.series_in}
use Rattle.rules.specs.{declared.shapes.OperandShape.OperandShape, declared.shapes.OperandShape.TheVariants.Const}
use Rattle.rules.specs.{declared.shapes.OperandShape.TheVariants.Ref, declared.shapes.OperandShape.TheVariants.Price}
use Rattle.rules.specs.{declared.shapes.OperandShape.TheVariants.Prev, declared.shapes.OperandShape.TheVariants.Arith}
use Rattle.rules.specs.{declared.shapes.OperandShape.TheVariants.Extreme, declared.shapes.OperandShape.TheVariants.NoOperand, Shapes.operand_shape}
use Rattle.rules.specs.{Flat.grow_operand, Flat.flat_operand_at}
use Rattle.steps.specs.{Translation.code}
use Rattle.steps.specs.declared.step.Op.TheVariants as Op

module _ (t ends : List ℕ) (i : ℕ) where
  pub ground : (left : ℕ) → left ≡ 0 → flat_operand_at left t ends i ≡ const 0
  unfolding flat_operand_at
  ground left e = rw e

  grown : (left : ℕ) → (left ≡ 0 → ⊥) → (s x : OperandShape) → s ≡ operand_shape t ends i → s ≡ x
      → flat_operand_at left t ends i ≡ grow_operand (series_in t) (flat_operand_at (left - 1) t ends) x
  unfolding flat_operand_at
  grown zero e s x p q = absurd (e refl)
  grown (suc left) e s x p q = rw (sub-one (suc left), ← p, q)

  module _ (left : ℕ) (more : left ≡ 0 → ⊥) (s : OperandShape) (p : s ≡ operand_shape t ends i) where
    pub a_const : (bits : ℕ) → s ≡ Const bits → flat_operand_at left t ends i ≡ const bits
    unfolding grow_operand
    a_const bits q = grown left more s (Const bits) p q

    pub a_ref : (slot : ℕ) → s ≡ Ref slot → flat_operand_at left t ends i ≡ ref slot
    unfolding grow_operand
    a_ref slot q = grown left more s (Ref slot) p q

    pub a_price : (selector : ℕ) → s ≡ Price selector → flat_operand_at left t ends i ≡ price selector
    unfolding grow_operand
    a_price selector q = grown left more s (Price selector) p q

    pub a_prev : (a n : ℕ) → s ≡ Prev a n → flat_operand_at left t ends i ≡ prev (flat_operand_at (left - 1) t ends a) n
    unfolding grow_operand
    a_prev a n q = grown left more s (Prev a n) p q

    pub a_sum : (kind a b : ℕ) → s ≡ Arith kind a b
        → flat_operand_at left t ends i ≡ sums kind (flat_operand_at (left - 1) t ends a) (flat_operand_at (left - 1) t ends b)
    unfolding grow_operand
    a_sum kind a b q = grown left more s (Arith kind a b) p q

    pub an_extreme : (kind a n : ℕ) → s ≡ Extreme kind a n → flat_operand_at left t ends i ≡ extreme kind (series_in t a) n
    unfolding grow_operand
    an_extreme kind a n q = grown left more s (Extreme kind a n) p q

    pub no_operand : s ≡ NoOperand → flat_operand_at left t ends i ≡ const 0
    unfolding grow_operand
    no_operand q = grown left more s NoOperand p q

-- ---- the steps of each

pub code-const : (bits n : ℕ) → code (const bits) n ≡ Op.Const bits n ∷ []
unfolding code
code-const bits n = refl

pub code-ref : (k n : ℕ) → code (ref k) n ≡ Op.Ref k n ∷ []
unfolding code
code-ref k n = refl

pub code-price : (p n : ℕ) → code (price p) n ≡ Op.Price p n ∷ []
unfolding code
code-price p n = refl

pub code-prev : (a : Operand) (m n : ℕ) → code (prev a m) n ≡ code a (n + m)
unfolding code
code-prev a m n = refl

pub code_sum : (k : ℕ) (a b : Operand) (n : ℕ) → code (sums k a b) n ≡ code a n ++ (code b n ++ Op.Arith k ∷ [])
unfolding code
code_sum k a b n = refl

pub code_extreme : (kind : ℕ) (over : Series) (m n : ℕ) → code (extreme kind over m) n ≡ Op.Extreme kind over m n ∷ []
unfolding code
code_extreme kind over m n = refl

-- ---- look-backs stay small

pub extreme_reach : (kind : ℕ) (over : Series) (m n : ℕ) → n + reach (extreme kind over m) ≤ 8192 → n + (m - 1) ≤ 8192
unfolding reach
extreme_reach kind over m n h = h

pub prev-reach : (a : Operand) (m n : ℕ) → n + reach (prev a m) ≤ 8192 → n + m + reach a ≤ 8192
unfolding reach
prev-reach a m n h = omega arith

module _ (k : ℕ) (a b : Operand) (n : ℕ) where
  pub first_reach : n + reach (sums k a b) ≤ 8192 → n + reach a ≤ 8192
  unfolding reach
  first_reach h = omega arith

  pub second_reach : n + reach (sums k a b) ≤ 8192 → n + reach b ≤ 8192
  unfolding reach
  second_reach h = omega arith
