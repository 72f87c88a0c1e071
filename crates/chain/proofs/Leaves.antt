-- The first missing leaf at a node, by the node's shape. Assumes nothing.
use Rattle.std.specs.Prelude.{Option, ℕ}
use Rattle.words.specs.Prelude.{ℕ, ◌+◌, ◌-◌, ◌≡◌, refl, sym, ap, ◌∙◌, Bool, true, false, List, arith}
use Rattle.rows.specs.{History.History}
use Rattle.table.specs.{declared.series.Series.Series, Series.as_operand, Series.series_in}
use Rattle.rules.specs.{declared.shapes.OperandShape.OperandShape, declared.shapes.OperandShape.TheVariants.Const}
use Rattle.rules.specs.{declared.shapes.OperandShape.TheVariants.Ref, declared.shapes.OperandShape.TheVariants.Price}
use Rattle.rules.specs.{declared.shapes.OperandShape.TheVariants.Prev, declared.shapes.OperandShape.TheVariants.Arith}
use Rattle.rules.specs.{declared.shapes.OperandShape.TheVariants.Extreme, declared.shapes.OperandShape.TheVariants.NoOperand, Shapes.operand_shape}
use Rattle.rules.specs.{Flat.grow_operand, Flat.flat_operand_at}
use Rattle.rules.proofs.{Grown.no_operand, Grown.grown_operand}
use Rattle.chain.specs.{Missing.first_found, Missing.leaf_gone, Missing.newest_gone, Missing.missing_in, Flat.by_ends}
use Rattle.chain.specs.{Laws.Shapes.OperandPlaced, Laws.Shapes.operand_placed}

-- the shapes that have nothing below them
unfoldable pub is_leaf : OperandShape → Bool
is_leaf (Const bits) = true
is_leaf (Ref slot) = true
is_leaf (Price selector) = true
is_leaf (Prev a n) = false
is_leaf (Arith kind a b) = false
is_leaf (Extreme kind a n) = false
is_leaf NoOperand = true

module _ (t ends : List ℕ) (h : History) (i bar back left : ℕ) (r : Option (ℕ × ℕ)) where
  -- with no level left
  pub gone_deep : left ≡ 0 → r ≡ leaf_gone h (flat_operand_at left t ends i) i bar back → r ≡ missing_in (by_ends ends) h (flat_operand_at left t ends i) i bar back
  unfolding missing_in
  gone_deep e p = rw (no_operand t ends i left e) (rw (no_operand t ends i left e) at p)

  module _ (some : left ≡ 0 → ⊥) (s : OperandShape) (e : s ≡ operand_shape t ends i) where
    leaf_same : (u : OperandShape) → is_leaf u ≡ true
        → missing_in (by_ends ends) h (grow_operand (series_in t) (flat_operand_at (left - 1) t ends) u) i bar back
        ≡ leaf_gone h (grow_operand (series_in t) (flat_operand_at (left - 1) t ends) u) i bar back
    unfolding is_leaf missing_in grow_operand
    leaf_same (Const bits) l = refl
    leaf_same (Ref slot) l = refl
    leaf_same (Price selector) l = refl
    leaf_same (Prev a n) l = absurd (let z : ◌≡◌ {A = ℕ} 0 1 = cc in omega arith)
    leaf_same (Arith kind a b) l = absurd (let z : ◌≡◌ {A = ℕ} 0 1 = cc in omega arith)
    leaf_same (Extreme kind a n) l = absurd (let z : ◌≡◌ {A = ℕ} 0 1 = cc in omega arith)
    leaf_same NoOperand l = refl

    pub gone_leaf : (u : OperandShape) → s ≡ u → is_leaf u ≡ true → r ≡ leaf_gone h (flat_operand_at left t ends i) i bar back
        → r ≡ missing_in (by_ends ends) h (flat_operand_at left t ends i) i bar back
    gone_leaf u f l p =
        rw (grown_operand t ends i left some s u e f) (rw (grown_operand t ends i left some s u e f) at p ∙ sym (leaf_same u l))

    pub gone_prev : (a n : ℕ) → s ≡ Prev a n → r ≡ missing_in (by_ends ends) h (flat_operand_at (left - 1) t ends a) a bar (back + n)
        → r ≡ missing_in (by_ends ends) h (flat_operand_at left t ends i) i bar back
    unfolding missing_in grow_operand OperandPlaced
    gone_prev a n f p =
        let at = rw (sym e ∙ f) at (operand_placed t ends i) in
        rw (grown_operand t ends i left some s (Prev a n) e f)
        (p ∙ ap (λ (j : ℕ). missing_in (by_ends ends) h (flat_operand_at (left - 1) t ends a) j bar (back + n)) at.0)

    pub gone_arith : (kind a b : ℕ) (x y : Option (ℕ × ℕ)) → s ≡ Arith kind a b → x ≡ missing_in (by_ends ends) h (flat_operand_at (left - 1) t ends a) a bar back
        → y ≡ missing_in (by_ends ends) h (flat_operand_at (left - 1) t ends b) b bar back → r ≡ first_found x y
        → r ≡ missing_in (by_ends ends) h (flat_operand_at left t ends i) i bar back
    unfolding missing_in grow_operand OperandPlaced by_ends
    gone_arith kind a b x y f p q o =
        let at = rw (sym e ∙ f) at (operand_placed t ends i) in
        let first = p ∙ ap (λ (j : ℕ). missing_in (by_ends ends) h (flat_operand_at (left - 1) t ends a) j bar back) at.0 in
        let second = q ∙ ap (λ (j : ℕ). missing_in (by_ends ends) h (flat_operand_at (left - 1) t ends b) j bar back) at.1 in
        rw (grown_operand t ends i left some s (Arith kind a b) e f) (rw (first, second) at o)

    pub gone_extreme : (kind a n m : ℕ) (over : Series) → s ≡ Extreme kind a n → over ≡ series_in t a → m ≡ n - 1
        → r ≡ newest_gone h (as_operand over) a bar back m → r ≡ missing_in (by_ends ends) h (flat_operand_at left t ends i) i bar back
    unfolding missing_in grow_operand OperandPlaced
    gone_extreme kind a n m over f o k p =
        let at = rw (sym e ∙ f) at (operand_placed t ends i) in
        rw (grown_operand t ends i left some s (Extreme kind a n) e f)
        (rw (o, k) at p ∙ ap (λ (j : ℕ). newest_gone h (as_operand (series_in t a)) j bar back (n - 1)) at.0)
