-- The steps of a condition, and how far its operands reach.
use Rattle.words.specs.Prelude.{ℕ, zero, suc, ◌+◌, ◌-◌, ◌≤◌, ◌≡◌, refl, Bool, true, false, not, List, [], ◌∷◌, ◌++◌, append_assoc, arith, sub-one, length}
use Rattle.table.specs.{Trees.Operand, Trees.Condition, Trees.Conditions, Trees.compare, Trees.cross, Trees.between, Trees.trend, Trees.any, Trees.negated}
use Rattle.table.specs.{Trees.in_position, Trees.bars_since, Trees.none, Trees.more, Trees.reach, Trees.reach_of, Trees.reach_of_all}
use Rattle.rules.specs.{declared.shapes.ConditionShape.ConditionShape, Shapes.end_in, Shapes.condition_shape, Flat.flat_operand_at, Flat.grow_conditions, Flat.group}
use Rattle.rules.specs.{Flat.grow_condition, Flat.flat_condition_at}
use Rattle.steps.specs.{declared.step.Op.TheVariants.Compare, declared.step.Op.TheVariants.Cross, declared.step.Op.TheVariants.Between}
use Rattle.steps.specs.{declared.step.Op.TheVariants.Answer, declared.step.Op.TheVariants.Turn, declared.step.Op.TheVariants.InPosition}
use Rattle.steps.specs.{declared.step.Op.TheVariants.BarsSinceEntry, declared.step.Op.TheVariants.JumpIf, Translation.code, Translation.code_of}
use Rattle.steps.specs.{Translation.code_each, Translation.trend_test}

-- ---- the condition at a node

module _ (t ends : List ℕ) (i : ℕ) where
  pub ground : (left : ℕ) → left ≡ 0 → flat_condition_at left t ends i ≡ any none
  unfolding flat_condition_at
  ground left e = rw e

  pub grown : (left : ℕ) → (left ≡ 0 → ⊥) → (s x : ConditionShape) → s ≡ condition_shape t ends i → s ≡ x
      → flat_condition_at left t ends i ≡ grow_condition (flat_operand_at (left - 1) t ends) (flat_condition_at (left - 1) t ends) ends x
  unfolding flat_condition_at
  grown zero e s x p q = absurd (e refl)
  grown (suc left) e s x p q = rw (sub-one (suc left), ← p, q)

module _ (f : ℕ → Condition) (ends : List ℕ) where
  pub no_more : (n j : ℕ) → n ≡ 0 → grow_conditions f ends n j ≡ none
  unfolding grow_conditions
  no_more n j e = rw e

  pub one_more : (n j : ℕ) → (n ≡ 0 → ⊥) → grow_conditions f ends n j ≡ more (f j) (grow_conditions f ends (n - 1) (end_in ends j))
  unfolding grow_conditions
  one_more zero j e = absurd (e refl)
  one_more (suc n) j e = rw (sub-one (suc n))

-- ---- groups and the rest

pub code-group : (all : Bool) (cs : Conditions) → code_of (group all cs) ≡ (Answer all ∷ []) ++ code_each (not all) cs
unfolding code_of group
code-group true cs = refl
code-group false cs = refl

pub code_no_more : (w : Bool) → code_each w none ≡ []
unfolding code_of
code_no_more w = refl

pub code-more : (w : Bool) (c : Condition) (cs : Conditions) → code_each w (more c cs) ≡ code_of c ++ JumpIf w (length (code_each w cs)) ∷ code_each w cs
unfolding code_of
code-more w c cs = refl

pub code-not : (c : Condition) → code_of (negated c) ≡ code_of c ++ Turn ∷ []
unfolding code_of
code-not c = refl

pub code_position : (w : Bool) → code_of (in_position w) ≡ InPosition w ∷ []
unfolding code_of
code_position w = refl

pub code_since : (p k : ℕ) → code_of (bars_since p k) ≡ BarsSinceEntry p k ∷ []
unfolding code_of
code_since p k = refl

pub code-none : code_of (any none) ≡ Answer false ∷ []
unfolding code_of
code-none = refl

pub reach-group : (all : Bool) (cs : Conditions) → reach_of (group all cs) ≡ reach_of_all cs
unfolding reach_of group
reach-group true cs = refl
reach-group false cs = refl

pub reach-not : (c : Condition) → reach_of (negated c) ≡ reach_of c
unfolding reach_of
reach-not c = refl

module _ (c : Condition) (cs : Conditions) where
  pub more-reach : reach_of_all (more c cs) ≤ 4096 → (reach_of c ≤ 4096) × (reach_of_all cs ≤ 4096)
  unfolding reach_of
  more-reach h = omega arith

-- ---- the steps of the tests on operands

pub code_compare : (k : ℕ) (a b : Operand) → code_of (compare k a b) ≡ (code a 0 ++ code b 0) ++ Compare k ∷ []
unfolding code_of
code_compare k a b = simp append_assoc

pub code_cross : (k : ℕ) (a b : Operand) → code_of (cross k a b) ≡ (code a 0 ++ code b 0) ++ ((code a 1 ++ code b 1) ++ Cross k ∷ [])
unfolding code_of
code_cross k a b = simp append_assoc

pub code-between : (x l u : Operand) → code_of (between x l u) ≡ code x 0 ++ ((code l 0 ++ code u 0) ++ Between ∷ [])
unfolding code_of
code-between x l u = simp append_assoc

pub code-trend : (k : ℕ) (a : Operand) (n : ℕ) → code_of (trend k a n) ≡ (code a 0 ++ code a n) ++ Compare (trend_test k) ∷ []
unfolding code_of
code-trend k a n = simp append_assoc

-- ---- their operands' reach

module _ (k : ℕ) (a b : Operand) where
  pub compare_reach : reach_of (compare k a b) ≤ 4096 → (0 + reach a ≤ 8192) × (0 + reach b ≤ 8192)
  unfolding reach_of
  compare_reach h = omega arith

  pub cross_reach : reach_of (cross k a b) ≤ 4096 → (back : ℕ) → back ≤ 1 → (back + reach a ≤ 8192) × (back + reach b ≤ 8192)
  unfolding reach_of
  cross_reach h back near = omega arith

pub between-reach : (x l u : Operand) → reach_of (between x l u) ≤ 4096 → (0 + reach x ≤ 8192) × ((0 + reach l ≤ 8192) × (0 + reach u ≤ 8192))
unfolding reach_of
between-reach x l u h = omega arith

pub trend-reach : (k : ℕ) (a : Operand) (n : ℕ) → reach_of (trend k a n) ≤ 4096 → (0 + reach a ≤ 8192) × (n + reach a ≤ 8192)
unfolding reach_of
trend-reach k a n h = omega arith
