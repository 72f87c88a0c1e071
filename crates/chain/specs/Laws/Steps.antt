-- The chain on the flat table, one node at a time. Assumes nothing.
use Rattle.std.specs.Prelude.{ℕ, zero, suc, ◌-◌, ◌<◌, ◌≡◌, refl, Bool, true, false, cond, List, [], ◌∷◌, None, Option, Some}
use Rattle.words.specs.Prelude.{sym, ap, Bool·beq, arith, sub-one}
use Rattle.rows.specs.{History.History}
use Rattle.table.specs.{Trees.Operand, Trees.Condition, Trees.every, Trees.any, Trees.negated}
use Rattle.rules.specs.{declared.position.PositionState.PositionState, declared.shapes.ConditionShape.ConditionShape}
use Rattle.rules.specs.{declared.shapes.ConditionShape.TheVariants.Compare, declared.shapes.ConditionShape.TheVariants.Cross}
use Rattle.rules.specs.{declared.shapes.ConditionShape.TheVariants.Between, declared.shapes.ConditionShape.TheVariants.Trend}
use Rattle.rules.specs.{declared.shapes.ConditionShape.TheVariants.Group, declared.shapes.ConditionShape.TheVariants.Not}
use Rattle.rules.specs.{declared.shapes.ConditionShape.TheVariants.InPosition, declared.shapes.ConditionShape.TheVariants.BarsSince}
use Rattle.rules.specs.{declared.shapes.ConditionShape.TheVariants.NoCondition, Meaning.holds, Shapes.end_in, Shapes.condition_shape, Flat.flat_operand_at}
use Rattle.rules.specs.{Flat.grow_conditions, Flat.group, Flat.grow_condition, Flat.flat_condition_at}
use Rattle.chain.specs.{Chain.ChainLine}
use Rattle.chain.specs.{Chain.line_at, Chain.chain, Chain.first_with, Flat.by_ends, Flat.first_at, Flat.next_by, Flat.next_at, Flat.followed}
use Rattle.chain.specs.{Laws.Shapes.ConditionPlaced, Laws.Shapes.condition_placed}

module _ (ends : List ℕ) (h : History) (s : PositionState) (bar : ℕ) (below : ℕ → Condition) where
  -- the lines from node j on
  abbrev from : ℕ → List ChainLine
  from j = chain (by_ends ends) h s (below j) j bar

  abbrev says : ℕ → Bool
  says j = holds h s (below j) bar

  picked : (b : Bool) (j : ℕ) (rest : Option ℕ) → cond b (from j) (followed rest from) ≡ followed (cond b (Some j) rest) from
  unfolding followed
  picked true j rest = refl
  picked false j rest = refl

  -- the first of a row of conditions with an answer
  first_followed : (answer : Bool) (n j : ℕ)
      → first_with (by_ends ends) h s answer (grow_conditions below ends n j) j bar ≡ followed (first_at ends says answer n j) from
  unfolding first_with grow_conditions first_at followed by_ends
  first_followed answer zero j = refl
  first_followed answer (suc n) j =
      rw (first_followed answer n (end_in ends j)) (picked (Bool·beq (holds h s (below j) bar) answer) j (first_at ends says answer n (end_in ends j)))

  -- a node of a shape, and where the chain goes from there
  by_shape : (t : List ℕ) (operand : ℕ → Operand) (i : ℕ) (u : ConditionShape) → ConditionPlaced t ends i u
      → chain (by_ends ends) h s (grow_condition operand below ends u) i bar
      ≡ line_at (by_ends ends) h s (grow_condition operand below ends u) i bar ∷ followed (next_by ends says u) from
  unfolding chain grow_condition group next_by followed ConditionPlaced
  by_shape t operand i (Compare kind a b) p = refl
  by_shape t operand i (Cross kind a b) p = refl
  by_shape t operand i (Between x low high) p = refl
  by_shape t operand i (Trend kind a n) p = refl
  by_shape t operand i (Group true n j) p =
      rw (← p) (ap (λ (ls : List ChainLine). line_at (by_ends ends) h s (every (grow_conditions below ends n j)) i bar ∷ ls) (first_followed false n j))
  by_shape t operand i (Group false n j) p =
      rw (← p) (ap (λ (ls : List ChainLine). line_at (by_ends ends) h s (any (grow_conditions below ends n j)) i bar ∷ ls) (first_followed true n j))
  by_shape t operand i (Not a) p =
      ap (λ (j : ℕ). line_at (by_ends ends) h s (negated (below a)) i bar ∷ chain (by_ends ends) h s (below a) j bar) (sym p)
  by_shape t operand i (InPosition wanted) p = refl
  by_shape t operand i (BarsSince selector k) p = refl
  by_shape t operand i NoCondition p = refl

-- ONE NODE: its line, and the lines from the node on that the chain goes to, with a level of nesting less.
pub chain_step : (t ends : List ℕ) (h : History) (s : PositionState) (bar left i : ℕ)
    → chain (by_ends ends) h s (flat_condition_at left t ends i) i bar
    ≡ line_at (by_ends ends) h s (flat_condition_at left t ends i) i bar
    ∷ followed (next_at left t ends h s i bar) (λ j. chain (by_ends ends) h s (flat_condition_at (left - 1) t ends j) j bar)
unfolding flat_condition_at next_at chain followed
chain_step t ends h s bar zero i = refl
chain_step t ends h s bar (suc left) i =
    rw (sub-one (suc left))
    (by_shape ends h s bar (flat_condition_at left t ends) t (flat_operand_at left t ends) i (condition_shape t ends i) (condition_placed t ends i))

module _ (t ends : List ℕ) (h : History) (s : PositionState) (bar left i : ℕ) where
  -- the chain stops at the node, or goes on from node j
  pub chain_stops : next_at left t ends h s i bar ≡ None
      → chain (by_ends ends) h s (flat_condition_at left t ends i) i bar ≡ line_at (by_ends ends) h s (flat_condition_at left t ends i) i bar ∷ []
  unfolding followed
  chain_stops e = rw e at (chain_step t ends h s bar left i)

  pub chain_goes : (j : ℕ) → next_at left t ends h s i bar ≡ Some j
      → chain (by_ends ends) h s (flat_condition_at left t ends i) i bar
      ≡ line_at (by_ends ends) h s (flat_condition_at left t ends i) i bar ∷ chain (by_ends ends) h s (flat_condition_at (left - 1) t ends j) j bar
  unfolding followed
  chain_goes j e = rw e at (chain_step t ends h s bar left i)

  -- a node that the chain goes on from has a level above it
  pub goes_down : (j : ℕ) → next_at left t ends h s i bar ≡ Some j → 0 < left
  unfolding next_at
  goes_down j e = go left e
    where
      go : (left : ℕ) → next_at left t ends h s i bar ≡ Some j → 0 < left
      go zero f = absurd (let z : ◌≡◌ {A = ℕ} 0 1 = cc in omega arith)
      go (suc left) f = omega arith
