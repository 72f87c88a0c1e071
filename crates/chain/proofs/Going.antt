-- Where the chain goes from a node. Assumes nothing.
use Rattle.std.specs.Prelude.{None, Some}
use Rattle.words.specs.Prelude.{ℕ, zero, suc, ◌-◌, ◌<◌, ◌≤◌, ◌≡◌, refl, Bool, true, false, Bool·beq, List, arith, sub-one}
use Rattle.rows.specs.{History.History}
use Rattle.rules.specs.{declared.position.PositionState.PositionState, declared.shapes.ConditionShape.ConditionShape, Meaning.holds, Shapes.end_in}
use Rattle.rules.specs.{Shapes.condition_shape, Flat.flat_condition_at}
use Rattle.chain.specs.{Flat.first_at, Flat.next_by, Flat.next_at}

-- the first of a row of conditions gives the answer, does not, or is not there
module _ (ends : List ℕ) (says : ℕ → Bool) (answer : Bool) (n j : ℕ) where
  pub first_is : (b : Bool) → 0 < n → b ≡ says j → Bool·beq b answer ≡ true → first_at ends says answer n j ≡ Some j
  unfolding first_at
  first_is b some e f = go n some
    where
      go : (n : ℕ) → 0 < n → first_at ends says answer n j ≡ Some j
      go zero l = absurd (omega arith)
      go (suc n) l = rw (← e, f)

  pub first_not : (b : Bool) → 0 < n → b ≡ says j → Bool·beq b answer ≡ false
      → first_at ends says answer n j ≡ first_at ends says answer (n - 1) (end_in ends j)
  unfolding first_at
  first_not b some e f = go n some
    where
      go : (n : ℕ) → 0 < n → first_at ends says answer n j ≡ first_at ends says answer (n - 1) (end_in ends j)
      go zero l = absurd (omega arith)
      go (suc n) l = rw (sub-one (suc n), ← e, f)

  pub first_none : n ≤ 0 → first_at ends says answer n j ≡ None
  unfolding first_at
  first_none none = go n none
    where
      go : (n : ℕ) → n ≤ 0 → first_at ends says answer n j ≡ None
      go zero l = refl
      go (suc n) l = absurd (omega arith)

module _ (t ends : List ℕ) (h : History) (s : PositionState) (i bar left : ℕ) where
  pub next_deep : left ≡ 0 → next_at left t ends h s i bar ≡ None
  unfolding next_at
  next_deep e = rw e

  pub next_by_lem : (left ≡ 0 → ⊥) → (sh u : ConditionShape) → sh ≡ condition_shape t ends i → sh ≡ u
      → next_at left t ends h s i bar ≡ next_by ends (λ j. holds h s (flat_condition_at (left - 1) t ends j) bar) u
  unfolding next_at
  next_by_lem some sh u e f = go left some
    where
      go : (left : ℕ) → (left ≡ 0 → ⊥) → next_at left t ends h s i bar ≡ next_by ends (λ j. holds h s (flat_condition_at (left - 1) t ends j) bar) u
      go zero n = absurd (n refl)
      go (suc left) n = rw (sub-one (suc left), ← e, f)
