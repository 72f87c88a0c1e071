-- All and Any of a row of conditions, taken from the front. Assumes nothing.
use Rattle.words.specs.Prelude.{ℕ, zero, suc, ◌-◌, ◌<◌, ◌≤◌, ◌≡◌, refl, Bool, true, false, not, Bool·beq, List, arith, sub-one}
use Rattle.rows.specs.{History.History}
use Rattle.table.specs.{Trees.Condition, Trees.Conditions, Trees.none, Trees.more}
use Rattle.rules.specs.{declared.position.PositionState.PositionState, Meaning.holds, Shapes.end_in, Flat.grow_conditions, Flat.group}

module _ (h : History) (s : PositionState) (i : ℕ) where
  pub group-none : (all : Bool) → holds h s (group all none) i ≡ all
  unfolding holds group
  group-none true = refl
  group-none false = refl

  -- a condition that is as `all` leaves the rest to decide; any other decides
  pub group_on : (all b : Bool) (c : Condition) (cs : Conditions) → b ≡ holds h s c i → not (Bool·beq b all) ≡ false
      → holds h s (group all (more c cs)) i ≡ holds h s (group all cs) i
  unfolding holds group
  group_on true true c cs e t = rw (← e)
  group_on true false c cs e t = cc
  group_on false true c cs e t = cc
  group_on false false c cs e t = rw (← e)

  pub group_off : (all b : Bool) (c : Condition) (cs : Conditions) → b ≡ holds h s c i → not (Bool·beq b all) ≡ true
      → holds h s (group all (more c cs)) i ≡ not all
  unfolding holds group
  group_off true true c cs e t = cc
  group_off true false c cs e t = rw (← e)
  group_off false true c cs e t = rw (← e)
  group_off false false c cs e t = cc

module _ (below : ℕ → Condition) (ends : List ℕ) where
  pub group_front : (n at : ℕ) → 0 < n → grow_conditions below ends n at ≡ more (below at) (grow_conditions below ends (n - 1) (end_in ends at))
  unfolding grow_conditions
  group_front zero at l = absurd (omega arith)
  group_front (suc n) at l = rw (sub-one (suc n))

  pub group_end : (n at : ℕ) → n ≤ 0 → grow_conditions below ends n at ≡ none
  unfolding grow_conditions
  group_end zero at e = refl
  group_end (suc n) at e = absurd (omega arith)
