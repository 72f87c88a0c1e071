-- The chain with nodes numbered by the array of ends is the chain with the table's own numbers. Assumes nothing.
use Rattle.std.specs.Prelude.{ℕ, ◌+◌, ◌<◌, ◌≡◌, refl, Bool, true, false, cond, List, [], leb, eqb}
use Rattle.words.specs.Prelude.{arith, leb-false, eqb-false}
use Rattle.words.specs.{Limits.trees}
use Rattle.rows.specs.{History.History, History.history_of}
use Rattle.table.specs.{Header.slots, Header.count, Header.root, Checked.checked, Ends.ends_beside, Reading.tree_of}
use Rattle.table.specs.{Trees.Operand, Trees.const, Trees.ref, Trees.price, Trees.prev, Trees.arith as sums, Trees.extreme, Trees.Condition, Trees.Conditions}
use Rattle.table.specs.{Trees.compare, Trees.cross, Trees.between, Trees.trend, Trees.every, Trees.any, Trees.negated, Trees.in_position, Trees.bars_since}
use Rattle.table.specs.{Trees.none, Trees.more, Writing.nodes_in, Writing.nodes_of}
use Rattle.rules.specs.{declared.position.PositionState.PositionState, Meaning.newest, Flat.flat_condition_at, Laws.FlatReading.tree_joined}
use Rattle.chain.specs.{Missing.in_table, Missing.missing_in, Missing.missing_in_two, Missing.missing_in_three, Chain.shown, Chain.line_at, Chain.chain}
use Rattle.chain.specs.{Chain.first_with, Explained.explanation, Flat.by_ends, Flat.flat_explanation, Laws.Spaced.SpacedIn, Laws.Spaced.Spaced}
use Rattle.chain.specs.{Laws.Spaced.SpacedAll, Laws.Spaced.operand_end, Laws.Spaced.condition_end, Laws.Spaced.tree_spaced}
use Rattle.table.specs.{Outcome.accepts}

module _ (ends : List ℕ) (h : History) where
  missing_same : (a : Operand) (i bar back : ℕ) → SpacedIn ends a i → missing_in (by_ends ends) h a i bar back ≡ missing_in in_table h a i bar back
  unfolding missing_in SpacedIn by_ends
  missing_same (const bits) i bar back p = refl
  missing_same (ref slot) i bar back p = refl
  missing_same (price selector) i bar back p = refl
  missing_same (prev a n) i bar back p = missing_same a (i + 1) bar (back + n) p.1
  missing_same (sums kind a b) i bar back p =
      rw (operand_end ends a (i + 1) p.1, missing_same a (i + 1) bar back p.1, missing_same b _ bar back p.2)
  missing_same (extreme kind s n) i bar back p = refl

  two_same : (a b : Operand) (i bar back : ℕ) → SpacedIn ends a i → SpacedIn ends b (in_table i (nodes_in a))
      → missing_in_two (by_ends ends) h a b i bar back ≡ missing_in_two in_table h a b i bar back
  unfolding missing_in_two by_ends
  two_same a b i bar back p q = rw (operand_end ends a i p, missing_same a i bar back p, missing_same b _ bar back q)

  three_same : (a b c : Operand) (i bar back : ℕ) → SpacedIn ends a i → SpacedIn ends b (in_table i (nodes_in a))
      → SpacedIn ends c (in_table (in_table i (nodes_in a)) (nodes_in b))
      → missing_in_three (by_ends ends) h a b c i bar back ≡ missing_in_three in_table h a b c i bar back
  unfolding missing_in_three by_ends
  three_same a b c i bar back p q r =
      rw (operand_end ends a i p, operand_end ends b _ q, two_same a b i bar back p q, missing_same c _ bar back r)

  module _ (s : PositionState) where
    shown_same : (c : Condition) (i bar : ℕ) → Spaced ends c i → shown (by_ends ends) h s c i bar ≡ shown in_table h s c i bar
    unfolding shown Spaced
    shown_same (compare kind a b) i bar p = rw (two_same a b (i + 1) bar 0 p.1 p.2)
    shown_same (cross kind a b) i bar p = rw (two_same a b (i + 1) bar 0 p.1 p.2, two_same a b (i + 1) bar 1 p.1 p.2)
    shown_same (between x low high) i bar p = rw (three_same x low high (i + 1) bar 0 p.1 p.2 p.3)
    shown_same (trend kind a n) i bar p = rw (missing_same a (i + 1) bar 0 p.1, missing_same a (i + 1) bar n p.1)
    shown_same (every cs) i bar p = refl
    shown_same (any cs) i bar p = refl
    shown_same (negated c) i bar p = refl
    shown_same (in_position wanted) i bar p = refl
    shown_same (bars_since selector k) i bar p = refl

    line_same : (c : Condition) (i bar : ℕ) → Spaced ends c i → line_at (by_ends ends) h s c i bar ≡ line_at in_table h s c i bar
    unfolding line_at
    line_same c i bar p = rw (shown_same c i bar p)

    mutual
      unfolding chain Spaced by_ends

      pub chain_same : (c : Condition) (i bar : ℕ) → Spaced ends c i → chain (by_ends ends) h s c i bar ≡ chain in_table h s c i bar
      chain_same (compare kind a b) i bar p = rw (line_same (compare kind a b) i bar p)
      chain_same (cross kind a b) i bar p = rw (line_same (cross kind a b) i bar p)
      chain_same (between x low high) i bar p = rw (line_same (between x low high) i bar p)
      chain_same (trend kind a n) i bar p = rw (line_same (trend kind a n) i bar p)
      chain_same (every cs) i bar p = rw (line_same (every cs) i bar p, first_same false cs (i + 1) bar p.1)
      chain_same (any cs) i bar p = rw (line_same (any cs) i bar p, first_same true cs (i + 1) bar p.1)
      chain_same (negated c) i bar p = rw (line_same (negated c) i bar p, chain_same c (i + 1) bar p.1)
      chain_same (in_position wanted) i bar p = rw (line_same (in_position wanted) i bar p)
      chain_same (bars_since selector k) i bar p = rw (line_same (bars_since selector k) i bar p)

      first_same : (answer : Bool) (cs : Conditions) (j bar : ℕ) → SpacedAll ends cs j
          → first_with (by_ends ends) h s answer cs j bar ≡ first_with in_table h s answer cs j bar
      first_same answer none j bar p = refl
      first_same answer (more c cs) j bar p =
          rw (condition_end ends c j p.0, chain_same c j bar p.0, first_same answer cs (in_table j (nodes_of c)) bar p.1)

-- WHAT THE CODE FINDS on an accepted table with the array beside its answer is the tree's chain with the table's own numbers.
pub explanation_found : (t : List ℕ) (n r : ℕ) → checked t ≡ accepts n r → (x : ℕ) (rows : List ℕ) (s : PositionState)
    → flat_explanation t (ends_beside t) x rows s ≡ explanation t x rows s
unfolding flat_explanation explanation
explanation_found t n r ok x rows s = high (leb trees x) refl
  where
    h : History
    h = history_of (slots t) rows

    low : (b : Bool) → eqb (count t x) 0 ≡ b → x < 4
        → cond b [] (chain (by_ends (ends_beside t)) h s (flat_condition_at 32 t (ends_beside t) (root t x)) (root t x) (newest h))
        ≡ cond b [] (chain in_table h s (tree_of t x) (root t x) (newest h))
    low true e l = refl
    low false e l =
        let some : 0 < count t x = omega (arith, eqb-false (count t x) 0 e) in
        rw (tree_joined t n r ok x l some) (chain_same (ends_beside t) h s (tree_of t x) (root t x) (newest h) (tree_spaced t n r ok x l some))

    high : (b : Bool) → leb trees x ≡ b
        → cond b [] (cond (eqb (count t x) 0) []
        (chain (by_ends (ends_beside t)) h s (flat_condition_at 32 t (ends_beside t) (root t x)) (root t x) (newest h)))
        ≡ cond b [] (cond (eqb (count t x) 0) [] (chain in_table h s (tree_of t x) (root t x) (newest h)))
    high true e = refl
    high false e = low (eqb (count t x) 0) refl (leb-false trees x e)
