-- The window: over the last rows that a table needs the chain is the chain over all rows, so a box can answer from its window.
-- Assumes nothing.
use Rattle.std.specs.Prelude.{ℕ, zero, suc, ◌+◌, ◌-◌, ◌≤◌, ◌<◌, ◌≡◌, refl, Bool, true, false, cond, List, [], ltb, leb, eqb}
use Rattle.words.specs.Prelude.{arith, le-ltb, leb-false, ne_eqb}
use Rattle.words.specs.{Limits.trees}
use Rattle.rows.specs.{History.History, History.history_of, History.last_rows}
use Rattle.table.specs.{Header.slots, Header.count, Header.root, Checked.checked, Reading.tree_of, Trees.Operand}
use Rattle.table.specs.{Trees.const, Trees.ref, Trees.price, Trees.prev, Trees.arith as sums, Trees.extreme, Trees.Condition, Trees.Conditions, Trees.compare}
use Rattle.table.specs.{Trees.cross, Trees.between, Trees.trend, Trees.every, Trees.any, Trees.negated, Trees.in_position, Trees.bars_since, Trees.none}
use Rattle.table.specs.{Trees.more, Trees.reach, Trees.reach_of, Trees.reach_of_all, Writing.nodes_in, Writing.nodes_of, Series.as_operand}
use Rattle.roundtrip.specs.{Laws.Reach.rows_are, Laws.Series.leaf_reach}
use Rattle.rules.specs.{declared.position.PositionState.PositionState, Meaning.newest, Window.Without, Window.operand_same, Window.condition_same}
use Rattle.rules.specs.{Window.told_of_last, WindowAnswers.window_whole}
use Rattle.chain.specs.{Missing.in_table, Missing.leaf_gone, Missing.newest_gone, Missing.missing_in, Missing.missing_in_two, Missing.missing_in_three}
use Rattle.chain.specs.{Chain.shown, Chain.line_at, Chain.chain, Chain.first_with, Explained.explanation, Explained.explained_by, Explained.explained}
use Rattle.table.specs.{Outcome.accepts}

module _ (h w : History) (s : ℕ) (part : Without h w s) where
  -- an operand at a bar that it does not look back beyond
  leaf_same : (a : Operand) (i bar back : ℕ) → back + reach a ≤ bar → leaf_gone h a i (s + bar) back ≡ leaf_gone w a i bar back
  unfolding leaf_gone
  leaf_same a i bar back r =
      let far : ltb (s + bar) back ≡ false = le-ltb (s + bar) back (omega arith) in
      let near : ltb bar back ≡ false = le-ltb bar back (omega arith) in
      let at : s + bar - back ≡ s + (bar - back) = omega arith in
      rw (far, near, at, operand_same h w s part a (bar - back) (omega arith))

  newest_same : (a : Operand) (i bar back m : ℕ) → back + m + reach a ≤ bar → newest_gone h a i (s + bar) back m ≡ newest_gone w a i bar back m
  unfolding newest_gone
  newest_same a i bar back zero r = leaf_same a i bar back (omega arith)
  newest_same a i bar back (suc m) r = rw (leaf_same a i bar back (omega arith), newest_same a i bar (back + 1) m (omega arith))

  missing_same : (a : Operand) (i bar back : ℕ) → back + reach a ≤ bar → missing_in in_table h a i (s + bar) back ≡ missing_in in_table w a i bar back
  unfolding missing_in reach
  missing_same (const bits) i bar back r = leaf_same (const bits) i bar back r
  missing_same (ref slot) i bar back r = leaf_same (ref slot) i bar back r
  missing_same (price selector) i bar back r = leaf_same (price selector) i bar back r
  missing_same (prev a n) i bar back r = missing_same a (i + 1) bar (back + n) (omega arith)
  missing_same (sums kind a b) i bar back r =
      rw (missing_same a (i + 1) bar back (omega arith), missing_same b (i + 1 + nodes_in a) bar back (omega arith))
  missing_same (extreme kind x n) i bar back r = newest_same (as_operand x) (i + 1) bar back (n - 1) (omega (arith, leaf_reach x))

  two_same : (a b : Operand) (i bar back : ℕ) → back + reach a ≤ bar → back + reach b ≤ bar
      → missing_in_two in_table h a b i (s + bar) back ≡ missing_in_two in_table w a b i bar back
  unfolding missing_in_two
  two_same a b i bar back p q = rw (missing_same a i bar back p, missing_same b (i + nodes_in a) bar back q)

  -- what a line shows
  shown_same : (p : PositionState) (c : Condition) (i bar : ℕ) → reach_of c ≤ bar → shown in_table h p c i (s + bar) ≡ shown in_table w p c i bar
  unfolding shown reach_of missing_in_three
  shown_same p (compare kind a b) i bar r =
      rw (
        two_same a b (i + 1) bar 0 (omega arith) (omega arith),
        operand_same h w s part a bar (omega arith),
        operand_same h w s part b bar (omega arith),
      )
  shown_same p (cross kind a b) i bar r =
      let late : eqb (s + bar) 0 ≡ false = ne_eqb (s + bar) 0 (omega arith) in
      let late' : eqb bar 0 ≡ false = ne_eqb bar 0 (omega arith) in
      let back : s + bar - 1 ≡ s + (bar - 1) = omega arith in
      rw (
        late,
        late',
        back,
        two_same a b (i + 1) bar 0 (omega arith) (omega arith),
        two_same a b (i + 1) bar 1 (omega arith) (omega arith),
        operand_same h w s part a bar (omega arith),
        operand_same h w s part b bar (omega arith),
        operand_same h w s part a (bar - 1) (omega arith),
        operand_same h w s part b (bar - 1) (omega arith),
      )
  shown_same p (between x low high) i bar r =
      rw (
        two_same x low (i + 1) bar 0 (omega arith) (omega arith),
        missing_same high (i + 1 + nodes_in x + nodes_in low) bar 0 (omega arith),
        operand_same h w s part x bar (omega arith),
        operand_same h w s part low bar (omega arith),
        operand_same h w s part high bar (omega arith),
      )
  shown_same p (trend kind a n) i bar r =
      let late : ltb (s + bar) n ≡ false = le-ltb (s + bar) n (omega arith) in
      let late' : ltb bar n ≡ false = le-ltb bar n (omega arith) in
      let back : s + bar - n ≡ s + (bar - n) = omega arith in
      rw (
        late,
        late',
        back,
        missing_same a (i + 1) bar 0 (omega arith),
        missing_same a (i + 1) bar n (omega arith),
        operand_same h w s part a bar (omega arith),
        operand_same h w s part a (bar - n) (omega arith),
      )
  shown_same p (every cs) i bar r = refl
  shown_same p (any cs) i bar r = refl
  shown_same p (negated c) i bar r = refl
  shown_same p (in_position wanted) i bar r = refl
  shown_same p (bars_since selector k) i bar r = refl

  line_same : (p : PositionState) (c : Condition) (i bar : ℕ) → reach_of c ≤ bar → line_at in_table h p c i (s + bar) ≡ line_at in_table w p c i bar
  unfolding line_at
  line_same p c i bar r = rw (condition_same h w s part p c bar r, shown_same p c i bar r)

  mutual
    unfolding chain reach_of

    chain_same : (p : PositionState) (c : Condition) (i bar : ℕ) → reach_of c ≤ bar → chain in_table h p c i (s + bar) ≡ chain in_table w p c i bar
    chain_same p (compare kind a b) i bar r = rw (line_same p (compare kind a b) i bar r)
    chain_same p (cross kind a b) i bar r = rw (line_same p (cross kind a b) i bar r)
    chain_same p (between x low high) i bar r = rw (line_same p (between x low high) i bar r)
    chain_same p (trend kind a n) i bar r = rw (line_same p (trend kind a n) i bar r)
    chain_same p (every cs) i bar r = rw (line_same p (every cs) i bar r, first_same p false cs (i + 1) bar r)
    chain_same p (any cs) i bar r = rw (line_same p (any cs) i bar r, first_same p true cs (i + 1) bar r)
    chain_same p (negated c) i bar r = rw (line_same p (negated c) i bar r, chain_same p c (i + 1) bar r)
    chain_same p (in_position wanted) i bar r = rw (line_same p (in_position wanted) i bar r)
    chain_same p (bars_since selector k) i bar r = rw (line_same p (bars_since selector k) i bar r)

    first_same : (p : PositionState) (answer : Bool) (cs : Conditions) (j bar : ℕ) → reach_of_all cs ≤ bar
        → first_with in_table h p answer cs j (s + bar) ≡ first_with in_table w p answer cs j bar
    first_same p answer none j bar r = refl
    first_same p answer (more c cs) j bar r =
        rw (
          condition_same h w s part p c bar (omega arith),
          chain_same p c j bar (omega arith),
          first_same p answer cs (j + nodes_of c) bar (omega arith),
        )

-- THE WINDOW: a condition that reaches back less than D rows has over the last D rows the lines that it has over all.
pub chain_window : (K D : ℕ) (ws : List ℕ) (p : PositionState) (c : Condition) (i : ℕ) → reach_of c < D
    → chain in_table (history_of K (last_rows K D ws)) p c i (newest (history_of K (last_rows K D ws)))
    ≡ chain in_table (history_of K ws) p c i (newest (history_of K ws))
chain_window K D ws p c i r =
    told_of_last (λ (h : History). chain in_table h p c i) K D ws (reach_of c) r (λ (h w : History) (s : ℕ) part bar. chain_same h w s part p c i bar)

-- a tree by its number reaches back less than the rows that the table needs
tree_near : (t : List ℕ) (n r : ℕ) → checked t ≡ accepts n r → (x : ℕ) → x < 4 → reach_of (tree_of t x) < r
tree_near t n r ok zero l = omega (arith, rows_are t n r ok)
tree_near t n r ok (suc zero) l = omega (arith, rows_are t n r ok)
tree_near t n r ok (suc (suc zero)) l = omega (arith, rows_are t n r ok)
tree_near t n r ok (suc (suc (suc zero))) l = omega (arith, rows_are t n r ok)
tree_near t n r ok (suc (suc (suc (suc x)))) l = absurd (omega arith)

-- THE WINDOW OF A TABLE: where D is at least the rows that the check says, a tree has over the last D rows the lines that it has over
-- all of them.
pub explanation_window : (t : List ℕ) (n r : ℕ) → checked t ≡ accepts n r → (D : ℕ) → r ≤ D → (x : ℕ) (rows : List ℕ) (s : PositionState)
    → explanation t x (last_rows (slots t) D rows) s ≡ explanation t x rows s
unfolding explanation
explanation_window t n r ok D enough x rows s = high (leb trees x) refl
  where
    same : x < 4
        → chain in_table (history_of (slots t) (last_rows (slots t) D rows)) s (tree_of t x) (root t x)
        (newest (history_of (slots t) (last_rows (slots t) D rows)))
        ≡ chain in_table (history_of (slots t) rows) s (tree_of t x) (root t x) (newest (history_of (slots t) rows))
    same l = chain_window (slots t) D rows s (tree_of t x) (root t x) (omega (arith, tree_near t n r ok x l))

    high : (b : Bool) → leb trees x ≡ b
        → cond b [] (cond (eqb (count t x) 0) [] (chain in_table (history_of (slots t) (last_rows (slots t) D rows)) s (tree_of t x) (root t x)
        (newest (history_of (slots t) (last_rows (slots t) D rows)))))
        ≡ cond b [] (cond (eqb (count t x) 0) [] (chain in_table (history_of (slots t) rows) s (tree_of t x) (root t x) (newest (history_of (slots t) rows))))
    high true e = refl
    high false e = rw (same (leb-false trees x e))

-- and the call answers the same
pub explained_window : (t : List ℕ) (n r : ℕ) → checked t ≡ accepts n r → (D : ℕ) → r ≤ D → (x : ℕ) (rows : List ℕ) (s : PositionState) (list : List ℕ)
    → explained t x (last_rows (slots t) D rows) s list ≡ explained t x rows s list
unfolding explained explained_by
explained_window t n r ok D enough x rows s list = rw (ok, window_whole (slots t) D rows, explanation_window t n r ok D enough x rows s)
