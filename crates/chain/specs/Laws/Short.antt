-- How many lines there can be. Assumes nothing.
use Rattle.std.specs.Prelude.{ℕ, ◌+◌, ◌≤◌, ◌<◌, max, ◌≡◌, refl, Bool, true, false, cond, List, [], leb, eqb, length}
use Rattle.words.specs.Prelude.{Bool·beq, arith, leb-false, eqb-false}
use Rattle.words.specs.{Limits.trees}
use Rattle.rows.specs.{History.History, History.history_of}
use Rattle.table.specs.{Bytes.Bytes, Header.slots, Header.count, Header.root, Checked.checked, Reading.tree_of}
use Rattle.table.specs.{Trees.Condition, Trees.Conditions, Trees.compare, Trees.cross, Trees.between, Trees.trend, Trees.every, Trees.any, Trees.negated}
use Rattle.table.specs.{Trees.in_position, Trees.bars_since, Trees.none, Trees.more, Writing.nodes_of, Limits.levels_of, Limits.levels_of_all}
use Rattle.roundtrip.specs.{Laws.AcceptedWithin.tree_within}
use Rattle.rules.specs.{declared.position.PositionState.PositionState, Meaning.newest, Meaning.holds}
use Rattle.chain.specs.{Missing.Numbering, Missing.in_table, Chain.ChainLine, Chain.chain, Chain.first_with, Explained.explanation}
use Rattle.table.specs.{Outcome.accepts}

picked : (b : Bool) (xs ys : List ChainLine) (m n : ℕ) → length xs ≤ m → length ys ≤ n → length (cond b xs ys) ≤ max m n
picked true xs ys m n p q = omega arith
picked false xs ys m n p q = omega arith

module _ (after : Numbering) (h : History) (s : PositionState) (bar : ℕ) where
  mutual
    unfolding chain levels_of

    -- a chain has at most a line a level
    pub chain_short : (c : Condition) (i : ℕ) → length (chain after h s c i bar) ≤ levels_of c
    chain_short (compare kind a b) i = omega arith
    chain_short (cross kind a b) i = omega arith
    chain_short (between x low high) i = omega arith
    chain_short (trend kind a n) i = omega arith
    chain_short (every cs) i = omega (arith, first_short false cs (i + 1))
    chain_short (any cs) i = omega (arith, first_short true cs (i + 1))
    chain_short (negated c) i = omega (arith, chain_short c (i + 1))
    chain_short (in_position wanted) i = omega arith
    chain_short (bars_since selector k) i = omega arith

    first_short : (answer : Bool) (cs : Conditions) (j : ℕ) → length (first_with after h s answer cs j bar) ≤ levels_of_all cs
    first_short answer none j = omega arith
    first_short answer (more c cs) j =
        picked (Bool·beq (holds h s c bar) answer) (chain after h s c j bar) (first_with after h s answer cs (after j (nodes_of c)) bar)
        (levels_of c) (levels_of_all cs) (chain_short c j) (first_short answer cs (after j (nodes_of c)))

-- AT MOST 32 LINES: "10 if the lent list holds fewer than 32 lines" asks for enough.
pub few_lines : (t : List ℕ) → Bytes t → (n r : ℕ) → checked t ≡ accepts n r → (x : ℕ) (rows : List ℕ) (s : PositionState)
    → length (explanation t x rows s) ≤ 32
unfolding explanation
few_lines t small n r ok x rows s = high (leb trees x) refl
  where
    h : History
    h = history_of (slots t) rows

    low : (b : Bool) → eqb (count t x) 0 ≡ b → x < 4 → length (cond b [] (chain in_table h s (tree_of t x) (root t x) (newest h))) ≤ 32
    low true e l = omega arith
    low false e l =
        let w = tree_within t small n r ok x l (omega (arith, eqb-false (count t x) 0 e)) in
        omega (arith, w.nesting, chain_short in_table h s (newest h) (tree_of t x) (root t x))

    high : (b : Bool) → leb trees x ≡ b
        → length (cond b [] (cond (eqb (count t x) 0) [] (chain in_table h s (tree_of t x) (root t x) (newest h)))) ≤ 32
    high true e = omega arith
    high false e = low (eqb (count t x) 0) refl (leb-false trees x e)
