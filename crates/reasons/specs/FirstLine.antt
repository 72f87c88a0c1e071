-- "the first gives the rule's answer (an absent tree has no lines)": joined with what `answer_rule` promises. Assumes nothing.
use Rattle.std.specs.Prelude.{ℕ, ◌*◌, ◌<◌, ◌≡◌, refl, Bool, true, false, cond, ◌&&◌, List, [], ◌∷◌, ltb, eqb, length, Err, Ok, Result}
use Rattle.words.specs.Prelude.{ap, ◌∙◌, arith, lt-leb}
use Rattle.words.specs.Prelude.{eqb-true, eqb-false}
use Rattle.words.specs.{Limits.trees}
use Rattle.rows.specs.{History.History, History.history_of, History.whole_rows}
use Rattle.table.specs.{declared.trees.Tree.Tree, Header.slots, Header.count, Header.root, Header.tree_number, Checked.checked, Reading.tree_of, Trees.Condition}
use Rattle.table.specs.{Trees.compare, Trees.cross, Trees.between, Trees.trend, Trees.every, Trees.any, Trees.negated, Trees.in_position, Trees.bars_since}
use Rattle.rules.specs.{declared.position.PositionState.PositionState}
use Rattle.rules.specs.{Meaning.newest, Meaning.says, Answers.state_right, Answers.judged, Answers.after_check, Answers.answered}
use Rattle.rules.specs.{Laws.Answers.tree_of_four, Laws.Answers.absent_says}
use Rattle.chain.specs.{Missing.in_table, Chain.ChainLine, Chain.line_at, Chain.chain, Lines.line_length, Explained.explanation, Explained.most_lines}
use Rattle.chain.specs.{Explained.explained_by, Explained.explained}
use Rattle.words.specs.{declared.refusal.Refusal.Refusal}
use Rattle.table.specs.{declared.answer.Accepted.Accepted}

-- Lines of a tree of so many nodes whose rule answers so: none of an absent tree, which says no; else the first has the answer.
pub data Leads (nodes : ℕ) (answer : Result Bool Refusal) : List ChainLine → Type 0 where
  absent : nodes ≡ 0 → answer ≡ Ok false → Leads nodes answer []
  leads : (l : ChainLine) (ls : List ChainLine) → 0 < nodes → answer ≡ Ok l.answer → Leads nodes answer (l ∷ ls)

-- a chain begins with the line of its condition
pub data BeginsWith (l : ChainLine) : List ChainLine → Type 0 where
  begins : (ls : List ChainLine) → BeginsWith l (l ∷ ls)

own_first : (h : History) (s : PositionState) (c : Condition) (i bar : ℕ) → BeginsWith (line_at in_table h s c i bar) (chain in_table h s c i bar)
unfolding chain
own_first h s (compare kind a b) i bar = begins []
own_first h s (cross kind a b) i bar = begins []
own_first h s (between x low high) i bar = begins []
own_first h s (trend kind a n) i bar = begins []
own_first h s (every cs) i bar = begins _
own_first h s (any cs) i bar = begins _
own_first h s (negated c) i bar = begins _
own_first h s (in_position wanted) i bar = begins []
own_first h s (bars_since selector k) i bar = begins []

-- where the call gives lines, the table is accepted, the rows are whole and the state is right
gives : (a : Result Accepted Refusal) (t : List ℕ) (x : ℕ) (rows : List ℕ) (s : PositionState) (list : List ℕ) (n : ℕ) → explained_by a t x rows s list ≡ Ok n
    → (j : Result Bool Refusal) → (after_check a j ≡ j) × ((whole_rows (slots t) rows && state_right s) ≡ true)
unfolding explained_by after_check
gives (Err why) t x rows s list n e j = absurd (let z : ◌≡◌ {A = ℕ} 0 1 = cc in omega arith)
gives (Ok accepted) t x rows s list n e j = (refl, go (ltb (length list) (line_length * most_lines)) (whole_rows (slots t) rows && state_right s) e)
  where
    go : (small fine : Bool)
        → cond small (Err (Refusal.Room 10)) (cond fine (Ok (length (explanation t x rows s))) (Err Refusal.Records)) ≡ Ok n → fine ≡ true
    go true fine e = absurd (let z : ◌≡◌ {A = ℕ} 0 1 = cc in omega arith)
    go false true e = refl
    go false false e = absurd (let z : ◌≡◌ {A = ℕ} 0 1 = cc in omega arith)

-- THE FIRST LINE GIVES THE RULE'S ANSWER, wherever the call gives lines.
pub first_line : (t : List ℕ) (tree : Tree) (rows : List ℕ) (s : PositionState) (list : List ℕ) (n : ℕ)
    → explained t (tree_number tree) rows s list ≡ Ok n
    → Leads (count t (tree_number tree)) (answered t tree rows s) (explanation t (tree_number tree) rows s)
unfolding explained explanation line_at says
first_line t tree rows s list n e =
    let g = gives (checked t) t (tree_number tree) rows s list n e (judged t (tree_number tree) rows s) in
    rw (lt-leb trees (tree_number tree) (tree_of_four tree))
    (go (unfold answered judged in g.0 ∙ rw g.1) (eqb (count t (tree_number tree)) 0) refl)
  where
    x : ℕ
    x = tree_number tree

    h : History
    h = history_of (slots t) rows

    begun : {ls : List ChainLine} → 0 < count t x → answered t tree rows s ≡ Ok (says h s (tree_of t x))
        → BeginsWith (line_at in_table h s (tree_of t x) (root t x) (newest h)) ls → Leads (count t x) (answered t tree rows s) ls
    begun l f (begins ls) = leads _ ls l f

    go : answered t tree rows s ≡ Ok (says h s (tree_of t x)) → (b : Bool) → eqb (count t x) 0 ≡ b
        → Leads (count t x) (answered t tree rows s) (cond b [] (chain in_table h s (tree_of t x) (root t x) (newest h)))
    go f true none =
        let zero-nodes = eqb-true (count t x) 0 none in
        absent zero-nodes (f ∙ ap Ok (absent_says t x zero-nodes h s))
    go f false some = begun (omega (arith, eqb-false (count t x) 0 some)) f (own_first h s (tree_of t x) (root t x) (newest h))
