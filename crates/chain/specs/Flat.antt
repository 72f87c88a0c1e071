-- The chain as the code finds it on the flat table, whatever its bytes are. Definitions only.
use Rattle.std.specs.Prelude.{ℕ, zero, suc, leb, eqb, Bool, not, cond, List, [], None, Option, Some}
use Rattle.words.specs.Prelude.{Bool·beq}
use Rattle.words.specs.{Limits.trees, Limits.most_nesting}
use Rattle.rows.specs.{History.History, History.history_of}
use Rattle.table.specs.{Header.slots, Header.count, Header.root}
use Rattle.rules.specs.{declared.position.PositionState.PositionState, declared.shapes.ConditionShape.ConditionShape}
use Rattle.rules.specs.{declared.shapes.ConditionShape.TheVariants.Compare, declared.shapes.ConditionShape.TheVariants.Cross}
use Rattle.rules.specs.{declared.shapes.ConditionShape.TheVariants.Between, declared.shapes.ConditionShape.TheVariants.Trend}
use Rattle.rules.specs.{declared.shapes.ConditionShape.TheVariants.Group, declared.shapes.ConditionShape.TheVariants.Not}
use Rattle.rules.specs.{declared.shapes.ConditionShape.TheVariants.InPosition, declared.shapes.ConditionShape.TheVariants.BarsSince}
use Rattle.rules.specs.{declared.shapes.ConditionShape.TheVariants.NoCondition, Meaning.newest, Meaning.holds, Shapes.end_in, Shapes.condition_shape}
use Rattle.rules.specs.{Flat.flat_condition_at}
use Rattle.chain.specs.{Missing.Numbering}
use Rattle.chain.specs.{Chain.ChainLine, Chain.chain}

-- nodes numbered by the checker's array of subtree ends
unfoldable pub by_ends : List ℕ → Numbering
by_ends ends j n = end_in ends j

-- the first of n conditions, the first at node j, that gives the answer
unfoldable pub first_at : List ℕ → (ℕ → Bool) → Bool → ℕ → ℕ → Option ℕ
first_at ends says answer zero j = None
first_at ends says answer (suc n) j = cond (Bool·beq (says j) answer) (Some j) (first_at ends says answer n (end_in ends j))

-- where the chain goes from a node of a shape
unfoldable pub next_by : List ℕ → (ℕ → Bool) → ConditionShape → Option ℕ
next_by ends says (Compare kind a b) = None
next_by ends says (Cross kind a b) = None
next_by ends says (Between x low high) = None
next_by ends says (Trend kind a n) = None
next_by ends says (Group all n j) = first_at ends says (not all) n j
next_by ends says (Not a) = Some a
next_by ends says (InPosition wanted) = None
next_by ends says (BarsSince selector k) = None
next_by ends says NoCondition = None

-- where it goes from node i, with `left` levels of nesting left, the node's own counted
unfoldable pub next_at : ℕ → List ℕ → List ℕ → History → PositionState → ℕ → ℕ → Option ℕ
next_at zero t ends h s i bar = None
next_at (suc left) t ends h s i bar = next_by ends (λ j. holds h s (flat_condition_at left t ends j) bar) (condition_shape t ends i)

-- the lines from there on
unfoldable pub followed : Option ℕ → (ℕ → List ChainLine) → List ChainLine
followed None from = []
followed (Some j) from = from j

-- the lines of tree x
unfoldable pub flat_explanation : List ℕ → List ℕ → ℕ → List ℕ → PositionState → List ChainLine
flat_explanation t ends x rows s =
    let h = history_of (slots t) rows in
    cond (leb trees x) []
    (cond (eqb (count t x) 0) [] (chain (by_ends ends) h s (flat_condition_at most_nesting t ends (root t x)) (root t x) (newest h)))
