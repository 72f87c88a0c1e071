-- What the line of a condition may show, by cases on the condition and from what the rule means: nothing here speaks of how lines are made.
-- Definitions only.
use Rattle.std.specs.Prelude.{ℕ, ◌+◌, ◌-◌, ◌≤◌, ◌<◌, ◌≡◌, true, false, not, cond, ◌&&◌, ◌⊎◌, [], ◌∷◌, eqb, Float, None, Some}
use Rattle.rows.specs.{History.History}
use Rattle.table.specs.{Trees.Operand, Trees.Condition, Trees.Conditions, Trees.compare, Trees.cross, Trees.between, Trees.trend, Trees.every, Trees.any}
use Rattle.table.specs.{Trees.negated, Trees.in_position, Trees.bars_since}
use Rattle.rules.specs.{declared.position.PositionState.PositionState}
use Rattle.rules.specs.{Values.held, Values.tested, Values.bars_tested, Meaning.value, Meaning.holds}
use Rattle.chain.specs.{Chain.Shown, Chain.link, Chain.values, Chain.missing, Chain.at_first_bar, Chain.too_few_bars, Chain.position, Chain.since_entry}
use Rattle.chain.specs.{Chain.no_entry, Chain.ChainLine}
use Rattle.reasons.specs.{Looks.looks_of, Looks.FirstMissing}
use Rattle.table.specs.Named as Named

-- "Bars since entry is this bar's number less the entry bar's", this bar's number being the bars seen less 1. An entry bar that is not below the
-- bars seen, which 13 refuses, leaves 0.
pub data BarsSince (seen entry : ℕ) : ℕ → Type 0 where
  passed : (bars : ℕ) → entry + bars + 1 ≡ seen → BarsSince seen entry bars
  not-below : seen ≤ entry → BarsSince seen entry 0

module _ (h : History) (s : PositionState) (bar : ℕ) where
  -- where a test looks at its leaves: "a cross at bar 0, or a Rising or Falling with too few bars, says that instead"
  unfoldable pub LooksAt : Condition → Type 0
  LooksAt (compare kind a b) = Unit
  LooksAt (cross kind a b) = 0 < bar
  LooksAt (between x low high) = Unit
  LooksAt (trend kind a n) = n ≤ bar
  LooksAt (every cs) = ⊥
  LooksAt (any cs) = ⊥
  LooksAt (negated c) = ⊥
  LooksAt (in_position wanted) = ⊥
  LooksAt (bars_since selector k) = ⊥

  -- "Each line is true of the rule's meaning": what the line of a condition, its node being number i, may show, and the answer beside it.
  pub data True : Condition → ℕ → Shown → Type 0 where
    -- "A comparison shows its values": both are there, and the answer is the comparison's of them
    compares : (kind : ℕ) (a b : Operand) (i : ℕ) (x y : Float) → value h a bar ≡ Some x → value h b bar ≡ Some y
        → holds h s (compare kind a b) bar ≡ tested kind x y → True (compare kind a b) i (values (Some x ∷ Some y ∷ []))
    -- so does Between: its value, low and high; "closed at both ends"
    lies : (a low high : Operand) (i : ℕ) (x l u : Float) → value h a bar ≡ Some x → value h low bar ≡ Some l → value h high bar ≡ Some u
        → holds h s (between a low high) bar ≡ (tested Named.le l x && tested Named.le x u)
        → True (between a low high) i (values (Some x ∷ Some l ∷ Some u ∷ []))
    -- so does a cross, now and before: "above is then ≤ before and > now, below is ≥ and <"
    crosses : (kind : ℕ) (a b : Operand) (i : ℕ) (x y xBefore yBefore : Float) → 0 < bar → value h a bar ≡ Some x → value h b bar ≡ Some y
        → value h a (bar - 1) ≡ Some xBefore → value h b (bar - 1) ≡ Some yBefore
        → holds h s (cross kind a b) bar ≡ cond (eqb kind Named.cross_above) (tested Named.le xBefore yBefore && tested Named.gt x y)
        (tested Named.ge xBefore yBefore && tested Named.lt x y)
        → True (cross kind a b) i (values (Some x ∷ Some y ∷ Some xBefore ∷ Some yBefore ∷ []))
    -- and Rising or Falling, now and then: "now > then, n bars back"
    moves : (kind : ℕ) (a : Operand) (n i : ℕ) (x xThen : Float) → n ≤ bar → value h a bar ≡ Some x → value h a (bar - n) ≡ Some xThen
        → holds h s (trend kind a n) bar ≡ cond (eqb kind Named.rising) (tested Named.gt x xThen) (tested Named.lt x xThen)
        → True (trend kind a n) i (values (Some x ∷ Some xThen ∷ []))
    -- "or the first missing leaf in table order (this bar's before an earlier bar's) and how many bars back it looked": the answer is no
    lacks : (c : Condition) (i node back : ℕ) → LooksAt c → FirstMissing h bar (looks_of c i) node back → holds h s c bar ≡ false
        → True c i (missing node back)
    -- "a cross at bar 0": the answer is no
    at_first : (kind : ℕ) (a b : Operand) (i : ℕ) → bar ≡ 0 → holds h s (cross kind a b) bar ≡ false → True (cross kind a b) i at_first_bar
    -- "a Rising or Falling with too few bars": the answer is no
    too_early : (kind : ℕ) (a : Operand) (n i : ℕ) → bar < n → holds h s (trend kind a n) bar ≡ false → True (trend kind a n) i too_few_bars
    -- All, Any and Not are links: what decided stands below
    all_joins : (cs : Conditions) (i : ℕ) → True (every cs) i link
    any_joins : (cs : Conditions) (i : ℕ) → True (any cs) i link
    not_turns : (c : Condition) (i : ℕ) → True (negated c) i link
    -- InPosition: the answer says whether there is a position, or whether there is none
    in_position_lem : (i : ℕ) → holds h s (in_position true) bar ≡ held s.qty → True (in_position true) i position
    out_of_it : (i : ℕ) → holds h s (in_position false) bar ≡ not (held s.qty) → True (in_position false) i position
    -- BarsSinceEntry, in a position with an entry bar: the bars since, and the answer is the comparison's of them
    since : (selector k i entry bars : ℕ) → held s.qty ≡ true → s.entered ≡ Some entry → BarsSince s.bars_seen entry bars
        → holds h s (bars_since selector k) bar ≡ bars_tested selector k bars → True (bars_since selector k) i (since_entry bars)
    -- "no when flat or where the state holds no entry bar"
    no_entry_lem : (selector k i : ℕ) → held s.qty ≡ false ⊎ s.entered ≡ None → holds h s (bars_since selector k) bar ≡ false
        → True (bars_since selector k) i no_entry

  -- A line of the condition at node i: the node, what the condition says, and something true of it.
  pub record LineOf (c : Condition) (i : ℕ) (l : ChainLine) : Type 0 where
    pub own_node : l.node ≡ i
    pub own_answer : l.answer ≡ holds h s c bar
    pub true_of_it : True c i l.shows
