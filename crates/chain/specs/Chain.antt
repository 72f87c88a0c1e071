-- "the chain of nodes from the root to what decided". Definitions only.
use Rattle.std.specs.Prelude.{ℕ, ◌+◌, ◌-◌, Bool, true, false, cond, List, [], ◌∷◌, ltb, eqb, Float, None, Option, Some}
use Rattle.words.specs.Prelude.{Bool·beq}
use Rattle.rows.specs.{History.History}
use Rattle.table.specs.{Trees.Condition, Trees.Conditions, Trees.compare, Trees.cross, Trees.between, Trees.trend, Trees.every, Trees.any, Trees.negated}
use Rattle.table.specs.{Trees.in_position, Trees.bars_since, Trees.none, Trees.more, Writing.nodes_of}
use Rattle.rules.specs.{declared.position.PositionState.PositionState, Values.held, Meaning.value, Meaning.holds}
use Rattle.chain.specs.{Missing.Numbering, Missing.first_found, Missing.missing_in, Missing.missing_in_two, Missing.missing_in_three}

-- What a line shows.
pub data Shown : Type 0 where
  -- All, Any, Not: a link of the chain
  link : Shown
  -- the values compared
  values : List (Option Float) → Shown
  -- the first missing leaf: its node, and how many bars back it looked
  missing : ℕ → ℕ → Shown
  -- a cross at bar 0
  at_first_bar : Shown
  -- Rising or Falling with too few bars
  too_few_bars : Shown
  -- InPosition
  position : Shown
  -- BarsSinceEntry: that number of bars
  since_entry : ℕ → Shown
  -- BarsSinceEntry, flat or with no entry bar
  no_entry : Shown

-- "A comparison shows its values, or the first missing leaf".
unfoldable pub shown_by : Option (ℕ × ℕ) → List (Option Float) → Shown
shown_by (Some (node, back)) vs = missing node back
shown_by None vs = values vs

-- "Bars since entry is this bar's number less the entry bar's"; "no when flat or where the state holds no entry bar".
abbrev pub shown_from : ℕ → Option ℕ → Shown
shown_from seen None = no_entry
shown_from seen (Some bar) = since_entry (seen - 1 - bar)

unfoldable pub shown_since : PositionState → Shown
shown_since s = cond (held s.qty) (shown_from s.bars_seen s.entered) no_entry

-- "A comparison shows its values, or the first missing leaf in table order (this bar's before an earlier bar's) and how many
-- bars back it looked; a cross at bar 0, or a Rising or Falling with too few bars, says that instead." Node i is the condition's.
unfoldable pub shown : Numbering → History → PositionState → Condition → ℕ → ℕ → Shown
shown after h s (compare kind a b) i bar = shown_by (missing_in_two after h a b (i + 1) bar 0) (value h a bar ∷ value h b bar ∷ [])
shown after h s (cross kind a b) i bar =
    cond (eqb bar 0) at_first_bar
    (shown_by (first_found (missing_in_two after h a b (i + 1) bar 0) (missing_in_two after h a b (i + 1) bar 1))
    (value h a bar ∷ value h b bar ∷ value h a (bar - 1) ∷ value h b (bar - 1) ∷ []))
shown after h s (between x low high) i bar =
    shown_by (missing_in_three after h x low high (i + 1) bar 0) (value h x bar ∷ value h low bar ∷ value h high bar ∷ [])
shown after h s (trend kind a n) i bar =
    cond (ltb bar n) too_few_bars
    (shown_by (first_found (missing_in after h a (i + 1) bar 0) (missing_in after h a (i + 1) bar n)) (value h a bar ∷ value h a (bar - n) ∷ []))
shown after h s (every cs) i bar = link
shown after h s (any cs) i bar = link
shown after h s (negated c) i bar = link
shown after h s (in_position wanted) i bar = position
shown after h s (bars_since selector k) i bar = shown_since s

-- A line: a node, what its condition says, and what decided or how it goes on.
pub record ChainLine : Type 0 where
  pub node : ℕ
  pub answer : Bool
  pub shows : Shown

unfoldable pub line_at : Numbering → History → PositionState → Condition → ℕ → ℕ → ChainLine
line_at after h s c i bar = record { node = i; answer = holds h s c bar; shows = shown after h s c i bar }

-- "For an All that is no, or an Any that is yes, go to the first child with that answer. For an All that is yes or an Any that is
-- no, stop there. Not goes to its child."
unfoldable mutual
  pub chain : Numbering → History → PositionState → Condition → ℕ → ℕ → List ChainLine
  chain after h s (compare kind a b) i bar = line_at after h s (compare kind a b) i bar ∷ []
  chain after h s (cross kind a b) i bar = line_at after h s (cross kind a b) i bar ∷ []
  chain after h s (between x low high) i bar = line_at after h s (between x low high) i bar ∷ []
  chain after h s (trend kind a n) i bar = line_at after h s (trend kind a n) i bar ∷ []
  chain after h s (every cs) i bar = line_at after h s (every cs) i bar ∷ first_with after h s false cs (i + 1) bar
  chain after h s (any cs) i bar = line_at after h s (any cs) i bar ∷ first_with after h s true cs (i + 1) bar
  chain after h s (negated c) i bar = line_at after h s (negated c) i bar ∷ chain after h s c (i + 1) bar
  chain after h s (in_position wanted) i bar = line_at after h s (in_position wanted) i bar ∷ []
  chain after h s (bars_since selector k) i bar = line_at after h s (bars_since selector k) i bar ∷ []

  -- the chain of the first of these conditions, the first at node j, that gives the answer; none where none gives it
  pub first_with : Numbering → History → PositionState → Bool → Conditions → ℕ → ℕ → List ChainLine
  first_with after h s answer none j bar = []
  first_with after h s answer (more c cs) j bar =
      cond (Bool·beq (holds h s c bar) answer) (chain after h s c j bar) (first_with after h s answer cs (after j (nodes_of c)) bar)
