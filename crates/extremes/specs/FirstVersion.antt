-- "Version 1 tables mean what they meant": in an accepted table of version 1 no tree holds a Highest or a Lowest. So the meaning of its rules, their
-- reach and their steps are those of the kinds that version 1 has.
use Rattle.std.specs.Prelude.{ℕ, ◌<◌, ◌≡◌, true, List}
use Rattle.words.specs.Prelude.{sym, true≢false, ⊎_elim, eq-zero-or-pos}
use Rattle.table.specs.{declared.header.Form.Form, Bytes.Bytes, Header.version, Header.count}
use Rattle.table.specs.{Header.form_of, Kinds.kind_of, Kinds.extremum, Laws.Kinds.extreme_since_lem, Nodes.kind_right, Checked.checked, Forest.trees, Forest.forest_of}
use Rattle.table.specs.{Reading.first_of, Reading.conditions, Reading.tree_of, Limits.Within, Limits.WithinOf, Limits.WithinAll, Trees.Operand, Trees.const}
use Rattle.table.specs.{Trees.ref, Trees.price, Trees.prev, Trees.arith, Trees.extreme, Trees.Condition, Trees.Conditions, Trees.compare, Trees.cross}
use Rattle.table.specs.{Trees.between, Trees.trend, Trees.every, Trees.any, Trees.negated, Trees.in_position, Trees.bars_since, Trees.none, Trees.more}
use Rattle.roundtrip.specs.{Laws.AcceptedWithin.tree_within}
use Rattle.table.specs.{Outcome.accepts}

-- a tree without Highest and Lowest
unfoldable pub HasNone : Operand → Type 0
HasNone (const bits) = Unit
HasNone (ref slot) = Unit
HasNone (price selector) = Unit
HasNone (prev a n) = HasNone a
HasNone (arith kind a b) = HasNone a × HasNone b
HasNone (extreme kind s n) = ⊥

unfoldable mutual
  pub HoldsNone : Condition → Type 0
  HoldsNone (compare kind a b) = HasNone a × HasNone b
  HoldsNone (cross kind a b) = HasNone a × HasNone b
  HoldsNone (between x low high) = HasNone x × HasNone low × HasNone high
  HoldsNone (trend kind a n) = HasNone a
  HoldsNone (every cs) = AllHoldNone cs
  HoldsNone (any cs) = AllHoldNone cs
  HoldsNone (negated c) = HoldsNone c
  HoldsNone (in_position wanted) = Unit
  HoldsNone (bars_since selector k) = Unit

  pub AllHoldNone : Conditions → Type 0
  AllHoldNone none = Unit
  AllHoldNone (more c cs) = HoldsNone c × AllHoldNone cs

module _ (form : Form) (one : form.version ≡ 1) where
  -- a kind that came with version 2 is none of version 1's
  not_yet : (kind : ℕ) → kind_of kind ≡ extremum → kind_right form.version kind ≡ true → ⊥
  unfolding kind_right
  not_yet kind row right = true≢false (sym (rw (extreme_since_lem kind row, one) at right))

  has_none : (a : Operand) → Within form a → HasNone a
  unfolding Within HasNone
  has_none (const bits) w = tt
  has_none (ref slot) w = tt
  has_none (price selector) w = tt
  has_none (prev a n) w = has_none a w.1
  has_none (arith kind a b) w = (has_none a w.1, has_none b w.2)
  has_none (extreme kind s n) w = not_yet kind w.0 w.1

  mutual
    unfolding WithinOf HoldsNone

    holds_none : (c : Condition) → WithinOf form c → HoldsNone c
    holds_none (compare kind a b) w = (has_none a w.1, has_none b w.2)
    holds_none (cross kind a b) w = (has_none a w.1, has_none b w.2)
    holds_none (between x low high) w = (has_none x w.0, has_none low w.1, has_none high w.2)
    holds_none (trend kind a n) w = has_none a w.2
    holds_none (every cs) w = all_hold_none cs w
    holds_none (any cs) w = all_hold_none cs w
    holds_none (negated c) w = holds_none c w
    holds_none (in_position wanted) w = tt
    holds_none (bars_since selector k) w = tt

    all_hold_none : (cs : Conditions) → WithinAll form cs → AllHoldNone cs
    all_hold_none none w = tt
    all_hold_none (more c cs) w = (holds_none c w.0, all_hold_none cs w.1)

-- an absent tree is Any of none
absent_none : (t : List ℕ) (x : ℕ) → count t x ≡ 0 → HoldsNone (tree_of t x)
unfolding tree_of forest_of trees conditions first_of HoldsNone
absent_none t x e = rw e tt

-- VERSION 1 HAS NONE: no tree of an accepted table of version 1 holds a Highest or a Lowest.
pub first_version_has_none : (t : List ℕ) → Bytes t → (n r : ℕ) → checked t ≡ accepts n r → version t ≡ 1 → (x : ℕ) → x < 4 → HoldsNone (tree_of t x)
first_version_has_none t small n r ok one x l = ⊎_elim
    (λ none. absent_none t x none)
    (λ some. holds_none (form_of t) one (tree_of t x) (tree_within t small n r ok x l some).fields)
    (eq-zero-or-pos (count t x))
