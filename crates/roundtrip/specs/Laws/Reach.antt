-- The reach of the typed trees is the reach that the checker weighs, and the rows needed are one more than the greatest.
-- Assumes nothing.
use Rattle.std.specs.Prelude.{◌≡◌, refl, List, [], ◌∷◌, ℕ, zero, suc, ◌+◌, ◌<◌, max, length, replicate}
use Rattle.words.specs.Prelude.{◌∙◌, ap, ⊎_elim, arith, eq-zero-or-pos}
use Rattle.table.specs.{declared.nodes.Node.Node, declared.kinds.Kind.Kind, Kinds.kind_of, Kinds.extremum}
use Rattle.table.specs.{Header.count, Nodes.child_count, Forest.Forest, Forest.trees, Forest.forest_of, Forest.sorts, Forest.Sorted, Reach.back, Reach.own_back}
use Rattle.table.specs.{Reach.weigh, Reach.forest_reach, Reach.tree_reach, Reach.rows_needed, Checked.checked, Trees.Operand, Trees.Conditions, Trees.none}
use Rattle.table.specs.{Trees.more, Trees.reach, Trees.reach_of, Trees.reach_of_all, Reading.child, Reading.operand_by, Reading.operand_from, Reading.operands}
use Rattle.table.specs.{Reading.first_of, Reading.condition_by, Reading.condition_from, Reading.conditions, Reading.tree_of, Series.as_series, Writing.many_of}
use Rattle.table.specs.{Laws.Kinds.OperandKind, Laws.Kinds.a_const, Laws.Kinds.a_ref, Laws.Kinds.a_price, Laws.Kinds.a_prev, Laws.Kinds.an_arith}
use Rattle.table.specs.{Laws.Kinds.an_extreme, Laws.Kinds.operand_kind, Laws.Kinds.ConditionKind, Laws.Kinds.a_compare, Laws.Kinds.a_cross}
use Rattle.table.specs.{Laws.Kinds.a_between, Laws.Kinds.a_trend, Laws.Kinds.an_all, Laws.Kinds.an_any, Laws.Kinds.a_not, Laws.Kinds.a_position}
use Rattle.table.specs.{Laws.Kinds.a_count, Laws.Kinds.condition_kind, Laws.Accepted.accepted, Laws.Accepted.tree_sorts}
use Rattle.roundtrip.specs.{Laws.Series.IsSeries, Laws.Series.series_child, Laws.Series.leaf_reach, Laws.Reading.many_conditions, Laws.Reading.row_below}
use Rattle.roundtrip.specs.{Laws.Reading.under_by, Laws.Reading.some_conditions}
use Rattle.roundtrip.specs.{Laws.Reading.row_none, Laws.Reading.row_one, Laws.Reading.row_two, Laws.Reading.row_three, Laws.Reading.operands_below}
use Rattle.table.specs.{Outcome.accepts}

-- the greatest reach of operands in a row
unfoldable pub reach_of_row : List Operand → ℕ
reach_of_row [] = 0
reach_of_row (a ∷ os) = max (reach a) (reach_of_row os)

-- ---- conditions in a row of a known length

conditions-none : (cs : Conditions) → many_of cs ≡ 0 → reach_of_all cs ≡ 0
unfolding many_of reach_of_all
conditions-none none h = refl
conditions-none (more c cs) h = absurd (omega arith)

conditions_one : (cs : Conditions) → many_of cs ≡ 1 → reach_of_all cs ≡ reach_of (first_of cs)
unfolding many_of reach_of_all first_of
conditions_one none h = absurd (omega arith)
conditions_one (more c cs) h = omega (arith, conditions-none cs (omega arith))

-- ---- a node over what is below it

back_by : (n : Node) (row : Kind) → kind_of n.kind ≡ row → own_back n ≡ back n row
unfolding own_back
back_by n row h = rw h

-- what an operand's node adds, over the operands below it
module _ (n : Node) (os : List Operand) (many : length os ≡ child_count n (kind_of n.kind))
    (series : kind_of n.kind ≡ extremum → IsSeries (child os 0)) where
  count_by : (row : Kind) → kind_of n.kind ≡ row → length os ≡ child_count n row
  count_by row h = many ∙ ap (child_count n) h

  adds_operand : OperandKind n.kind → own_back n + reach_of_row os ≡ reach (operand_from n os)
  unfolding back child_count operand_from operand_by reach reach_of_row
  adds_operand (a_const k row) = simp (row, back_by n _ row, row_none os (count_by _ row))
  adds_operand (a_ref k row) = simp (row, back_by n _ row, row_none os (count_by _ row))
  adds_operand (a_price k row) = simp (row, back_by n _ row, row_none os (count_by _ row))
  adds_operand (a_prev k row) = rw (row_one os (count_by _ row)) (simp (row, back_by n _ row) (omega arith))
  adds_operand (an_arith row) = rw (row_two os (count_by _ row)) (simp (row, back_by n _ row) (omega arith))
  adds_operand (an_extreme row) =
      let none : reach (child os 0) ≡ 0 = ap reach (series row) ∙ leaf_reach (as_series (child os 0)) in
      rw (row_one os (count_by _ row)) (simp (row, back_by n _ row, none) (omega arith))

-- operands in a row reach as far as the forest weighs
row_reach : (f : Forest) (k : ℕ) → Sorted f → sorts f ≡ replicate k 1 → weigh own_back f ≡ reach_of_row (operands f)
unfolding weigh operands reach_of_row sorts Sorted
row_reach Forest.none k h s = refl
row_reach (Forest.tree n below rest) zero h s = absurd never
  where
    never : ⊥
    never = let z : ◌≡◌ {A = ℕ} 0 1 = cc in omega arith
row_reach (Forest.tree n below rest) (suc k) h s =
    let sort : (kind_of n.kind).sort ≡ 1 = cc in
    let others : sorts rest ≡ replicate k 1 = cc in
    let kind = operand_kind n.kind sort in
    let under = operands_below n below sort h.0 in
    let a : weigh own_back below ≡ reach_of_row (operands below) = row_reach below (child_count n (kind_of n.kind)) h.1 under.0 in
    let b : weigh own_back rest ≡ reach_of_row (operands rest) = row_reach rest k h.2 others in
    let c : own_back n + reach_of_row (operands below) ≡ reach (operand_from n (operands below)) =
    adds_operand n (operands below) under.1 (series_child n below h.0 h.3) kind in
    rw (a, b, c)

-- what a condition's node adds, over what is below it
module _ (n : Node) (below : Forest) (w : ℕ)
    (under : sorts below ≡ replicate (child_count n (kind_of n.kind)) (kind_of n.kind).below)
    (of-operands : (k : ℕ) → sorts below ≡ replicate k 1 → w ≡ reach_of_row (operands below))
    (of-conditions : (k : ℕ) → sorts below ≡ replicate k 2 → w ≡ reach_of_all (conditions below)) where
  adds_condition : ConditionKind n.kind → own_back n + w ≡ reach_of (condition_from n (operands below) (conditions below))
  unfolding back child_count condition_from condition_by reach_of reach_of_row
  adds_condition (a_compare row) =
      let b = row_below n below under reach_of_row of-operands 2 _ row refl in
      rw (b.0, row_two (operands below) b.1) (simp (row, back_by n _ row) (omega arith))
  adds_condition (a_cross row) =
      let b = row_below n below under reach_of_row of-operands 2 _ row refl in
      rw (b.0, row_two (operands below) b.1) (simp (row, back_by n _ row) (omega arith))
  adds_condition (a_between k row) =
      let b = row_below n below under reach_of_row of-operands 3 _ row refl in
      rw (b.0, row_three (operands below) b.1) (simp (row, back_by n _ row) (omega arith))
  adds_condition (a_trend row) =
      let b = row_below n below under reach_of_row of-operands 1 _ row refl in
      rw (b.0, row_one (operands below) b.1) (simp (row, back_by n _ row) (omega arith))
  adds_condition (an_all k row) = simp (row, back_by n _ row, of-conditions n.children (under_by n below under _ row)) (omega arith)
  adds_condition (an_any k row) = simp (row, back_by n _ row, of-conditions n.children (under_by n below under _ row)) (omega arith)
  adds_condition (a_not k row) =
      let one : sorts below ≡ replicate 1 2 = under_by n below under _ row in
      simp (row, back_by n _ row, of-conditions 1 one, conditions_one (conditions below) (some_conditions below 1 one)) (omega arith)
  adds_condition (a_position k row) =
      let b = row_below n below under reach_of_row of-operands 0 _ row refl in
      simp (row, back_by n _ row, b.0, row_none (operands below) b.1)
  adds_condition (a_count k row) =
      let b = row_below n below under reach_of_row of-operands 0 _ row refl in
      simp (row, back_by n _ row, b.0, row_none (operands below) b.1)

-- conditions in a row reach as far as the forest weighs
pub all_reach : (f : Forest) (k : ℕ) → Sorted f → sorts f ≡ replicate k 2 → weigh own_back f ≡ reach_of_all (conditions f)
unfolding weigh conditions reach_of_all sorts Sorted
all_reach Forest.none k h s = refl
all_reach (Forest.tree n below rest) zero h s = absurd never
  where
    never : ⊥
    never = let z : ◌≡◌ {A = ℕ} 0 1 = cc in omega arith
all_reach (Forest.tree n below rest) (suc k) h s =
    let sort : (kind_of n.kind).sort ≡ 2 = cc in
    let others : sorts rest ≡ replicate k 2 = cc in
    let b : weigh own_back rest ≡ reach_of_all (conditions rest) = all_reach rest k h.2 others in
    let c : own_back n + weigh own_back below ≡ reach_of (condition_from n (operands below) (conditions below)) =
    adds_condition n below (weigh own_back below) h.0 (λ m g. row_reach below m h.1 g) (λ m g. all_reach below m h.1 g)
    (condition_kind n.kind sort) in
    rw (c, b)

-- The reach of a tree of an accepted table, as a tree and as the checker weighs it; an absent tree's is 0 both ways.
absent_reach : (t : List ℕ) (x : ℕ) → count t x ≡ 0 → tree_reach t x ≡ reach_of (tree_of t x)
unfolding tree_reach forest_reach tree_of forest_of trees weigh conditions first_of reach_of
absent_reach t x h = rw h

there_reach : (t : List ℕ) (n r x : ℕ) → checked t ≡ accepts n r → x < 4 → 0 < count t x → tree_reach t x ≡ reach_of (tree_of t x)
unfolding tree_reach forest_reach tree_of
there_reach t n r x ok l some =
    let g = tree_sorts t n r ok x l some in
    all_reach (forest_of t x) 1 g.1 g.0 ∙ conditions_one (conditions (forest_of t x)) (many_conditions (forest_of t x) ∙ ap length g.0)

pub tree_reach_is : (t : List ℕ) (n r x : ℕ) → checked t ≡ accepts n r → x < 4 → tree_reach t x ≡ reach_of (tree_of t x)
tree_reach_is t n r x ok l = ⊎_elim (absent_reach t x) (there_reach t n r x ok l) (eq-zero-or-pos (count t x))

-- "rows = greatest reach + 1", in the trees' terms
pub rows_are : (t : List ℕ) (n r : ℕ) → checked t ≡ accepts n r
    → r ≡ max (max (reach_of (tree_of t 0)) (reach_of (tree_of t 1))) (max (reach_of (tree_of t 2)) (reach_of (tree_of t 3))) + 1
unfolding rows_needed
rows_are t n r ok =
    (accepted t n r ok).rows ∙
    rw (
      tree_reach_is t n r 0 ok (omega arith),
      tree_reach_is t n r 1 ok (omega arith),
      tree_reach_is t n r 2 ok (omega arith),
      tree_reach_is t n r 3 ok (omega arith),
    )
