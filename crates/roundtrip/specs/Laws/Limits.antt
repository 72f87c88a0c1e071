-- What an accepted table holds is within the paper's limits.
-- Assumes nothing.
use Rattle.std.specs.Prelude.{◌≡◌, true, List, [], ◌∷◌, ℕ, zero, suc, ◌≤◌, ◌<◌, length, replicate, leb, None}
use Rattle.words.specs.Prelude.{sym, ◌∙◌, ap, subst, arith, ltb-true, leb-true}
use Rattle.words.specs.{Limits.most_reach}
use Rattle.table.specs.{declared.nodes.Node.Node, declared.kinds.Kind.Kind, declared.header.Form.Form, Kinds.kind_of}
use Rattle.table.specs.{Kinds.constant, Kinds.reference, Kinds.extremum, Kinds.bars_since, Nodes.child_count, Nodes.n_right, Nodes.constant_right, Nodes.own_right}
use Rattle.table.specs.{Forest.Forest, Forest.sorts, Forest.Sorted, Nesting.deeper, Trees.Operand, Trees.const, Trees.ref, Trees.price, Trees.prev}
use Rattle.table.specs.{Trees.arith as sums, Trees.extreme, Trees.Condition, Trees.Conditions, Trees.none, Trees.more, Series.as_series, Reading.child}
use Rattle.table.specs.{Reading.operand_by, Reading.operand_from, Reading.operands, Reading.first_of, Reading.condition_by, Reading.condition_from}
use Rattle.table.specs.{Reading.conditions, Writing.many_of, Limits.Within, Limits.WithinOf, Limits.WithinAll, Limits.levels, Limits.levels_of}
use Rattle.table.specs.{Limits.levels_of_all, Laws.Order.never_at, Laws.Accepted.or_none, Laws.Kinds.OperandKind, Laws.Kinds.a_const, Laws.Kinds.a_ref}
use Rattle.table.specs.{Laws.Kinds.a_price, Laws.Kinds.a_prev, Laws.Kinds.an_arith, Laws.Kinds.an_extreme, Laws.Kinds.operand_kind, Laws.Header.and_parts}
use Rattle.table.specs.{Laws.Kinds.ConditionKind, Laws.Kinds.a_compare, Laws.Kinds.a_cross, Laws.Kinds.a_between, Laws.Kinds.a_trend, Laws.Kinds.an_all}
use Rattle.table.specs.{Laws.Kinds.an_any, Laws.Kinds.a_not, Laws.Kinds.a_position, Laws.Kinds.a_count, Laws.Kinds.condition_kind}
use Rattle.roundtrip.specs.{Laws.Series.IsSeries, Laws.Series.series_child, Laws.Series.leaf_within, Laws.Reading.some_operands}
use Rattle.roundtrip.specs.{Laws.Reading.many_conditions}
use Rattle.roundtrip.specs.{Laws.Reading.under_by, Laws.Reading.operands_below, Laws.Writing.Right, Laws.OwnBytes.OwnFields, Laws.OwnBytes.own_fields}
use Rattle.roundtrip.specs.{Laws.OwnBytes.NodeFits}
use Rattle.roundtrip.specs.{Laws.OwnBytes.FieldsFit}
use Rattle.table.specs.Kinds as Kinds

-- ---- operands in a row

-- each is within the limits, and none has more than l levels
unfoldable Row : Form → ℕ → List Operand → Type 0
Row form l [] = Unit
Row form l (a ∷ os) = Within form a × (levels a ≤ l) × Row form l os

child_in : (form : Form) (l : ℕ) (os : List Operand) (j : ℕ) → Row form l os → j < length os → Within form (child os j) × (levels (child os j) ≤ l)
unfolding Row
child_in form l [] j r h = absurd (never h)
  where
    never : j < 0 → ⊥
    never h' = omega arith
child_in form l (a ∷ os) zero r h = (r.0, r.1)
child_in form l (a ∷ os) (suc j) r h = child_in form l os j r.2 (omega arith)

-- an operand within the limits, of l levels at the most
abbrev Fine : Form → ℕ → Operand → Type 0
Fine form l a = Within form a × (levels a ≤ l)

some_level : (a : Operand) → 1 ≤ levels a
unfolding levels
some_level (const x) = omega arith
some_level (ref s) = omega arith
some_level (price s) = omega arith
some_level (prev a n) = omega arith
some_level (sums kind a b) = omega arith
some_level (extreme kind s n) = omega arith

module _ (form : Form) (l : ℕ) (n : Node) (os : List Operand) (right : own_right form n (kind_of n.kind) ≡ true) (small : NodeFits n)
    (many : length os ≡ child_count n (kind_of n.kind)) (row : Row form l os) (series : kind_of n.kind ≡ extremum → IsSeries (child os 0)) where
  count_by : (r : Kind) → kind_of n.kind ≡ r → length os ≡ child_count n r
  count_by r h = many ∙ ap (child_count n) h

  own_by : (r : Kind) → kind_of n.kind ≡ r → OwnFields form n r
  own_by r h = own_fields form n r (sym (ap (own_right form n) h) ∙ right)

  fine_operand : OperandKind n.kind → Fine form (suc l) (operand_from n os)
  unfolding n_right constant_right child_count operand_from operand_by Within levels
  fine_operand (a_const e r) = rw r ((small.constant, (own_by constant r).constant), omega arith)
  fine_operand (a_ref e r) = rw r (ltb-true _ _ (own_by reference r).number, omega arith)
  fine_operand (a_price e r) = rw r ((own_by Kinds.price r).selector, omega arith)
  fine_operand (a_prev e r) =
      let a = child_in form l os 0 row (omega (arith, count_by _ r)) in
      rw r ((small.n, a.0), omega (arith, a.1))
  fine_operand (an_arith r) =
      let a = child_in form l os 0 row (omega (arith, count_by _ r)) in
      let b = child_in form l os 1 row (omega (arith, count_by _ r)) in
      rw r ((r, a.0, b.0, (own_by _ r).version), omega (arith, a.1, b.1))
  fine_operand (an_extreme r) =
      let a = child_in form l os 0 row (omega (arith, count_by _ r)) in
      let o = own_by extremum r in
      let n-right = and_parts (leb 1 n.n) (leb n.n most_reach) o.number in
      let leaf = leaf_within form (as_series (child os 0)) (subst (Within form) (series r) a.0) in
      rw r ((r, o.version, leb-true _ _ n-right.0, leb-true _ _ n-right.1, leaf), omega (arith, some_level (child os 0), a.1))

no_level : (n : Node) (below rest : Forest) → deeper 0 (Forest.tree n below rest) ≡ None → ⊥
unfolding deeper
no_level n below rest h = never_at n.number h

both_levels : (l : ℕ) (n : Node) (below rest : Forest) → deeper (suc l) (Forest.tree n below rest) ≡ None
    → (deeper l below ≡ None) × (deeper (suc l) rest ≡ None)
unfolding deeper
both_levels l n below rest h = or_none (deeper l below) (deeper (suc l) rest) h

no_sort : (n : ℕ) (ns : List ℕ) → n ∷ ns ≡ [] → ⊥
no_sort n ns h = let z : ◌≡◌ {A = ℕ} 0 1 = cc in omega arith

row_fine : (f : Forest) (form : Form) (l m : ℕ) → Right form f → FieldsFit f → Sorted f → sorts f ≡ replicate m 1
    → deeper l f ≡ None → Row form l (operands f)
unfolding Right FieldsFit Sorted sorts operands Row
row_fine Forest.none form l m r sm so s d = tt
row_fine (Forest.tree n below rest) form l zero r sm so s d = absurd (no_sort _ _ s)
row_fine (Forest.tree n below rest) form zero (suc m) r sm so s d = absurd (no_level n below rest d)
row_fine (Forest.tree n below rest) form (suc l) (suc m) r sm so s d =
    let sort : (kind_of n.kind).sort ≡ 1 = cc in
    let others : sorts rest ≡ replicate m 1 = cc in
    let kind = operand_kind n.kind sort in
    let under = operands_below n below sort so.0 in
    let deep = both_levels l n below rest d in
    let row = row_fine below form l (child_count n (kind_of n.kind)) r.1 sm.1 so.1 under.0 deep.0 in
    let here = fine_operand form l n (operands below) r.0 sm.0 under.1 row (series_child n below so.0 so.3) kind in
    (here.0, here.1, row_fine rest form (suc l) m r.2 sm.2 so.2 others deep.1)

-- ---- conditions in a row

abbrev FineOf : Form → ℕ → Condition → Type 0
FineOf form l c = WithinOf form c × (levels_of c ≤ l)

abbrev FineAll : Form → ℕ → Conditions → Type 0
FineAll form l cs = WithinAll form cs × (levels_of_all cs ≤ l)

pub first_in : (form : Form) (l : ℕ) (cs : Conditions) → many_of cs ≡ 1 → FineAll form l cs → FineOf form l (first_of cs)
unfolding many_of WithinAll levels_of_all first_of
first_in form l none h f = absurd (omega arith)
first_in form l (more c cs) h f = (f.0.0, omega (arith, f.1))

module _ (form : Form) (l : ℕ) (n : Node) (below : Forest) (right : own_right form n (kind_of n.kind) ≡ true) (small : NodeFits n)
    (under : sorts below ≡ replicate (child_count n (kind_of n.kind)) (kind_of n.kind).below)
    (of-operands : (m : ℕ) → sorts below ≡ replicate m 1 → Row form l (operands below))
    (of-conditions : (m : ℕ) → sorts below ≡ replicate m 2 → FineAll form l (conditions below)) where
  own_of : (r : Kind) → kind_of n.kind ≡ r → OwnFields form n r
  own_of r h = own_fields form n r (sym (ap (own_right form n) h) ∙ right)

  -- operand j of the m that stand below
  operand_in : (m j : ℕ) → sorts below ≡ replicate m 1 → j < m → Fine form l (child (operands below) j)
  operand_in m j h lt = child_in form l (operands below) j (of-operands m h) (rw (some_operands below m h) lt)

  fine_condition : ConditionKind n.kind → FineOf form (suc l) (condition_from n (operands below) (conditions below))
  unfolding child_count condition_from condition_by WithinOf levels_of
  fine_condition (a_compare r) =
      let a = operand_in 2 0 (under_by n below under _ r) (omega arith) in
      let b = operand_in 2 1 (under_by n below under _ r) (omega arith) in
      rw r ((r, a.0, b.0, (own_of _ r).version), omega (arith, a.1, b.1))
  fine_condition (a_cross r) =
      let a = operand_in 2 0 (under_by n below under _ r) (omega arith) in
      let b = operand_in 2 1 (under_by n below under _ r) (omega arith) in
      rw r ((r, a.0, b.0, (own_of _ r).version), omega (arith, a.1, b.1))
  fine_condition (a_between e r) =
      let x = operand_in 3 0 (under_by n below under _ r) (omega arith) in
      let a = operand_in 3 1 (under_by n below under _ r) (omega arith) in
      let b = operand_in 3 2 (under_by n below under _ r) (omega arith) in
      rw r ((x.0, a.0, b.0), omega (arith, x.1, a.1, b.1))
  fine_condition (a_trend r) =
      let a = operand_in 1 0 (under_by n below under _ r) (omega arith) in
      rw r ((r, small.n, a.0, (own_of _ r).version), omega (arith, a.1))
  fine_condition (an_all e r) =
      let f = of-conditions n.children (under_by n below under _ r) in
      rw r (f.0, omega (arith, f.1))
  fine_condition (an_any e r) =
      let f = of-conditions n.children (under_by n below under _ r) in
      rw r (f.0, omega (arith, f.1))
  fine_condition (a_not e r) =
      let one : sorts below ≡ replicate 1 2 = under_by n below under _ r in
      let f = first_in form l (conditions below) (many_conditions below ∙ ap length one) (of-conditions 1 one) in
      rw r (f.0, omega (arith, f.1))
  fine_condition (a_position e r) = rw r (tt, omega arith)
  fine_condition (a_count e r) = rw r (((own_of bars_since r).selector, small.n), omega arith)

pub all_fine : (f : Forest) (form : Form) (l m : ℕ) → Right form f → FieldsFit f → Sorted f → sorts f ≡ replicate m 2 → deeper l f ≡ None
    → WithinAll form (conditions f) × (levels_of_all (conditions f) ≤ l)
unfolding Right FieldsFit Sorted sorts conditions WithinAll levels_of_all
all_fine Forest.none form l m r sm so s d = (tt, omega arith)
all_fine (Forest.tree n below rest) form l zero r sm so s d = absurd (no_sort _ _ s)
all_fine (Forest.tree n below rest) form zero (suc m) r sm so s d = absurd (no_level n below rest d)
all_fine (Forest.tree n below rest) form (suc l) (suc m) r sm so s d =
    let sort : (kind_of n.kind).sort ≡ 2 = cc in
    let others : sorts rest ≡ replicate m 2 = cc in
    let deep = both_levels l n below rest d in
    let here = fine_condition form l n below r.0 sm.0 so.0 (λ j g. row_fine below form l j r.1 sm.1 so.1 g deep.0)
    (λ j g. all_fine below form l j r.1 sm.1 so.1 g deep.0) (condition_kind n.kind sort) in
    let after = all_fine rest form (suc l) m r.2 sm.2 so.2 others deep.1 in
    ((here.0, after.0), omega (arith, here.1, after.1))
