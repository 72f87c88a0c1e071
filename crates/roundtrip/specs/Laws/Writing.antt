-- Where each node's own bytes are right and each has the children that its kind takes, writing what the forest reads as gives
-- the forest's own nodes back, in prefix order.
-- Assumes nothing.
use Rattle.std.specs.Prelude.{◌≡◌, refl, true, cond, List, ◌++◌, ℕ, zero, suc, ◌<◌, length, replicate, eqb}
use Rattle.words.specs.Prelude.{sym, ◌∙◌, ap, append_assoc, append-nil, arith}
use Rattle.words.specs.Prelude.{eqb-true}
use Rattle.table.specs.{declared.nodes.Node.Node, declared.kinds.Kind.Kind, declared.header.Form.Form, Kinds.kind_of, Kinds.constant, Kinds.reference}
use Rattle.table.specs.{Kinds.price, Kinds.previous, Kinds.arithmetic, Kinds.extremum, Kinds.comparison, Kinds.crossing, Kinds.between, Kinds.trend}
use Rattle.table.specs.{Kinds.all_of, Kinds.any_of, Kinds.negation, Kinds.position, Kinds.bars_since, Nodes.child_count, Nodes.children_right, Nodes.n_right}
use Rattle.table.specs.{Nodes.constant_right, Nodes.own_right, Forest.Forest, Forest.sorts, Forest.Sorted, Forest.flat, Trees.Operand, Reading.child}
use Rattle.table.specs.{Reading.operand_by, Reading.operand_from, Reading.operands, Reading.condition_by, Reading.condition_from, Reading.conditions, Writing.node}
use Rattle.table.specs.{Writing.node_bytes, Writing.nodes_bytes, Writing.write_series, Writing.write_operand, Writing.write_row, Writing.many_of}
use Rattle.table.specs.{Writing.write_condition, Writing.write_all, Series.as_series, Laws.Kinds.OperandKind, Laws.Kinds.a_const, Laws.Kinds.a_ref}
use Rattle.table.specs.{Laws.Kinds.a_price, Laws.Kinds.a_prev, Laws.Kinds.an_arith, Laws.Kinds.an_extreme, Laws.Kinds.operand_kind, Laws.Kinds.ConditionKind}
use Rattle.table.specs.{Laws.Kinds.a_compare, Laws.Kinds.a_cross, Laws.Kinds.a_between, Laws.Kinds.a_trend, Laws.Kinds.an_all, Laws.Kinds.an_any}
use Rattle.table.specs.{Laws.Kinds.a_not, Laws.Kinds.a_position, Laws.Kinds.a_count, Laws.Kinds.condition_kind}
use Rattle.roundtrip.specs.{Laws.Series.IsSeries, Laws.Series.series_child, Laws.Series.leaf_written, Laws.Reading.some_conditions}
use Rattle.roundtrip.specs.{Laws.Reading.row_below}
use Rattle.roundtrip.specs.{Laws.Reading.under_by}
use Rattle.roundtrip.specs.{Laws.Reading.row_none, Laws.Reading.row_one, Laws.Reading.row_two, Laws.Reading.row_three, Laws.Reading.operands_below}
use Rattle.roundtrip.specs.{Laws.NodeBytes.tree_bytes, Laws.NodeBytes.no_bytes, Laws.OwnBytes.all_one, Laws.OwnBytes.OwnFields, Laws.OwnBytes.own_fields}
use Rattle.roundtrip.specs.{Laws.OwnBytes.bytes_by_fields, Laws.OwnBytes.number-node, Laws.OwnBytes.plain_node}

-- ---- an operand's node, over the operands below it

module _ (form : Form) (n : Node) (os : List Operand) (right : own_right form n (kind_of n.kind) ≡ true)
    (many : length os ≡ child_count n (kind_of n.kind)) (series : kind_of n.kind ≡ extremum → IsSeries (child os 0)) where
  count_by : (row : Kind) → kind_of n.kind ≡ row → length os ≡ child_count n row
  count_by row h = many ∙ ap (child_count n) h

  own_by : (row : Kind) → kind_of n.kind ≡ row → OwnFields form n row
  own_by row h = own_fields form n row (sym (ap (own_right form n) h) ∙ right)

  writes_operand : OperandKind n.kind → node_bytes n ++ write_row os ≡ write_operand (operand_from n os)
  unfolding child_count children_right n_right constant_right operand_from operand_by write_operand write_row
  writes_operand (a_const e row) =
      let o = own_by constant row in
      let b : node_bytes n ≡ node 1 0 0 0 n.constant =
      bytes_by_fields n 1 0 0 0 n.constant e (omega (arith, o.selector)) (eqb-true _ _ o.children) (eqb-true _ _ o.number) refl in
      simp (row, b, row_none os (count_by _ row), append-nil)
  writes_operand (a_ref e row) =
      let o = own_by reference row in
      let b = number-node n 2 e o.selector o.children o.constant in
      simp (row, b, row_none os (count_by _ row), append-nil)
  writes_operand (a_price e row) =
      let o = own_by price row in
      let b : node_bytes n ≡ node 3 n.selector 0 0 0 =
      bytes_by_fields n 3 n.selector 0 0 0 e refl (eqb-true _ _ o.children) (eqb-true _ _ o.number) (eqb-true _ _ o.constant) in
      simp (row, b, row_none os (count_by _ row), append-nil)
  writes_operand (a_prev e row) =
      let o = own_by previous row in
      let b = number-node n 4 e o.selector o.children o.constant in
      rw (row_one os (count_by _ row)) (simp (row, b, append-nil))
  writes_operand (an_arith row) =
      let o = own_by arithmetic row in
      let b = plain_node n n.kind refl o.selector o.children o.number o.constant in
      rw (row_two os (count_by _ row)) (simp (row, b, append-nil, append_assoc))
  writes_operand (an_extreme row) =
      let o = own_by extremum row in
      let b = number-node n n.kind refl o.selector o.children o.constant in
      let leaf : write_operand (child os 0) ≡ write_series (as_series (child os 0)) = ap write_operand (series row) ∙ leaf_written (as_series (child os 0)) in
      rw (row_one os (count_by _ row)) (simp (row, b, leaf, append-nil))

-- ---- a condition's node, over what is below it

zero_or_one : (x : ℕ) → x < 2 → cond (eqb x 1) 1 0 ≡ x
zero_or_one zero h = refl
zero_or_one (suc zero) h = refl
zero_or_one (suc (suc x)) h = absurd (never h)
  where
    never : suc (suc x) < 2 → ⊥
    never h' = omega arith

module _ (form : Form) (n : Node) (below : Forest) (bytes : List ℕ) (right : own_right form n (kind_of n.kind) ≡ true)
    (under : sorts below ≡ replicate (child_count n (kind_of n.kind)) (kind_of n.kind).below)
    (of-operands : (m : ℕ) → sorts below ≡ replicate m 1 → bytes ≡ write_row (operands below))
    (of-conditions : (m : ℕ) → sorts below ≡ replicate m 2 → bytes ≡ write_all (conditions below)) where
  own_by' : (row : Kind) → kind_of n.kind ≡ row → OwnFields form n row
  own_by' row h = own_fields form n row (sym (ap (own_right form n) h) ∙ right)

  -- All and Any: the children are as many as the node says
  group_bytes : (kind : ℕ) → n.kind ≡ kind → n.selector < 1 → eqb n.n 0 ≡ true → eqb n.constant 0 ≡ true → sorts below ≡ replicate n.children 2
      → (node_bytes n ≡ node kind 0 (many_of (conditions below)) 0 0) × (bytes ≡ write_all (conditions below))
  group_bytes kind e s m x all = (
    bytes_by_fields n kind 0 (many_of (conditions below)) 0 0 e (omega arith) (sym (some_conditions below n.children all)) (eqb-true _ _ m) (eqb-true _ _ x),
    of-conditions n.children all,
  )

  writes_condition : ConditionKind n.kind → node_bytes n ++ bytes ≡ write_condition (condition_from n (operands below) (conditions below))
  unfolding child_count children_right n_right constant_right condition_from condition_by write_condition write_row
  writes_condition (a_compare row) =
      let o = own_by' comparison row in
      let b = plain_node n n.kind refl o.selector o.children o.number o.constant in
      let r = row_below n below under write_row of-operands 2 _ row refl in
      rw (r.0, row_two (operands below) r.1) (simp (row, b, append-nil, append_assoc))
  writes_condition (a_cross row) =
      let o = own_by' crossing row in
      let b = plain_node n n.kind refl o.selector o.children o.number o.constant in
      let r = row_below n below under write_row of-operands 2 _ row refl in
      rw (r.0, row_two (operands below) r.1) (simp (row, b, append-nil, append_assoc))
  writes_condition (a_between e row) =
      let o = own_by' between row in
      let b = plain_node n 24 e o.selector o.children o.number o.constant in
      let r = row_below n below under write_row of-operands 3 _ row refl in
      rw (r.0, row_three (operands below) r.1) (simp (row, b, append-nil, append_assoc))
  writes_condition (a_trend row) =
      let o = own_by' trend row in
      let b = number-node n n.kind refl o.selector o.children o.constant in
      let r = row_below n below under write_row of-operands 1 _ row refl in
      rw (r.0, row_one (operands below) r.1) (simp (row, b, append-nil))
  writes_condition (an_all e row) =
      let o = own_by' all_of row in
      let g = group_bytes 27 e o.selector o.number o.constant (under_by n below under _ row) in
      simp (row, g.0, g.1)
  writes_condition (an_any e row) =
      let o = own_by' any_of row in
      let g = group_bytes 28 e o.selector o.number o.constant (under_by n below under _ row) in
      simp (row, g.0, g.1)
  writes_condition (a_not e row) =
      let o = own_by' negation row in
      let b = plain_node n 29 e o.selector o.children o.number o.constant in
      let one : sorts below ≡ replicate 1 2 = under_by n below under _ row in
      simp (row, b, of-conditions 1 one, all_one (conditions below) (some_conditions below 1 one))
  writes_condition (a_position e row) =
      let o = own_by' position row in
      let b : node_bytes n ≡ node 30 (cond (eqb n.selector 1) 1 0) 0 0 0 =
      bytes_by_fields n 30 (cond (eqb n.selector 1) 1 0) 0 0 0 e (sym (zero_or_one n.selector o.selector))
      (eqb-true _ _ o.children) (eqb-true _ _ o.number) (eqb-true _ _ o.constant) in
      let r = row_below n below under write_row of-operands 0 _ row refl in
      simp (row, b, r.0, row_none (operands below) r.1, append-nil)
  writes_condition (a_count e row) =
      let o = own_by' bars_since row in
      let b : node_bytes n ≡ node 31 n.selector 0 n.n 0 =
      bytes_by_fields n 31 n.selector 0 n.n 0 e refl (eqb-true _ _ o.children) refl (eqb-true _ _ o.constant) in
      let r = row_below n below under write_row of-operands 0 _ row refl in
      simp (row, b, r.0, row_none (operands below) r.1, append-nil)

-- ---- forests

-- each node's own bytes are right
unfoldable pub Right : Form → Forest → Type 0
Right form Forest.none = Unit
Right form (Forest.tree n below rest) = (own_right form n (kind_of n.kind) ≡ true) × Right form below × Right form rest

pub written_row : (form : Form) (f : Forest) (m : ℕ) → Right form f → Sorted f → sorts f ≡ replicate m 1 → nodes_bytes (flat f) ≡ write_row (operands f)
unfolding Right Sorted sorts operands write_row
written_row form Forest.none m r h s = no_bytes
written_row form (Forest.tree n below rest) zero r h s = absurd never
  where
    never : ⊥
    never = let z : ◌≡◌ {A = ℕ} 0 1 = cc in omega arith
written_row form (Forest.tree n below rest) (suc m) r h s =
    let sort : (kind_of n.kind).sort ≡ 1 = cc in
    let others : sorts rest ≡ replicate m 1 = cc in
    let kind = operand_kind n.kind sort in
    let under = operands_below n below sort h.0 in
    let a : nodes_bytes (flat below) ≡ write_row (operands below) = written_row form below (child_count n (kind_of n.kind)) r.1 h.1 under.0 in
    let b : nodes_bytes (flat rest) ≡ write_row (operands rest) = written_row form rest m r.2 h.2 others in
    let here = writes_operand form n (operands below) r.0 under.1 (series_child n below h.0 h.3) kind in
    tree_bytes n below rest ∙ rw (a, b) (ap (λ (l : List ℕ). l ++ write_row (operands rest)) here)

pub written_all : (form : Form) (f : Forest) (m : ℕ) → Right form f → Sorted f → sorts f ≡ replicate m 2 → nodes_bytes (flat f) ≡ write_all (conditions f)
unfolding Right Sorted sorts conditions write_all
written_all form Forest.none m r h s = no_bytes
written_all form (Forest.tree n below rest) zero r h s = absurd never
  where
    never : ⊥
    never = let z : ◌≡◌ {A = ℕ} 0 1 = cc in omega arith
written_all form (Forest.tree n below rest) (suc m) r h s =
    let sort : (kind_of n.kind).sort ≡ 2 = cc in
    let others : sorts rest ≡ replicate m 2 = cc in
    let b : nodes_bytes (flat rest) ≡ write_all (conditions rest) = written_all form rest m r.2 h.2 others in
    let a : node_bytes n ++ nodes_bytes (flat below) ≡ write_condition (condition_from n (operands below) (conditions below)) =
    writes_condition form n below (nodes_bytes (flat below)) r.0 h.0 (λ j g. written_row form below j r.1 h.1 g)
    (λ j g. written_all form below j r.1 h.1 g) (condition_kind n.kind sort) in
    tree_bytes n below rest ∙ rw (a, b)
