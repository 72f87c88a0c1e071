-- On an accepted table the tree that stands at a node, read with the array of ends, is the table's own. Assumes nothing.
use Rattle.std.specs.Prelude.{ℕ, zero, suc, ◌+◌, ◌-◌, ◌≤◌, ◌<◌, ◌≡◌, List, get_or}
use Rattle.words.specs.Prelude.{sym, ap, ◌∙◌, arith, lt-ltb, lt-leb}
use Rattle.words.specs.{Limits.most_nesting, Limits.most_nodes}
use Rattle.table.specs.{declared.kinds.Kind.Kind, Kinds.kind_of, Laws.Kinds.OperandKind, Laws.Kinds.a_const}
use Rattle.table.specs.{Laws.Kinds.a_ref, Laws.Kinds.a_price, Laws.Kinds.a_prev, Laws.Kinds.an_arith, Laws.Kinds.an_extreme, Laws.Kinds.operand_kind}
use Rattle.table.specs.{Laws.Kinds.ConditionKind, Laws.Kinds.a_compare, Laws.Kinds.a_cross, Laws.Kinds.a_between, Laws.Kinds.a_trend, Laws.Kinds.an_all}
use Rattle.table.specs.{Laws.Kinds.an_any, Laws.Kinds.a_not, Laws.Kinds.a_position, Laws.Kinds.a_count, Laws.Kinds.condition_kind, Header.count, Header.root}
use Rattle.table.specs.{Nodes.node_at, Nodes.sort_at, Nodes.child_count, Nodes.child_count_at, Nodes.child_sort_at, Checked.checked, Series.as_series, Series.series_in}
use Rattle.table.specs.{Ends.ends_all, Ends.ends_beside, Ends.Link, Ends.Linked, Reading.child, Reading.operand_by, Reading.operand_from, Reading.condition_by}
use Rattle.table.specs.{Reading.condition_from, Reading.tree_of, Laws.Accepted.WholeTree, Laws.Accepted.tree_whole, Laws.Accepted.ends_of}
use Rattle.roundtrip.specs.{Laws.Series.series_read, Laws.Walking.Stands, Laws.Walking.node_there, Laws.Walking.sort_there, Laws.Walking.level_left}
use Rattle.roundtrip.specs.{Laws.Walking.stands_one, Laws.Walking.stands_next, Laws.Walking.stands_below, Laws.Walking.child_first, Laws.Walking.child_next}
use Rattle.roundtrip.specs.{Laws.Walking.condition_first, Laws.Walking.conditions-none, Laws.Walking.conditions-more, Laws.Walking.operand_is}
use Rattle.roundtrip.specs.{Laws.Walking.condition_is, Laws.Walking.tree_reads, Laws.Walking.tree_stands}
use Rattle.rules.specs.{Shapes.end_in, Shapes.operand_of, Shapes.condition_of, Shapes.operand_shape, Shapes.condition_shape, Flat.grow_operand}
use Rattle.rules.specs.{Flat.flat_operand_at, Flat.grow_conditions, Flat.group as group_of, Flat.grow_condition, Flat.flat_condition_at}
use Rattle.table.specs.Reading as Reading
use Rattle.table.specs.{Outcome.accepts}

-- the shape of a node that is there
operand_node : (t ends : List ℕ) (i : ℕ) → i < most_nodes
    → operand_shape t ends i ≡ operand_of (kind_of (node_at t i).kind).operand (node_at t i) (i + 1) (end_in ends (i + 1))
unfolding operand_shape
operand_node t ends i low = rw (lt-leb most_nodes i low)

condition_node : (t ends : List ℕ) (i : ℕ) → i < most_nodes
    → condition_shape t ends i
    ≡ condition_of (kind_of (node_at t i).kind).condition (node_at t i) (i + 1) (end_in ends (i + 1)) (end_in ends (end_in ends (i + 1)))
unfolding condition_shape
condition_node t ends i low = rw (lt-leb most_nodes i low)

-- the series at a node, and what the operand there is as a series
series_there : (t : List ℕ) (e j : ℕ) → j < e → as_series (Reading.operand_at t e j) ≡ series_in t j
unfolding series_in
series_there t e j near = ap as_series (operand_is t e j near) ∙ series_read (node_at t j) _

module _ (t ends : List ℕ) (b e : ℕ) (whole : WholeTree t ends b e) where
  -- the word of a node of the tree, and where it leads
  pub end_is : (j : ℕ) → j < e → end_in ends j ≡ get_or ends j 0
  unfolding end_in
  end_is j l = rw (lt-ltb j most_nodes (omega (arith, whole.small)))

  link_at : (j : ℕ) → b ≤ j → j < e → Link t e j (get_or ends j 0)
  unfolding Linked
  link_at j lo hi = whole.links j lo hi

  -- the children of a node, by how many and of which sort its kind takes
  children : (i s left : ℕ) → Stands t e i 1 s (suc left) → b ≤ i → (k c : ℕ) → child_count_at t i ≡ k → child_sort_at t i ≡ c → Stands t e (i + 1) k c left
  children i s left here lo k c many sort =
      let less : suc left - 1 ≡ left = omega arith in
      rw (many, sort, less) at (stands_below t e i 0 s (suc left) here ends b whole lo)

  -- what the row of its kind says of a node's children
  below_by : (i s left : ℕ) (row : Kind) → Stands t e i 1 s (suc left) → b ≤ i → kind_of (node_at t i).kind ≡ row
      → Stands t e (i + 1) (child_count (node_at t i) row) row.below left
  unfolding child_count_at child_sort_at
  below_by i s left row here lo k =
      children i s left here lo (child_count (node_at t i) row) row.below (ap (child_count (node_at t i)) k) (ap (λ (r : Kind). r.below) k)

  -- one level of an operand, where the level below is joined
  operand_level : (left : ℕ) → ((i : ℕ) → Stands t e i 1 1 left → b ≤ i → flat_operand_at left t ends i ≡ Reading.operand_at t e i)
      → (i : ℕ) → Stands t e i 1 1 (suc left) → b ≤ i → OperandKind (node_at t i).kind
      → grow_operand (series_in t) (flat_operand_at left t ends) (operand_shape t ends i) ≡ Reading.operand_at t e i
  unfolding grow_operand operand_of operand_from operand_by child_count_at child_count
  operand_level left joined i here lo kind = rw (operand_node t ends i low, operand_is t e i there) (go kind)
    where
      there : i < e
      there = node_there t e i 0 1 (suc left) here

      low : i < most_nodes
      low = omega (arith, whole.small, there)

      go : OperandKind (node_at t i).kind
          → grow_operand (series_in t) (flat_operand_at left t ends) (operand_of (kind_of (node_at t i).kind).operand (node_at t i) (i + 1) (end_in ends (i + 1)))
          ≡ operand_from (node_at t i) (Reading.operands_at t e (i + 1) (child_count_at t i))
      go (a_const k row) = rw row
      go (a_ref k row) = rw row
      go (a_price k row) = rw row
      go (a_prev k row) =
          let one : Stands t e (i + 1) 1 1 left = below_by i 1 left _ here lo row in
          rw (row, joined (i + 1) one (omega arith), child_first t e (i + 1) 0)
      go (an_arith row) =
          let two : Stands t e (i + 1) 2 1 left = below_by i 1 left _ here lo row in
          let near : i + 1 < e = node_there t e (i + 1) 1 1 left two in
          let v : ℕ = get_or ends (i + 1) 0 in
          let link : Link t e (i + 1) v = link_at (i + 1) (omega arith) near in
          let first = joined (i + 1) (stands_one t e (i + 1) 1 1 left two) (omega arith) in
          let second = joined v (stands_next t e (i + 1) 1 1 left two v link) (omega (arith, link.beyond)) in
          rw (row, end_is (i + 1) near, first, second, child_first t e (i + 1) 1, child_next t e (i + 1) v link 1 0, child_first t e v 0)
      go (an_extreme row) =
          let one : Stands t e (i + 1) 1 1 left = below_by i 1 left _ here lo row in
          let near : i + 1 < e = node_there t e (i + 1) 0 1 left one in
          rw (row, child_first t e (i + 1) 0, series_there t e (i + 1) near)

  pub operand_joined : (left i : ℕ) → Stands t e i 1 1 left → b ≤ i → flat_operand_at left t ends i ≡ Reading.operand_at t e i
  unfolding flat_operand_at sort_at
  operand_joined zero i here lo = absurd (omega (arith, level_left t e i 0 1 0 here))
  operand_joined (suc left) i here lo =
      operand_level left (operand_joined left) i here lo (operand_kind (node_at t i).kind (sort_there t e i 0 1 (suc left) here))

  -- conditions one after the other, where each is joined
  conditions_joined : (left : ℕ) → ((i : ℕ) → Stands t e i 1 2 left → b ≤ i → flat_condition_at left t ends i ≡ Reading.condition_at t e i)
      → (n j : ℕ) → Stands t e j n 2 left → b ≤ j → grow_conditions (flat_condition_at left t ends) ends n j ≡ Reading.conditions_at t e j n
  unfolding grow_conditions
  conditions_joined left joined zero j here lo = sym (conditions-none t e j)
  conditions_joined left joined (suc n) j here lo =
      let there : j < e = node_there t e j n 2 left here in
      let link : Link t e j (get_or ends j 0) = link_at j lo there in
      rw (
        end_is j there,
        joined j (stands_one t e j n 2 left here) lo,
        conditions_joined left joined n (get_or ends j 0)
            (stands_next t e j n 2 left here (get_or ends j 0) link) (omega (arith, link.beyond)),
      ) (sym (conditions-more t e j (get_or ends j 0) link there n))

  -- one level of a condition, where the level below is joined
  condition_level : (left : ℕ) → ((i : ℕ) → Stands t e i 1 2 left → b ≤ i → flat_condition_at left t ends i ≡ Reading.condition_at t e i)
      → (i : ℕ) → Stands t e i 1 2 (suc left) → b ≤ i → ConditionKind (node_at t i).kind
      → grow_condition (flat_operand_at left t ends) (flat_condition_at left t ends) ends (condition_shape t ends i) ≡ Reading.condition_at t e i
  unfolding grow_condition group_of condition_of condition_from condition_by child_count_at child_count
  condition_level left joined i here lo kind = rw (condition_node t ends i low, condition_is t e i there) (go kind)
    where
      there : i < e
      there = node_there t e i 0 2 (suc left) here

      low : i < most_nodes
      low = omega (arith, whole.small, there)

      -- where the first child ends
      v : ℕ
      v = get_or ends (i + 1) 0

      link_first : (k : ℕ) → Stands t e (i + 1) (suc k) 1 left → Link t e (i + 1) v
      link_first k some = link_at (i + 1) (omega arith) (node_there t e (i + 1) k 1 left some)

      end_first : (k : ℕ) → Stands t e (i + 1) (suc k) 1 left → end_in ends (i + 1) ≡ v
      end_first k some = end_is (i + 1) (node_there t e (i + 1) k 1 left some)

      -- the first operand, the operands after it, and the second of them
      first : (k : ℕ) → Stands t e (i + 1) (suc k) 1 left → flat_operand_at left t ends (i + 1) ≡ Reading.operand_at t e (i + 1)
      first k some = operand_joined left (i + 1) (stands_one t e (i + 1) k 1 left some) (omega arith)

      rest : (k : ℕ) → Stands t e (i + 1) (suc k) 1 left → Stands t e v k 1 left
      rest k some = stands_next t e (i + 1) k 1 left some v (link_first k some)

      after : (k : ℕ) → Stands t e (i + 1) (suc k) 1 left → b ≤ v
      after k some = omega (arith, (link_first k some).beyond)

      second : (k : ℕ) → Stands t e (i + 1) (suc (suc k)) 1 left → flat_operand_at left t ends v ≡ Reading.operand_at t e v
      second k some = operand_joined left v (stands_one t e v k 1 left (rest (suc k) some)) (after (suc k) some)

      -- what the reading has for the second of k + 2 operands
      second_read : (k : ℕ) → Stands t e (i + 1) (suc (suc k)) 1 left
          → child (Reading.operands_at t e (i + 1) (suc (suc k))) 1 ≡ Reading.operand_at t e v
      second_read k some = child_next t e (i + 1) v (link_first (suc k) some) (suc k) 0 ∙ child_first t e v k

      below : (row : Kind) → kind_of (node_at t i).kind ≡ row → Stands t e (i + 1) (child_count (node_at t i) row) row.below left
      below row = below_by i 2 left row here lo

      go : ConditionKind (node_at t i).kind
          → grow_condition (flat_operand_at left t ends) (flat_condition_at left t ends) ends
          (condition_of (kind_of (node_at t i).kind).condition (node_at t i) (i + 1) (end_in ends (i + 1)) (end_in ends (end_in ends (i + 1))))
          ≡ condition_from (node_at t i) (Reading.operands_at t e (i + 1) (child_count_at t i)) (Reading.conditions_at t e (i + 1) (child_count_at t i))
      go (a_compare row) =
          let two : Stands t e (i + 1) 2 1 left = below _ row in
          rw (row, end_first 1 two, first 1 two, second 0 two, child_first t e (i + 1) 1, second_read 0 two)
      go (a_cross row) =
          let two : Stands t e (i + 1) 2 1 left = below _ row in
          rw (row, end_first 1 two, first 1 two, second 0 two, child_first t e (i + 1) 1, second_read 0 two)
      go (a_between k row) =
          let three : Stands t e (i + 1) 3 1 left = below _ row in
          let two : Stands t e v 2 1 left = rest 2 three in
          let near : v < e = node_there t e v 1 1 left two in
          let u : ℕ = get_or ends v 0 in
          let link : Link t e v u = link_at v (after 2 three) near in
          let third = operand_joined left u (stands_next t e v 1 1 left two u link) (omega (arith, link.beyond, after 2 three)) in
          let third_read : child (Reading.operands_at t e (i + 1) 3) 2 ≡ Reading.operand_at t e u =
          child_next t e (i + 1) v (link_first 2 three) 2 1 ∙ child_next t e v u link 1 0 ∙ child_first t e u 0 in
          rw (
            row,
            end_first 2 three,
            end_is v near,
            first 2 three,
            second 1 three,
            third,
            child_first t e (i + 1) 2,
            second_read 1 three,
            third_read,
          )
      go (a_trend row) =
          let one : Stands t e (i + 1) 1 1 left = below _ row in
          rw (row, first 0 one, child_first t e (i + 1) 0)
      go (an_all k row) = rw (row, conditions_joined left joined (node_at t i).children (i + 1) (below _ row) (omega arith))
      go (an_any k row) = rw (row, conditions_joined left joined (node_at t i).children (i + 1) (below _ row) (omega arith))
      go (a_not k row) = rw (row, joined (i + 1) (below _ row) (omega arith), condition_first t e (i + 1) 0)
      go (a_position k row) = rw row
      go (a_count k row) = rw row

  pub condition_joined : (left i : ℕ) → Stands t e i 1 2 left → b ≤ i → flat_condition_at left t ends i ≡ Reading.condition_at t e i
  unfolding flat_condition_at sort_at
  condition_joined zero i here lo = absurd (omega (arith, level_left t e i 0 2 0 here))
  condition_joined (suc left) i here lo =
      condition_level left (condition_joined left) i here lo (condition_kind (node_at t i).kind (sort_there t e i 0 2 (suc left) here))

-- THE JOIN: tree x of an accepted table, read at its root with 32 levels of nesting and the array beside the answer.
pub tree_joined : (t : List ℕ) (n r : ℕ) → checked t ≡ accepts n r → (x : ℕ) → x < 4 → 0 < count t x
    → flat_condition_at most_nesting t (ends_beside t) (root t x) ≡ tree_of t x
tree_joined t n r ok x l some =
    rw (ends_of t n r ok)
    (condition_joined t (ends_all t) (root t x) (root t (suc x)) (tree_whole t n r ok x l) most_nesting (root t x) (tree_stands t x n r ok l some) (omega arith)
    ∙ sym (tree_reads t x))
