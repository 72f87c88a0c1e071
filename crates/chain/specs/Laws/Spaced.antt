-- The array of subtree ends numbers an accepted table's nodes as the table does: past a subtree come as many numbers as it has
-- nodes. Assumes nothing.
use Rattle.std.specs.Prelude.{ℕ, zero, suc, ◌+◌, ◌-◌, ◌≤◌, ◌<◌, ◌≡◌, true, List}
use Rattle.words.specs.Prelude.{sym, ap, subst, ◌∙◌, true≢false, arith, lt-leb}
use Rattle.table.specs.{declared.kinds.Kind.Kind, Kinds.kind_of, Kinds.is_series, Kinds.extremum}
use Rattle.table.specs.{Laws.Kinds.OperandKind, Laws.Kinds.a_const, Laws.Kinds.a_ref, Laws.Kinds.a_price, Laws.Kinds.a_prev, Laws.Kinds.an_arith}
use Rattle.table.specs.{Laws.Kinds.an_extreme, Laws.Kinds.operand_kind, Laws.Kinds.ConditionKind, Laws.Kinds.a_compare, Laws.Kinds.a_cross}
use Rattle.table.specs.{Laws.Kinds.a_between, Laws.Kinds.a_trend, Laws.Kinds.an_all, Laws.Kinds.an_any, Laws.Kinds.a_not, Laws.Kinds.a_position}
use Rattle.table.specs.{Laws.Kinds.a_count, Laws.Kinds.condition_kind, Header.count, Header.root, Nodes.node_at, Nodes.sort_at, Nodes.child_count}
use Rattle.table.specs.{Nodes.child_count_at, Nodes.child_sort_at, Nodes.child_fits, Forest.Forest, Forest.first_trees, Forest.other_trees, Forest.node_over}
use Rattle.table.specs.{Forest.trees, Forest.size, Forest.Fitting, Forest.Sorted, Checked.checked, Ends.ends_all, Ends.ends_beside, Ends.Link, Ends.Linked}
use Rattle.table.specs.{Series.series_in, Reading.tree_of, Trees.Operand, Trees.const, Trees.ref, Trees.price, Trees.prev, Trees.arith as sums, Trees.extreme}
use Rattle.table.specs.{Trees.Condition, Trees.Conditions, Trees.compare, Trees.cross, Trees.between, Trees.trend, Trees.every, Trees.any, Trees.negated}
use Rattle.table.specs.{Trees.in_position, Trees.bars_since, Trees.none, Trees.more, Writing.nodes_in, Writing.nodes_of, Writing.nodes_of_all, Laws.Forest.left_suc}
use Rattle.table.specs.{Laws.Forest.first_none, Laws.Accepted.WholeTree, Laws.Accepted.tree_whole, Laws.Accepted.ends_of}
use Rattle.roundtrip.specs.{Laws.Walking.Stands, Laws.Walking.node_there, Laws.Walking.sort_there, Laws.Walking.level_left, Laws.Walking.stands_one}
use Rattle.roundtrip.specs.{Laws.Walking.stands_next, Laws.Walking.stands_below, Laws.Walking.tree_stands}
use Rattle.rules.specs.{Shapes.end_in, Shapes.operand_of, Shapes.condition_of, Shapes.operand_shape, Shapes.condition_shape, Flat.grow_operand, Flat.flat_operand_at}
use Rattle.rules.specs.{Flat.grow_conditions, Flat.group, Flat.grow_condition, Flat.flat_condition_at, Laws.FlatReading.end_is, Laws.FlatReading.tree_joined}
use Rattle.table.specs.{Outcome.accepts}

-- The array leads from each node of a tree, the first one number i, over as many numbers as stand below it.
unfoldable pub SpacedIn : List ℕ → Operand → ℕ → Type 0
SpacedIn ends (const bits) i = end_in ends i ≡ i + 1
SpacedIn ends (ref slot) i = end_in ends i ≡ i + 1
SpacedIn ends (price selector) i = end_in ends i ≡ i + 1
SpacedIn ends (prev a n) i = (end_in ends i ≡ i + (1 + nodes_in a)) × SpacedIn ends a (i + 1)
SpacedIn ends (sums kind a b) i =
    (end_in ends i ≡ i + (1 + nodes_in a + nodes_in b)) × SpacedIn ends a (i + 1) × SpacedIn ends b (i + 1 + nodes_in a)
SpacedIn ends (extreme kind s n) i = end_in ends i ≡ i + 2

unfoldable mutual
  pub Spaced : List ℕ → Condition → ℕ → Type 0
  Spaced ends (compare kind a b) i =
      (end_in ends i ≡ i + (1 + nodes_in a + nodes_in b)) × SpacedIn ends a (i + 1) × SpacedIn ends b (i + 1 + nodes_in a)
  Spaced ends (cross kind a b) i =
      (end_in ends i ≡ i + (1 + nodes_in a + nodes_in b)) × SpacedIn ends a (i + 1) × SpacedIn ends b (i + 1 + nodes_in a)
  Spaced ends (between x low high) i =
      (end_in ends i ≡ i + (1 + nodes_in x + nodes_in low + nodes_in high)) × SpacedIn ends x (i + 1) × SpacedIn ends low (i + 1 + nodes_in x)
      × SpacedIn ends high (i + 1 + nodes_in x + nodes_in low)
  Spaced ends (trend kind a n) i = (end_in ends i ≡ i + (1 + nodes_in a)) × SpacedIn ends a (i + 1)
  Spaced ends (every cs) i = (end_in ends i ≡ i + (1 + nodes_of_all cs)) × SpacedAll ends cs (i + 1)
  Spaced ends (any cs) i = (end_in ends i ≡ i + (1 + nodes_of_all cs)) × SpacedAll ends cs (i + 1)
  Spaced ends (negated c) i = (end_in ends i ≡ i + (1 + nodes_of c)) × Spaced ends c (i + 1)
  Spaced ends (in_position wanted) i = end_in ends i ≡ i + 1
  Spaced ends (bars_since selector k) i = end_in ends i ≡ i + 1

  pub SpacedAll : List ℕ → Conditions → ℕ → Type 0
  SpacedAll ends none j = Unit
  SpacedAll ends (more c cs) j = Spaced ends c j × SpacedAll ends cs (j + nodes_of c)

module _ (ends : List ℕ) where
  pub operand_end : (a : Operand) (i : ℕ) → SpacedIn ends a i → end_in ends i ≡ i + nodes_in a
  unfolding SpacedIn nodes_in
  operand_end (const bits) i p = p
  operand_end (ref slot) i p = p
  operand_end (price selector) i p = p
  operand_end (prev a n) i p = p.0
  operand_end (sums kind a b) i p = p.0
  operand_end (extreme kind s n) i p = p

  pub condition_end : (c : Condition) (i : ℕ) → Spaced ends c i → end_in ends i ≡ i + nodes_of c
  unfolding Spaced nodes_of
  condition_end (compare kind a b) i p = p.0
  condition_end (cross kind a b) i p = p.0
  condition_end (between x low high) i p = p.0
  condition_end (trend kind a n) i p = p.0
  condition_end (every cs) i p = p.0
  condition_end (any cs) i p = p.0
  condition_end (negated c) i p = p.0
  condition_end (in_position wanted) i p = p
  condition_end (bars_since selector k) i p = p

  -- past k subtrees, the first at node j
  unfoldable pub past : ℕ → ℕ → ℕ
  past zero j = j
  past (suc k) j = past k (end_in ends j)

-- ---- how many nodes a row of trees has

size_two : (k : ℕ) (f : Forest) → size (first_trees (suc k) f) ≡ size (first_trees 1 f) + size (first_trees k (other_trees 1 f))
unfolding size first_trees other_trees
size_two k Forest.none = rw (first_none k)
size_two k (Forest.tree n below rest) = omega arith

module _ (t ends : List ℕ) (b e : ℕ) (whole : WholeTree t ends b e) where
  many : ℕ → ℕ → ℕ
  many j k = size (first_trees k (trees t (e - j) j))

  link_at : (j : ℕ) → b ≤ j → j < e → Link t e j (end_in ends j)
  unfolding Linked
  link_at j lo hi = rw (end_is t ends b e whole j hi) (whole.links j lo hi)

  -- past the trees of a row come as many numbers as the row has nodes
  row_end : (k s left j : ℕ) → Stands t e j k s left → b ≤ j → past ends k j ≡ j + many j k
  unfolding past many size first_trees
  row_end zero s left j here lo = omega arith
  row_end (suc k) s left j here lo =
      let link = link_at j lo (node_there t e j k s left here) in
      row_end k s left (end_in ends j) (stands_next t e j k s left here (end_in ends j) link) (omega (arith, link.beyond))
      ∙ omega (arith, link.counts, size_two k (trees t (e - j) j), ap (λ (f : Forest). size (first_trees k f)) link.next)

  -- the end of a node's subtree is the end of its last child's, or the next node
  over_children : (i s left : ℕ) → Stands t e i 1 s left → b ≤ i → end_in ends i ≡ past ends (child_count_at t i) (i + 1)
  unfolding many size first_trees trees node_over
  over_children i s left here lo =
      let there = node_there t e i 0 s left here in
      let row = row_end (child_count_at t i) (child_sort_at t i) (left - 1) (i + 1) (stands_below t e i 0 s left here ends b whole lo) (omega arith) in
      omega (arith, rw (left_suc e i there) at (link_at i lo there).counts, row)

  -- what the row of its kind says of a node's children
  below_by : (i s left : ℕ) (row : Kind) → Stands t e i 1 s (suc left) → b ≤ i → kind_of (node_at t i).kind ≡ row
      → Stands t e (i + 1) (child_count (node_at t i) row) row.below left × (end_in ends i ≡ past ends (child_count (node_at t i) row) (i + 1))
  unfolding child_count_at child_sort_at
  below_by i s left row here lo k =
      let less : suc left - 1 ≡ left = omega arith in
      let number : child_count_at t i ≡ child_count (node_at t i) row = ap (child_count (node_at t i)) k in
      let sort : child_sort_at t i ≡ row.below = ap (λ (r : Kind). r.below) k in
      (rw (number, sort, less) at (stands_below t e i 0 s (suc left) here ends b whole lo), rw number at (over_children i s (suc left) here lo))

  -- an operand further on in a row, by where it stands
  moved : (a : Operand) (v j : ℕ) → v ≡ j → SpacedIn ends a v → SpacedIn ends a j
  moved a v j e p = rw e at p

  -- "one child that must be a Price or a Ref" (request 8): so it has no child of its own
  series_below : (i : ℕ) → b ≤ i → i < e → i + 1 < e → kind_of (node_at t i).kind ≡ extremum → is_series (kind_of (node_at t (i + 1)).kind).series ≡ true
  unfolding Sorted Fitting trees node_over first_trees child_fits child_count_at child_count
  series_below i lo there near row =
      let own = rw (left_suc e i there, left_suc e (i + 1) near, row) at (whole.sorted i lo there) in
      rw row at own.3

  no_child : (k : ℕ) → OperandKind (node_at t k).kind → is_series (kind_of (node_at t k).kind).series ≡ true → child_count_at t k ≡ 0
  unfolding child_count_at child_count
  no_child k (a_const e r) is = absurd (true≢false (sym (rw r at is)))
  no_child k (a_ref e r) is = rw r
  no_child k (a_price e r) is = rw r
  no_child k (a_prev e r) is = absurd (true≢false (sym (rw r at is)))
  no_child k (an_arith r) is = absurd (true≢false (sym (rw r at is)))
  no_child k (an_extreme r) is = absurd (true≢false (sym (rw r at is)))

  -- one level of an operand, where the level below is spaced
  operand_level : (left : ℕ) → ((i : ℕ) → Stands t e i 1 1 left → b ≤ i → SpacedIn ends (flat_operand_at left t ends i) i)
      → (i : ℕ) → Stands t e i 1 1 (suc left) → b ≤ i → OperandKind (node_at t i).kind
      → SpacedIn ends (grow_operand (series_in t) (flat_operand_at left t ends) (operand_shape t ends i)) i
  unfolding grow_operand operand_shape operand_of child_count past SpacedIn
  operand_level left below i here lo kind = rw (lt-leb 256 i (omega (arith, whole.small, node_there t e i 0 1 (suc left) here))) (go kind)
    where
      go : OperandKind (node_at t i).kind
          → SpacedIn ends (grow_operand (series_in t) (flat_operand_at left t ends)
          (operand_of (kind_of (node_at t i).kind).operand (node_at t i) (i + 1) (end_in ends (i + 1)))) i
      go (a_const k row) = rw row (below_by i 1 left _ here lo row).1
      go (a_ref k row) = rw row (below_by i 1 left _ here lo row).1
      go (a_price k row) = rw row (below_by i 1 left _ here lo row).1
      go (a_prev k row) =
          let one = below_by i 1 left _ here lo row in
          let a = below (i + 1) one.0 (omega arith) in
          rw row (omega (arith, one.1, operand_end ends (flat_operand_at left t ends (i + 1)) (i + 1) a), a)
      go (an_arith row) =
          let two = below_by i 1 left _ here lo row in
          let link = link_at (i + 1) (omega arith) (node_there t e (i + 1) 1 1 left two.0) in
          let a = below (i + 1) (stands_one t e (i + 1) 1 1 left two.0) (omega arith) in
          let c = below (end_in ends (i + 1)) (stands_next t e (i + 1) 1 1 left two.0 (end_in ends (i + 1)) link) (omega (arith, link.beyond)) in
          let first = operand_end ends (flat_operand_at left t ends (i + 1)) (i + 1) a in
          let second = operand_end ends (flat_operand_at left t ends (end_in ends (i + 1))) (end_in ends (i + 1)) c in
          rw row (omega (arith, two.1, first, second), a, moved (flat_operand_at left t ends (end_in ends (i + 1))) (end_in ends (i + 1)) _ first c)
      go (an_extreme row) =
          let one = below_by i 1 left _ here lo row in
          let near = node_there t e (i + 1) 0 1 left one.0 in
          let is = series_below i lo (node_there t e i 0 1 (suc left) here) near row in
          let leaf = no_child (i + 1) (operand_kind (node_at t (i + 1)).kind (unfold sort_at in sort_there t e (i + 1) 0 1 left one.0)) is in
          rw row (omega (arith, one.1, rw leaf at (over_children (i + 1) 1 left one.0 (omega arith))))

  operand_spaced : (left i : ℕ) → Stands t e i 1 1 left → b ≤ i → SpacedIn ends (flat_operand_at left t ends i) i
  unfolding flat_operand_at sort_at
  operand_spaced zero i here lo = absurd (omega (arith, level_left t e i 0 1 0 here))
  operand_spaced (suc left) i here lo =
      operand_level left (operand_spaced left) i here lo (operand_kind (node_at t i).kind (sort_there t e i 0 1 (suc left) here))

  -- conditions one after the other, where each is spaced
  conditions_spaced : (left : ℕ) → ((i : ℕ) → Stands t e i 1 2 left → b ≤ i → Spaced ends (flat_condition_at left t ends i) i)
      → (n j : ℕ) → Stands t e j n 2 left → b ≤ j
      → SpacedAll ends (grow_conditions (flat_condition_at left t ends) ends n j) j
      × (past ends n j ≡ j + nodes_of_all (grow_conditions (flat_condition_at left t ends) ends n j))
  unfolding grow_conditions SpacedAll nodes_of_all past
  conditions_spaced left below zero j here lo = (tt, omega arith)
  conditions_spaced left below (suc n) j here lo =
      let link = link_at j lo (node_there t e j n 2 left here) in
      let c = below j (stands_one t e j n 2 left here) lo in
      let first = condition_end ends (flat_condition_at left t ends j) j c in
      let rest = conditions_spaced left below n (end_in ends j) (stands_next t e j n 2 left here (end_in ends j) link) (omega (arith, link.beyond)) in
      ((c, subst (SpacedAll ends (grow_conditions (flat_condition_at left t ends) ends n (end_in ends j))) first rest.0), omega (arith, rest.1, first))

  -- one level of a condition, where the level below is spaced
  condition_level : (left : ℕ) → ((i : ℕ) → Stands t e i 1 2 left → b ≤ i → Spaced ends (flat_condition_at left t ends i) i)
      → (i : ℕ) → Stands t e i 1 2 (suc left) → b ≤ i → ConditionKind (node_at t i).kind
      → Spaced ends (grow_condition (flat_operand_at left t ends) (flat_condition_at left t ends) ends (condition_shape t ends i)) i
  unfolding grow_condition group condition_shape condition_of child_count past Spaced
  condition_level left below i here lo kind = rw (lt-leb 256 i (omega (arith, whole.small, node_there t e i 0 2 (suc left) here))) (go kind)
    where
      -- the first operand below the node, and the second
      first : (k : ℕ) → Stands t e (i + 1) (suc k) 1 left → SpacedIn ends (flat_operand_at left t ends (i + 1)) (i + 1)
      first k some = operand_spaced left (i + 1) (stands_one t e (i + 1) k 1 left some) (omega arith)

      link_first : (k : ℕ) → Stands t e (i + 1) (suc k) 1 left → Link t e (i + 1) (end_in ends (i + 1))
      link_first k some = link_at (i + 1) (omega arith) (node_there t e (i + 1) k 1 left some)

      rest : (k : ℕ) → Stands t e (i + 1) (suc k) 1 left → Stands t e (end_in ends (i + 1)) k 1 left
      rest k some = stands_next t e (i + 1) k 1 left some (end_in ends (i + 1)) (link_first k some)

      second : (k : ℕ) → Stands t e (i + 1) (suc (suc k)) 1 left → SpacedIn ends (flat_operand_at left t ends (end_in ends (i + 1))) (end_in ends (i + 1))
      second k some =
          operand_spaced left (end_in ends (i + 1)) (stands_one t e (end_in ends (i + 1)) k 1 left (rest (suc k) some))
          (omega (arith, (link_first (suc k) some).beyond))

      -- two operands below the node
      pair : Stands t e (i + 1) 2 1 left → end_in ends i ≡ end_in ends (end_in ends (i + 1))
          → (end_in ends i ≡ i + (1 + nodes_in (flat_operand_at left t ends (i + 1)) + nodes_in (flat_operand_at left t ends (end_in ends (i + 1)))))
          × SpacedIn ends (flat_operand_at left t ends (i + 1)) (i + 1)
          × SpacedIn ends (flat_operand_at left t ends (end_in ends (i + 1))) (i + 1 + nodes_in (flat_operand_at left t ends (i + 1)))
      pair two over =
          let a = first 1 two in
          let c = second 0 two in
          let at = operand_end ends (flat_operand_at left t ends (i + 1)) (i + 1) a in
          let then = operand_end ends (flat_operand_at left t ends (end_in ends (i + 1))) (end_in ends (i + 1)) c in
          (omega (arith, over, at, then), a, moved (flat_operand_at left t ends (end_in ends (i + 1))) (end_in ends (i + 1)) _ at c)

      go : ConditionKind (node_at t i).kind
          → Spaced ends (grow_condition (flat_operand_at left t ends) (flat_condition_at left t ends) ends
          (condition_of (kind_of (node_at t i).kind).condition (node_at t i) (i + 1) (end_in ends (i + 1)) (end_in ends (end_in ends (i + 1))))) i
      go (a_compare row) = let two = below_by i 2 left _ here lo row in rw row (pair two.0 two.1)
      go (a_cross row) = let two = below_by i 2 left _ here lo row in rw row (pair two.0 two.1)
      go (a_between k row) =
          let three = below_by i 2 left _ here lo row in
          let two = rest 2 three.0 in
          let x = first 2 three.0 in
          let low = second 1 three.0 in
          let at = operand_end ends (flat_operand_at left t ends (i + 1)) (i + 1) x in
          let near = (link_first 2 three.0).beyond in
          let link = link_at (end_in ends (i + 1)) (omega (arith, near)) (node_there t e (end_in ends (i + 1)) 1 1 left two) in
          let w = end_in ends (end_in ends (i + 1)) in
          let high = operand_spaced left w (stands_next t e (end_in ends (i + 1)) 1 1 left two w link) (omega (arith, link.beyond, near)) in
          let then = operand_end ends (flat_operand_at left t ends (end_in ends (i + 1))) (end_in ends (i + 1)) low in
          rw row (
            omega (arith, three.1, at, then, operand_end ends (flat_operand_at left t ends w) w high),
            x,
            moved (flat_operand_at left t ends (end_in ends (i + 1))) (end_in ends (i + 1)) _ at low,
            moved (flat_operand_at left t ends w) w _ (omega (arith, at, then)) high,
          )
      go (a_trend row) =
          let one = below_by i 2 left _ here lo row in
          let a = first 0 one.0 in
          rw row (omega (arith, one.1, operand_end ends (flat_operand_at left t ends (i + 1)) (i + 1) a), a)
      go (an_all k row) =
          let all = below_by i 2 left _ here lo row in
          let cs = conditions_spaced left below (node_at t i).children (i + 1) all.0 (omega arith) in
          rw row (omega (arith, all.1, cs.1), cs.0)
      go (an_any k row) =
          let all = below_by i 2 left _ here lo row in
          let cs = conditions_spaced left below (node_at t i).children (i + 1) all.0 (omega arith) in
          rw row (omega (arith, all.1, cs.1), cs.0)
      go (a_not k row) =
          let one = below_by i 2 left _ here lo row in
          let c = below (i + 1) one.0 (omega arith) in
          rw row (omega (arith, one.1, condition_end ends (flat_condition_at left t ends (i + 1)) (i + 1) c), c)
      go (a_position k row) = rw row (below_by i 2 left _ here lo row).1
      go (a_count k row) = rw row (below_by i 2 left _ here lo row).1

  condition_spaced : (left i : ℕ) → Stands t e i 1 2 left → b ≤ i → Spaced ends (flat_condition_at left t ends i) i
  unfolding flat_condition_at sort_at
  condition_spaced zero i here lo = absurd (omega (arith, level_left t e i 0 2 0 here))
  condition_spaced (suc left) i here lo =
      condition_level left (condition_spaced left) i here lo (condition_kind (node_at t i).kind (sort_there t e i 0 2 (suc left) here))

-- THE NUMBERS: in a tree of an accepted table each child's number, found with the array beside the answer, is the number past the
-- nodes before it.
pub tree_spaced : (t : List ℕ) (n r : ℕ) → checked t ≡ accepts n r → (x : ℕ) → x < 4 → 0 < count t x → Spaced (ends_beside t) (tree_of t x) (root t x)
tree_spaced t n r ok x l some =
    rw (← tree_joined t n r ok x l some, ends_of t n r ok)
    (condition_spaced t (ends_all t) (root t x) (root t (suc x)) (tree_whole t n r ok x l) 32 (root t x) (tree_stands t x n r ok l some) (omega arith))
