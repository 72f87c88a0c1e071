-- The nodes of a tree that is written in a table grow the tree's forest.
-- Assumes nothing.
use Rattle.std.specs.Prelude.{◌≡◌, refl, List, ◌++◌, ℕ, suc, ◌+◌, length, replicate}
use Rattle.words.specs.Prelude.{sym, ◌∙◌, ap, append_assoc, arith, length-replicate}
use Rattle.table.specs.{declared.nodes.Node.Node, declared.header.Form.Form, Kinds.kind_of, Nodes.node_at, Nodes.child_count, Nodes.child_count_at, Forest.Forest}
use Rattle.table.specs.{Forest.first_trees, Forest.other_trees, Forest.node_over, Forest.trees, Forest.size, Forest.flat, Forest.sorts, Forest.Sorted}
use Rattle.table.specs.{Trees.Condition, Limits.WithinOf, Writing.node_bytes, Writing.nodes_bytes, Writing.write_condition, Writing.nodes_of}
use Rattle.roundtrip.specs.{Laws.NodeBytes.tree_bytes, Laws.NodeBytes.forest_long, Laws.WrittenForest.nd, Laws.WrittenForest.plant_of}
use Rattle.roundtrip.specs.{Laws.WrittenForest.NumberedFrom, Laws.WrittenForest.condition_nodes, Laws.WrittenForest.condition_bytes}
use Rattle.roundtrip.specs.{Laws.WrittenForestKept.sorted_of, Laws.WrittenNodes.From, Laws.WrittenNodes.node_there, Laws.WrittenNodes.nodes_after}
use Rattle.roundtrip.specs.{Laws.WrittenNodes.from_past}

-- ---- trees in a row, and others after them

unfoldable and_then : Forest → Forest → Forest
and_then Forest.none g = g
and_then (Forest.tree n below rest) g = Forest.tree n below (and_then rest g)

then_first : (f g : Forest) → first_trees (length (sorts f)) (and_then f g) ≡ f
unfolding sorts first_trees and_then
then_first Forest.none g = refl
then_first (Forest.tree n below rest) g = ap (Forest.tree n below) (then_first rest g)

then_other : (f g : Forest) → other_trees (length (sorts f)) (and_then f g) ≡ g
unfolding sorts other_trees and_then
then_other Forest.none g = refl
then_other (Forest.tree n below rest) g = then_other rest g

then_none : (f : Forest) → and_then f Forest.none ≡ f
unfolding and_then
then_none Forest.none = refl
then_none (Forest.tree n below rest) = ap (Forest.tree n below) (then_none rest)

-- a node over as many as it takes
over_below : (n : Node) (k s : ℕ) (below rest : Forest) → sorts below ≡ replicate k s → node_over n k (and_then below rest) ≡ Forest.tree n below rest
unfolding node_over
over_below n k s below rest row =
    let many : k ≡ length (sorts below) = sym (ap length row ∙ length-replicate k s) in
    rw (many, then_first below rest, then_other below rest)

-- ---- where their bytes stand

regroup : (a b c l : List ℕ) → a ++ b ++ c ++ l ≡ a ++ (b ++ (c ++ l))
regroup a b c l = simp append_assoc

grown : (t : List ℕ) (i all m : ℕ) (n : Node) → node_at t i ≡ n → all ≡ suc m
    → trees t all i ≡ node_over n (child_count n (kind_of n.kind)) (trees t m (i + 1))
unfolding trees child_count_at
grown t i all m n there long = rw (long, there)

module _ (t : List ℕ) where
  node_at_lem : (n : Node) (i : ℕ) (l : List ℕ) → n.number ≡ i → From t i (node_bytes n ++ l) → node_at t i ≡ n
  unfolding node_bytes
  node_at_lem n i l number h =
      node_there t i n.kind n.selector n.children n.n n.constant l h
      ∙ ap (λ (j : ℕ). nd j n.kind n.selector n.children n.n n.constant) (sym number)

  after_node : (n : Node) (i : ℕ) (l : List ℕ) → From t i (node_bytes n ++ l) → From t (i + 1) l
  unfolding node_bytes
  after_node n i l h = nodes_after t i n.kind n.selector n.children n.n n.constant l h

  -- Nodes that are numbered from i on and have the children that their kinds take: where their bytes stand, they grow.
  grows : (f : Forest) (i m : ℕ) (l : List ℕ) → NumberedFrom i f → Sorted f → From t i (nodes_bytes (flat f) ++ l)
      → trees t (size f + m) i ≡ and_then f (trees t m (i + size f))
  unfolding NumberedFrom Sorted size and_then
  grows Forest.none i m l numbers kept h =
      let none_more : 0 + m ≡ m = omega arith in
      let place : i ≡ i + 0 = omega arith in
      ap (λ (x : ℕ). trees t x i) none_more ∙ ap (trees t m) place
  grows (Forest.tree n below rest) i m l numbers kept h =
      let k = child_count n (kind_of n.kind) in
      let g : From t i (node_bytes n ++ (nodes_bytes (flat below) ++ (nodes_bytes (flat rest) ++ l))) =
      h ∙ ap (λ (bs : List ℕ). bs ++ l) (tree_bytes n below rest) ∙ regroup (node_bytes n) (nodes_bytes (flat below)) (nodes_bytes (flat rest)) l in
      let g1 = after_node n i _ g in
      let g2 = from_past t (i + 1) (size below) (nodes_bytes (flat below)) (nodes_bytes (flat rest) ++ l) (forest_long below) g1 in
      let at_rest : i + 1 + size below ≡ i + (1 + size below) = omega arith in
      let place : i + (1 + size below) + size rest ≡ i + (1 + size below + size rest) = omega arith in
      grown t i _ (size below + (size rest + m)) n (node_at_lem n i _ numbers.0 g) (omega arith)
      ∙ ap (node_over n k)
      (grows below (i + 1) (size rest + m) (nodes_bytes (flat rest) ++ l) numbers.1 kept.1 g1
      ∙ ap (and_then below)
      (ap (trees t (size rest + m)) at_rest ∙ grows rest (i + (1 + size below)) m l numbers.2 kept.2 (rw at_rest at g2)))
      ∙ over_below n k _ below _ kept.0
      ∙ ap (λ (j : ℕ). Forest.tree n below (and_then rest (trees t m j))) place

pub grows_of : (t : List ℕ) (form : Form) (c : Condition) (i : ℕ) (l : List ℕ) → WithinOf form c → From t i (write_condition c ++ l)
    → trees t (nodes_of c) i ≡ plant_of i c Forest.none
unfolding NumberedFrom Sorted size trees
grows_of t form c i l w h =
    let f = plant_of i c Forest.none in
    let p = condition_nodes c i Forest.none in
    let many : nodes_of c ≡ size f + 0 = omega (arith, p.many) in
    ap (λ (m : ℕ). trees t m i) many
    ∙ grows t f i 0 l (p.numbers tt) (sorted_of form c i Forest.none w tt) (h ∙ ap (λ (bs : List ℕ). bs ++ l) (sym (condition_bytes c i)))
    ∙ then_none f
