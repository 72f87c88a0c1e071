-- Laws for whoever walks an accepted table's trees with its array of ends: what stands below a node and after it, and what it
-- reads as. `WholeTree` is of Accepted, `tree_whole` gives it for each tree of an accepted table.
-- Assumes nothing.
use Rattle.std.specs.Prelude.{◌≡◌, refl, List, [], ◌∷◌, ℕ, zero, suc, ◌+◌, ◌-◌, ◌≤◌, ◌<◌, replicate, None}
use Rattle.words.specs.Prelude.{sym, ◌∙◌, ap, arith, eq-zero-or-pos, ⊎_elim}
use Rattle.words.specs.{Limits.most_nesting}
use Rattle.table.specs.{declared.nodes.Node.Node, Header.count}
use Rattle.table.specs.{Header.root, Nodes.node_at, Nodes.sort_at, Nodes.child_count_at, Nodes.child_sort_at, Order.or_place, Forest.Forest, Forest.forest_of}
use Rattle.table.specs.{Forest.first_trees, Forest.other_trees, Forest.node_over, Forest.trees, Forest.sorts, Forest.Sorted, Nesting.deeper, Checked.checked}
use Rattle.table.specs.{Ends.Link, Trees.none, Trees.more, Reading.tree_of, Reading.child, Reading.operand_from, Reading.operands, Reading.first_of}
use Rattle.table.specs.{Reading.condition_from, Reading.conditions, Reading.operands_at, Reading.conditions_at, Reading.operand_at, Reading.condition_at}
use Rattle.table.specs.{Laws.Forest.left_suc, Laws.Forest.left_zero, Laws.Forest.first_none, Laws.Order.never_at, Laws.Accepted.or_none}
use Rattle.table.specs.{Laws.Accepted.WholeTree, Laws.Accepted.tree_sorts, Laws.Accepted.tree_nesting}
use Rattle.table.specs.{Outcome.accepts}

-- ---- what stands where

-- k trees of sort s stand at node j, none of them deeper than l levels
pub record Stands (t : List ℕ) (e j k s l : ℕ) : Type 0 where
  pub sorted : sorts (first_trees k (trees t (e - j) j)) ≡ replicate k s
  pub shallow : deeper l (first_trees k (trees t (e - j) j)) ≡ None

-- the node at i, over its children, and the trees after it
node_first : (t : List ℕ) (e i : ℕ) → i < e
    → trees t (e - i) i ≡ node_over (node_at t i) (child_count_at t i) (trees t (e - (i + 1)) (i + 1))
unfolding trees
node_first t e i h = rw (left_suc e i h)

no_trees : (t : List ℕ) (e j : ℕ) → e ≤ j → trees t (e - j) j ≡ Forest.none
unfolding trees
no_trees t e j h = rw (left_zero e j h)

no_sort : (k s : ℕ) → sorts (first_trees (suc k) Forest.none) ≡ replicate (suc k) s → ⊥
unfolding sorts first_trees
no_sort k s h = let z : ◌≡◌ {A = ℕ} 0 1 = cc in omega arith

deep_two : (l k : ℕ) (f : Forest) → deeper l (first_trees (suc k) f) ≡ None
    → (deeper l (first_trees 1 f) ≡ None) × (deeper l (first_trees k (other_trees 1 f)) ≡ None)
unfolding deeper first_trees other_trees or_place
deep_two l k Forest.none h = (refl, ap (deeper l) (first_none k))
deep_two zero k (Forest.tree n below rest) h = absurd (never_at n.number h)
deep_two (suc l) k (Forest.tree n below rest) h =
    let g = or_none (deeper l below) (deeper (suc l) (first_trees k rest)) h in
    (rw g.0, g.1)

sorts_two : (k s : ℕ) (f : Forest) → sorts (first_trees (suc k) f) ≡ replicate (suc k) s
    → (sorts (first_trees 1 f) ≡ replicate 1 s) × (sorts (first_trees k (other_trees 1 f)) ≡ replicate k s)
unfolding sorts first_trees other_trees
sorts_two k s Forest.none h = absurd (no_sort k s h)
sorts_two k s (Forest.tree n below rest) h = (cc, cc)

deep_below : (l : ℕ) (n : Node) (f g : Forest) → deeper l (Forest.tree n f g) ≡ None → (0 < l) × (deeper (l - 1) f ≡ None)
unfolding deeper
deep_below zero n f g h = absurd (never_at n.number h)
deep_below (suc l) n f g h =
    let same : suc l - 1 ≡ l = omega arith in
    (omega arith, rw same (or_none (deeper l f) (deeper (suc l) g) h).0)

module _ (t : List ℕ) (e j k s l : ℕ) (here : Stands t e j (suc k) s l) where
  pub node_there : j < e
  node_there = ⊎_elim
      (λ z. absurd (no_sort k s (ap (λ (f : Forest). sorts (first_trees (suc k) f)) (sym (no_trees t e j (omega arith))) ∙ here.sorted)))
      (λ z. omega arith)
      (eq-zero-or-pos (e - j))

  split : trees t (e - j) j ≡ node_over (node_at t j) (child_count_at t j) (trees t (e - (j + 1)) (j + 1))
  split = node_first t e j node_there

  pub sort_there : sort_at t j ≡ s
  unfolding sorts first_trees node_over sort_at
  sort_there =
      let h : sorts (first_trees (suc k) (node_over (node_at t j) (child_count_at t j) (trees t (e - (j + 1)) (j + 1)))) ≡ replicate (suc k) s = ap
      (λ (f : Forest). sorts (first_trees (suc k) f)) (sym split) ∙ here.sorted in cc

  -- the first of them by itself
  pub stands_one : Stands t e j 1 s l
  stands_one = record { sorted = (sorts_two k s _ here.sorted).0; shallow = (deep_two l k _ here.shallow).0 }

  -- the others, past the first one's end
  pub stands_next : (v : ℕ) → Link t e j v → Stands t e v k s l
  stands_next v link = record {
    sorted = ap (λ (f : Forest). sorts (first_trees k f)) (sym link.next) ∙ (sorts_two k s _ here.sorted).1;
    shallow = ap (λ (f : Forest). deeper l (first_trees k f)) (sym link.next) ∙ (deep_two l k _ here.shallow).1;
  }

  below_two : (0 < l) × (deeper (l - 1) (first_trees (child_count_at t j) (trees t (e - (j + 1)) (j + 1))) ≡ None)
  unfolding first_trees node_over
  below_two = deep_below l _ _ _ (ap (λ (f : Forest). deeper l (first_trees (suc k) f)) (sym split) ∙ here.shallow)

  pub level_left : 0 < l
  level_left = below_two.0

  -- the children of the first one
  pub stands_below : (ends : List ℕ) (b : ℕ) → WholeTree t ends b e → b ≤ j → Stands t e (j + 1) (child_count_at t j) (child_sort_at t j) (l - 1)
  unfolding Sorted node_over child_count_at child_sort_at
  stands_below ends b w lo = record {
    sorted = (rw split at (w.sorted j lo node_there)).0;
    shallow = below_two.1;
  }

-- ---- what a row of trees reads as, one tree at a time

first_operand : (k : ℕ) (f : Forest) → child (operands (first_trees (suc k) f)) 0 ≡ child (operands (first_trees 1 f)) 0
unfolding operands first_trees
first_operand k Forest.none = refl
first_operand k (Forest.tree n below rest) = refl

next_operand : (k m : ℕ) (f : Forest) → child (operands (first_trees (suc k) f)) (suc m) ≡ child (operands (first_trees k (other_trees 1 f))) m
unfolding operands first_trees other_trees
next_operand k m Forest.none = ap (λ (f : Forest). child (operands f) m) (sym (first_none k))
next_operand k m (Forest.tree n below rest) = refl

first_condition : (k : ℕ) (f : Forest) → first_of (conditions (first_trees (suc k) f)) ≡ first_of (conditions (first_trees 1 f))
unfolding conditions first_trees first_of
first_condition k Forest.none = refl
first_condition k (Forest.tree n below rest) = refl

module _ (t : List ℕ) (e j : ℕ) where
  pub child_first : (k : ℕ) → child (operands_at t e j (suc k)) 0 ≡ operand_at t e j
  unfolding operands_at operand_at
  child_first k = first_operand k (trees t (e - j) j)

  pub condition_first : (k : ℕ) → first_of (conditions_at t e j (suc k)) ≡ condition_at t e j
  unfolding conditions_at condition_at
  condition_first k = first_condition k (trees t (e - j) j)

  pub conditions-none : conditions_at t e j 0 ≡ none
  unfolding conditions_at conditions first_trees
  conditions-none = refl

  module _ (v : ℕ) (link : Link t e j v) where
    pub child_next : (k m : ℕ) → child (operands_at t e j (suc k)) (suc m) ≡ child (operands_at t e v k) m
    unfolding operands_at
    child_next k m = next_operand k m (trees t (e - j) j) ∙ ap (λ (f : Forest). child (operands (first_trees k f)) m) link.next

    pub conditions-more : j < e → (k : ℕ) → conditions_at t e j (suc k) ≡ more (condition_at t e j) (conditions_at t e v k)
    unfolding conditions_at condition_at conditions first_of first_trees other_trees node_over
    conditions-more h k = rw (sym link.next, node_first t e j h)

-- ---- what a node reads as, over what is below it

module _ (t : List ℕ) (e i : ℕ) (h : i < e) where
  pub operand_is : operand_at t e i ≡ operand_from (node_at t i) (operands_at t e (i + 1) (child_count_at t i))
  unfolding operand_at operands_at operands first_trees node_over
  operand_is = rw (node_first t e i h)

  pub condition_is : condition_at t e i
      ≡ condition_from (node_at t i) (operands_at t e (i + 1) (child_count_at t i)) (conditions_at t e (i + 1) (child_count_at t i))
  unfolding condition_at conditions_at operands_at conditions first_of first_trees node_over
  condition_is = rw (node_first t e i h)

-- ---- where a walk begins: tree x, at its root

only_tree : (f : Forest) (s : ℕ) → sorts f ≡ s ∷ [] → first_trees 1 f ≡ f
unfolding sorts first_trees
only_tree Forest.none s h = absurd never
  where
    never : ⊥
    never = let z : ◌≡◌ {A = ℕ} 0 1 = cc in omega arith
only_tree (Forest.tree n below Forest.none) s h = refl
only_tree (Forest.tree n below (Forest.tree n' below' rest)) s h = absurd never
  where
    never : ⊥
    never = let z : ◌≡◌ {A = ℕ} 0 1 = cc in omega arith

first_is : (f : Forest) → first_of (conditions f) ≡ first_of (conditions (first_trees 1 f))
unfolding conditions first_trees first_of
first_is Forest.none = refl
first_is (Forest.tree n below rest) = refl

module _ (t : List ℕ) (x : ℕ) where
  nodes_of : root t (suc x) - root t x ≡ count t x
  unfolding root
  nodes_of = omega arith

  pub tree_reads : tree_of t x ≡ condition_at t (root t (suc x)) (root t x)
  unfolding tree_of forest_of condition_at conditions_at
  tree_reads = rw nodes_of (first_is (trees t (count t x) (root t x)))

  pub tree_stands : (n r : ℕ) → checked t ≡ accepts n r → x < 4 → 0 < count t x → Stands t (root t (suc x)) (root t x) 1 2 most_nesting
  unfolding forest_of
  tree_stands n r ok l some =
      let g = tree_sorts t n r ok x l some in
      let one = only_tree (trees t (count t x) (root t x)) 2 g.0 in
      record { sorted = rw (nodes_of, one) g.0; shallow = rw (nodes_of, one) (tree_nesting t n r ok x l) }
