-- The places of a table's refusals: a node's number, or just past the last one, and so at most 256.
use Rattle.std.specs.Prelude.{ℕ, zero, suc, ◌+◌, ◌≤◌, Bool, true, false, cond, List, [], ◌∷◌, ltb, eqb, None, Option, Some}
use Rattle.words.specs.Prelude.{arith}
use Rattle.words.specs.{Limits.most_reach, Limits.most_nesting, Limits.most_nodes}
use Rattle.table.specs.{Header.newest_version}
use Rattle.table.specs.{Header.total, Header.count, Header.root, Nodes.node_at, Nodes.node_right, Nodes.wrong_node, Nodes.sort_at, Nodes.child_count_at}
use Rattle.table.specs.{Nodes.child_fits_at, Order.fits, Order.misfit, Order.or_place, Order.of_four, Order.misfits, Forest.Forest, Forest.none, Forest.tree}
use Rattle.table.specs.{Forest.first_trees, Forest.other_trees, Forest.node_over, Forest.trees, Forest.forest_of, Nesting.deeper, Nesting.too_deep, Reach.tree_reach}
use Rattle.table.specs.{Reach.far_at, Reach.too_far, Laws.Header.HeaderRight}

-- a place, where there is one, is at most n
unfoldable pub UpTo : ℕ → Option ℕ → Type 0
UpTo n None = Unit
UpTo n (Some p) = p ≤ n

-- of two that a test chooses between, each is
either : (n : ℕ) (b : Bool) (q r : Option ℕ) → UpTo n q → UpTo n r → UpTo n (cond b q r)
either n true q r u v = u
either n false q r u v = v

-- ---- rule 6

wrong_node_lem : (t : List ℕ) (n m i : ℕ) → i + m ≤ n → UpTo n (wrong_node t m i)
unfolding wrong_node UpTo
wrong_node_lem t n zero i h = tt
wrong_node_lem t n (suc m) i h = either n (node_right t i) (wrong_node t m (i + 1)) (Some i) (wrong_node_lem t n m (i + 1) (omega arith)) (omega arith)

-- ---- rule 7

no_fit : (t : List ℕ) (n m i : ℕ) (ws : List ℕ) → i + m ≤ n → UpTo n (fits t m i ws)
unfolding fits UpTo
no_fit t n zero i [] h = tt
no_fit t n zero i (w ∷ ws) h = omega arith
no_fit t n (suc m) i [] h = omega arith
no_fit t n (suc m) i (w ∷ ws) h =
    either n (eqb (sort_at t i) w) _ (Some i)
    (either n (child_fits_at t i) _ (Some (i + 1)) (no_fit t n m (i + 1) _ (omega arith)) (omega arith)) (omega arith)

misfit_place : (t : List ℕ) (n m b : ℕ) → b + m ≤ n → UpTo n (misfit t m b)
unfolding misfit UpTo
misfit_place t n m b h = either n (eqb m 0) None _ tt (no_fit t n m b _ h)

-- ---- rule 8

-- the numbers of all nodes
unfoldable Numbers : ℕ → Forest → Type 0
Numbers n none = Unit
Numbers n (tree x below rest) = (x.number ≤ n) × Numbers n below × Numbers n rest

first_numbers : (n k : ℕ) (f : Forest) → Numbers n f → Numbers n (first_trees k f)
unfolding Numbers first_trees
first_numbers n zero f h = tt
first_numbers n (suc k) none h = tt
first_numbers n (suc k) (tree x below rest) h = (h.0, h.1, first_numbers n k rest h.2)

other_numbers : (n k : ℕ) (f : Forest) → Numbers n f → Numbers n (other_trees k f)
unfolding Numbers other_trees
other_numbers n zero f h = h
other_numbers n (suc k) none h = tt
other_numbers n (suc k) (tree x below rest) h = other_numbers n k rest h.2

tree_numbers : (t : List ℕ) (n m i : ℕ) → i + m ≤ n → Numbers n (trees t m i)
unfolding Numbers trees node_over node_at
tree_numbers t n zero i h = tt
tree_numbers t n (suc m) i h =
    let after = tree_numbers t n m (i + 1) (omega arith) in
    (omega arith, first_numbers n (child_count_at t i) _ after, other_numbers n (child_count_at t i) _ after)

first_of : (n : ℕ) (q r : Option ℕ) → UpTo n q → UpTo n r → UpTo n (or_place q r)
unfolding or_place
first_of n None r u v = v
first_of n (Some p) r u v = u

deep_place : (n l : ℕ) (f : Forest) → Numbers n f → UpTo n (deeper l f)
unfolding Numbers deeper UpTo
deep_place n l none h = tt
deep_place n zero (tree x below rest) h = h.0
deep_place n (suc l) (tree x below rest) h =
    first_of n (deeper l below) (deeper (suc l) rest) (deep_place n l below h.1) (deep_place n (suc l) rest h.2)

-- ---- rule 9

far_place : (n r b : ℕ) → b ≤ n → UpTo n (far_at r b)
unfolding far_at UpTo
far_place n r b h = either n (ltb most_reach r) (Some b) None h tt

-- ---- the four trees of a table whose header is right

of_four_lem : (n : ℕ) (f : ℕ → Option ℕ) → UpTo n (f 0) → UpTo n (f 1) → UpTo n (f 2) → UpTo n (f 3) → UpTo n (of_four f)
unfolding of_four
of_four_lem n f a b c d = first_of n (f 0) _ a (first_of n (f 1) _ b (first_of n (f 2) _ c d))

module _ (t : List ℕ) (h : HeaderRight newest_version t) where
  -- each tree's nodes are among the table's
  ends : (root t 0 + count t 0 ≤ most_nodes) × (root t 1 + count t 1 ≤ most_nodes) × (root t 2 + count t 2 ≤ most_nodes) × (root t 3 + count t 3 ≤ most_nodes)
  unfolding root
  ends = (omega (arith, h.sums, h.most), omega (arith, h.sums, h.most), omega (arith, h.sums, h.most), omega (arith, h.sums, h.most))

  pub wrong_within : UpTo most_nodes (wrong_node t (total t) 0)
  wrong_within = wrong_node_lem t most_nodes (total t) 0 (omega (arith, h.most))

  pub misfits_within : UpTo most_nodes (misfits t)
  unfolding misfits
  misfits_within =
      of_four_lem most_nodes (λ x. misfit t (count t x) (root t x))
      (misfit_place t _ _ _ ends.0) (misfit_place t _ _ _ ends.1) (misfit_place t _ _ _ ends.2) (misfit_place t _ _ _ ends.3)

  pub deep_within : UpTo most_nodes (too_deep t)
  unfolding too_deep
  deep_within = of_four_lem most_nodes (λ x. deeper most_nesting (forest_of t x)) (one 0 ends.0) (one 1 ends.1) (one 2 ends.2) (one 3 ends.3)
    where
      one : (x : ℕ) → root t x + count t x ≤ most_nodes → UpTo most_nodes (deeper most_nesting (forest_of t x))
      one x l = deep_place most_nodes most_nesting (forest_of t x) (unfold forest_of in tree_numbers t most_nodes (count t x) (root t x) l)

  pub far_within : UpTo most_nodes (too_far t)
  unfolding too_far
  far_within =
      of_four_lem most_nodes (λ x. far_at (tree_reach t x) (root t x))
      (far_place _ _ _ (omega (arith, ends.0))) (far_place _ _ _ (omega (arith, ends.1)))
      (far_place _ _ _ (omega (arith, ends.2))) (far_place _ _ _ (omega (arith, ends.3)))
