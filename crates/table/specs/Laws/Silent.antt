-- The silent tests among the nodes of a forest, one node after another. Assumes nothing.
use Rattle.std.specs.Prelude.{ℕ, zero, suc, ◌+◌, ◌-◌, ◌≤◌, ◌<◌, max, ◌≡◌, refl, List, [], ◌++◌}
use Rattle.words.specs.Prelude.{ap, ◌∙◌, append_assoc, arith}
use Rattle.table.specs.{Nodes.node_at, Nodes.child_count_at, Forest.Forest, Forest.first_trees, Forest.other_trees, Forest.node_over, Forest.trees}
use Rattle.table.specs.{Reach.own_back, Reach.weigh, Laws.Forest.left_suc, Silent.silent_node, Silent.silent_nodes}

module _ (d : ℕ) where
  in_two : (k : ℕ) (f : Forest) → silent_nodes d (first_trees k f) ++ silent_nodes d (other_trees k f) ≡ silent_nodes d f
  unfolding silent_nodes first_trees other_trees
  in_two zero f = refl
  in_two (suc k) Forest.none = refl
  in_two (suc k) (Forest.tree n below rest) =
      let own = silent_node d n (own_back n + weigh own_back below) in
      append_assoc own (silent_nodes d below ++ silent_nodes d (first_trees k rest)) (silent_nodes d (other_trees k rest))
      ∙ ap (λ (l : List ℕ). own ++ l) (append_assoc (silent_nodes d below) (silent_nodes d (first_trees k rest)) (silent_nodes d (other_trees k rest)))
      ∙ ap (λ (l : List ℕ). own ++ (silent_nodes d below ++ l)) (in_two k rest)

  -- the node at i, and those after it
  pub next_node : (t : List ℕ) (e i : ℕ) → i < e
      → silent_nodes d (trees t (e - i) i)
      ≡ silent_node d (node_at t i) (weigh own_back (first_trees 1 (trees t (e - i) i))) ++ silent_nodes d (trees t (e - (i + 1)) (i + 1))
  unfolding silent_nodes trees node_over weigh first_trees
  next_node t e i h =
      let k = child_count_at t i in
      let after = trees t (e - (i + 1)) (i + 1) in
      let heavy : max (own_back (node_at t i) + weigh own_back (first_trees k after)) 0 ≡ own_back (node_at t i) + weigh own_back (first_trees k after) = omega arith in
      rw (left_suc e i h, heavy, in_two k after)

  pub no_node : (t : List ℕ) (e i : ℕ) → e ≤ i → silent_nodes d (trees t (e - i) i) ≡ []
  unfolding silent_nodes trees
  no_node t e i h = let z : e - i ≡ 0 = omega arith in rw z
