-- What an accepted table is: every rule is kept, and what follows for each of its trees.
-- Assumes nothing.
use Rattle.std.specs.Prelude.{◌≡◌, refl, true, false, cond, List, [], ◌∷◌, ℕ, zero, suc, ◌+◌, ◌-◌, ◌≤◌, ◌<◌, get_or, ltb, Err, None, Option, Result, Some}
use Rattle.words.specs.Prelude.{sym, ◌∙◌, ap, subst, arith, eq-zero-or-pos}
use Rattle.words.specs.Prelude.{zero-add, add-zero, ⊎_elim, ne_eqb, lt-ltb, le-ltb}
use Rattle.words.specs.{Limits.most_reach, Limits.most_nesting, Limits.most_nodes, declared.refusal.Refusal.Refusal}
use Rattle.table.specs.{Header.newest_version, Header.total, Header.count, Header.root, Header.header_refusal, Nodes.node_right, Nodes.wrong_node, Order.fits}
use Rattle.table.specs.{Order.misfit, Order.misfits, Order.or_place, Order.of_four, Forest.trees, Forest.sorts, Forest.Sorted, Forest.forest_of}
use Rattle.table.specs.{Nesting.deeper, Nesting.too_deep, Reach.tree_reach, Reach.far_at, Reach.too_far, Reach.rows_needed, Checked.or_refused}
use Rattle.table.specs.{Checked.or_header, Checked.from9, Checked.from8, Checked.from7, Checked.checked_up_to, Checked.checked, Ends.end_at, Ends.end_of_node}
use Rattle.table.specs.{Ends.ends_all, Ends.ends_for, Ends.ends_beside, Ends.Link, Ends.Linked, Laws.Ends.from_at, Laws.Header.HeaderRight}
use Rattle.table.specs.{Laws.Header.header_right, Laws.Order.never_at, Laws.Order.test_held, Laws.Order.sorts-trees, Laws.Order.each, Laws.Order.link_end}
use Rattle.table.specs.{declared.answer.Accepted.Accepted}
use Rattle.table.specs.{Outcome.accepts}

-- ---- from the answer to the rules

refused_not : (why : Refusal) (n r : ℕ) → Err why ≡ accepts n r → ⊥
refused_not why n r h = let z : ◌≡◌ {A = ℕ} 0 1 = cc in omega arith

-- two answers that are one have the same numbers
accepts_same : (m q n r : ℕ) → accepts m q ≡ accepts n r → (n ≡ m) × (r ≡ q)
accepts_same m q n r h =
    let same : ◌≡◌ {A = Accepted} (record { nodes = n; rows = r }) (record { nodes = m; rows = q }) = cc h in
    (ap (λ (a : Accepted). a.nodes) same, ap (λ (a : Accepted). a.rows) same)

rule_kept : (rule : ℕ → Refusal) (n r : ℕ) (q : Option ℕ) (a : Result Accepted Refusal) → or_refused rule q a ≡ accepts n r → (q ≡ None) × (a ≡ accepts n r)
unfolding or_refused
rule_kept rule n r None a h = (refl, h)
rule_kept rule n r (Some p) a h = absurd (refused_not _ n r h)

header_kept : (header : Option Refusal) (n r : ℕ) (a : Result Accepted Refusal) → or_header header a ≡ accepts n r → (header ≡ None) × (a ≡ accepts n r)
unfolding or_header
header_kept None n r a h = (refl, h)
header_kept (Some why) n r a h = absurd (refused_not _ n r h)

-- Every rule is kept, and the answer's two numbers are those of the paper.
pub record RulesKept (t : List ℕ) (n r : ℕ) : Type 0 where
  pub header : header_refusal newest_version t ≡ None
  pub own : wrong_node t (total t) 0 ≡ None
  pub order : misfits t ≡ None
  pub nesting : too_deep t ≡ None
  pub reaches : too_far t ≡ None
  pub nodes : n ≡ total t
  pub rows : r ≡ rows_needed t

pub accepted : (t : List ℕ) (n r : ℕ) → checked t ≡ accepts n r → RulesKept t n r
unfolding checked checked_up_to from7 from8 from9
accepted t n r h =
    let h0 = header_kept (header_refusal newest_version t) n r _ h in
    let h6 = rule_kept Refusal.Node n r _ _ h0.1 in
    let h7 = rule_kept Refusal.Tree n r _ _ h6.1 in
    let h8 = rule_kept Refusal.Nesting n r _ _ h7.1 in
    let h9 = rule_kept Refusal.Reach n r _ _ h8.1 in
    let sizes = accepts_same _ _ n r h9.1 in
    record {
      header = h0.0;
      own = h6.0;
      order = h7.0;
      nesting = h8.0;
      reaches = h9.0;
      nodes = sizes.0;
      rows = sizes.1;
    }

-- and the other way round
pub all_kept : (t : List ℕ) (n r : ℕ) → RulesKept t n r → checked t ≡ accepts n r
unfolding checked checked_up_to or_header or_refused from7 from8 from9
all_kept t n r k = rw (k.header, k.own, k.order, k.nesting, k.reaches) (cc (k.nodes, k.rows))

-- ---- from the rules to each node and each tree

right_from : (t : List ℕ) (m i j : ℕ) → wrong_node t m i ≡ None → j < m → node_right t (i + j) ≡ true
unfolding wrong_node
right_from t zero i j h l = absurd (none_below l)
  where
    none_below : j < 0 → ⊥
    none_below l' = omega arith
right_from t (suc m) i zero h l = ap (node_right t) (add-zero i) ∙ (test_held (node_right t i) _ i h).0
right_from t (suc m) i (suc j) h l =
    let place : i + suc j ≡ i + 1 + j = omega arith in
    rw place (right_from t m (i + 1) j (test_held (node_right t i) _ i h).1 (omega arith))

pub or_none : (p q : Option ℕ) → or_place p q ≡ None → (p ≡ None) × (q ≡ None)
unfolding or_place
or_none None q h = (refl, h)
or_none (Some x) q h = absurd (never_at x h)

pub of_four_lem : (f : ℕ → Option ℕ) → of_four f ≡ None → (x : ℕ) → x < 4 → f x ≡ None
unfolding of_four
of_four_lem f h x l =
    let h0 = or_none (f 0) (or_place (f 1) (or_place (f 2) (f 3))) h in
    let h1 = or_none (f 1) (or_place (f 2) (f 3)) h0.1 in
    let h2 = or_none (f 2) (f 3) h1.1 in
    pick h0.0 h1.0 h2.0 h2.1 x l
  where
    pick : f 0 ≡ None → f 1 ≡ None → f 2 ≡ None → f 3 ≡ None → (x : ℕ) → x < 4 → f x ≡ None
    pick a b c d zero l = a
    pick a b c d (suc zero) l = b
    pick a b c d (suc (suc zero)) l = c
    pick a b c d (suc (suc (suc zero))) l = d
    pick a b c d (suc (suc (suc (suc x)))) l = absurd (none_left x l)
      where
        none_left : (x : ℕ) → suc (suc (suc (suc x))) < 4 → ⊥
        none_left x l = omega arith

-- The trees stand one after the other.
root_up : (t : List ℕ) (x : ℕ) → x < 4 → root t (suc x) ≤ root t 4
unfolding root
root_up t zero l = omega arith
root_up t (suc zero) l = omega arith
root_up t (suc (suc zero)) l = omega arith
root_up t (suc (suc (suc zero))) l = omega arith
root_up t (suc (suc (suc (suc x)))) l = absurd (none_left l)
  where
    none_left : suc (suc (suc (suc x))) < 4 → ⊥
    none_left l' = omega arith

-- Node j's word in the array is its end in the tree that it stands in.
pub ends_at : (t : List ℕ) (j : ℕ) → j < most_nodes → get_or (ends_all t) j 0 ≡ end_of_node t j
unfolding ends_all
ends_at t j h = from_at (end_of_node t) 0 most_nodes 0 j h ∙ ap (end_of_node t) (zero-add j)

end_in : (t : List ℕ) (x j : ℕ) → x < 4 → root t x ≤ j → j < root t (suc x) → end_of_node t j ≡ end_at t (root t (suc x) - j) j
unfolding end_of_node root
end_in t zero j l lo hi = simp (lt-ltb j (root t 1) hi)
end_in t (suc zero) j l lo hi = simp (le-ltb j (root t 1) lo, lt-ltb j (root t 2) hi)
end_in t (suc (suc zero)) j l lo hi =
    let h1 : ltb j (root t 1) ≡ false = le-ltb j (root t 1) (omega arith) in
    simp (h1, le-ltb j (root t 2) lo, lt-ltb j (root t 3) hi)
end_in t (suc (suc (suc zero))) j l lo hi =
    let h1 : ltb j (root t 1) ≡ false = le-ltb j (root t 1) (omega arith) in
    let h2 : ltb j (root t 2) ≡ false = le-ltb j (root t 2) (omega arith) in
    simp (h1, h2, le-ltb j (root t 3) lo, lt-ltb j (root t 4) hi)
end_in t (suc (suc (suc (suc x)))) j l lo hi = absurd (none_left l)
  where
    none_left : suc (suc (suc (suc x))) < 4 → ⊥
    none_left l' = omega arith

-- ---- an accepted table's trees

-- The nodes from b up to e, with the array of ends: each has right bytes and the children that its kind takes, and its word
-- leads past its subtree.
pub record WholeTree (t ends : List ℕ) (b e : ℕ) : Type 0 where
  pub small : e ≤ most_nodes
  pub links : Linked t ends b e
  pub sorted : (i : ℕ) → b ≤ i → i < e → Sorted (trees t (e - i) i)
  pub own : (i : ℕ) → b ≤ i → i < e → node_right t i ≡ true

module _ (t : List ℕ) (n r : ℕ) (ok : checked t ≡ accepts n r) where
  kept : RulesKept t n r
  kept = accepted t n r ok

  pub header_of_lem : HeaderRight newest_version t
  header_of_lem = header_right newest_version t kept.header

  pub node_of : (i : ℕ) → i < total t → node_right t i ≡ true
  node_of i l = subst (λ (k : ℕ). node_right t k ≡ true) (zero-add i) (right_from t (total t) 0 i kept.own l)

  -- the array beside the answer is the subtree ends
  pub ends_of : ends_beside t ≡ ends_all t
  unfolding ends_beside ends_for
  ends_of = rw ok

  module _ (x : ℕ) (l : x < 4) where
    pub tree_ends : root t (suc x) ≤ total t
    unfolding root
    tree_ends = omega (arith, root_up t x l, header_of_lem.sums)

    pub tree_nesting : deeper most_nesting (forest_of t x) ≡ None
    unfolding too_deep
    tree_nesting = of_four_lem (λ y. deeper most_nesting (forest_of t y)) kept.nesting x l

    pub tree_reach_lem : tree_reach t x ≤ most_reach
    unfolding too_far far_at
    tree_reach_lem = near (tree_reach t x) (root t x) (of_four_lem (λ y. far_at (tree_reach t y) (root t y)) kept.reaches x l)
      where
        near : (far b : ℕ) → cond (ltb most_reach far) (Some b) None ≡ None → far ≤ most_reach
        near far b h =
            ⊎_elim (λ z. omega arith) (λ z. absurd (never_at b (sym (rw (lt-ltb most_reach far (omega arith))) ∙ h))) (eq-zero-or-pos (far - most_reach))

    -- a tree that is there is one condition
    tree_fits : 0 < count t x → fits t (count t x) (root t x) (2 ∷ []) ≡ None
    unfolding misfits misfit
    tree_fits some = simp (ne_eqb (count t x) 0 (λ z. omega arith)) at (of_four_lem (λ y. misfit t (count t y) (root t y)) kept.order x l)

    pub tree_sorts : 0 < count t x → (sorts (forest_of t x) ≡ 2 ∷ []) × Sorted (forest_of t x)
    unfolding forest_of
    tree_sorts some = sorts-trees t (count t x) (root t x) (2 ∷ []) (tree_fits some)

    -- its nodes, from its root up to the next tree's
    region : 0 < count t x → fits t (root t (suc x) - root t x) (root t x) (2 ∷ []) ≡ None
    unfolding root
    region some =
        let many : root t x + count t x - root t x ≡ count t x = omega arith in
        rw many (tree_fits some)

    some_nodes : (i : ℕ) → root t x ≤ i → i < root t (suc x) → 0 < count t x
    unfolding root
    some_nodes i lo hi = omega arith

    pub tree_whole : WholeTree t (ends_all t) (root t x) (root t (suc x))
    unfolding Linked
    tree_whole = record {
      small = omega (arith, tree_ends, header_of_lem.most);
      links =
          λ j lo hi. subst (λ (v : ℕ). Link t (root t (suc x)) j v) (sym (ends_at t j (low j hi) ∙ end_in t x j l lo hi))
          (link_end t (root t x) (root t (suc x)) j (2 ∷ []) (region (some_nodes j lo hi)) lo hi);
      sorted = λ i lo hi. sorted_at i lo hi;
      own = λ i lo hi. node_of i (omega (arith, tree_ends));
    }
      where
        low : (j : ℕ) → j < root t (suc x) → j < most_nodes
        low j hi = omega (arith, tree_ends, header_of_lem.most)

        sorted_at : (i : ℕ) → root t x ≤ i → i < root t (suc x) → Sorted (trees t (root t (suc x) - i) i)
        sorted_at i lo hi =
            let g = each t (root t (suc x) - root t x) (root t x) (i - root t x) (2 ∷ []) (region (some_nodes i lo hi)) (omega arith) in
            let less : root t (suc x) - root t x - (i - root t x) ≡ root t (suc x) - i = omega arith in
            let place : root t x + (i - root t x) ≡ i = omega arith in
            (sorts-trees t (root t (suc x) - i) i _ (rw (less, place) at g.1)).1
