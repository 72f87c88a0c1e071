-- The tests that the code finds silent are those of the trees; and a table has none over as many rows as it needs. Assumes nothing.
use Rattle.std.specs.Prelude.{ℕ, suc, ◌+◌, ◌-◌, ◌*◌, ◌≤◌, ◌<◌, min, zero, ◌≡◌, refl, Bool, true, false, cond, List, [], ◌∷◌, ◌++◌, leb, length, get_or, drop}
use Rattle.std.specs.Prelude.{replicate}
use Rattle.words.specs.Prelude.{sym, ap, ◌∙◌, append_assoc}
use Rattle.words.specs.Prelude.{append-nil, ⊎_elim, arith, eq-zero-or-pos, drop_at, lt-leb, leb-false}
use Rattle.words.specs.{Limits.most_rows, Limits.most_reach}
use Rattle.table.specs.{declared.nodes.Node.Node, declared.header.Form.Form, Header.count, Header.root}
use Rattle.table.specs.{Forest.Forest, Forest.trees, Forest.forest_of, Forest.sorts, Forest.Sorted, Reach.own_back, Reach.weigh, Checked.checked, Ends.from}
use Rattle.table.specs.{Trees.reach_of, Trees.reach_of_all, Trees.Condition, Trees.Conditions, Trees.compare, Trees.cross, Trees.between, Trees.trend, Trees.every}
use Rattle.table.specs.{Trees.any, Trees.negated, Trees.in_position, Trees.bars_since, Trees.none, Trees.more, Reading.first_of, Reading.conditions}
use Rattle.table.specs.{Reading.tree_of, Writing.write_condition, Writing.nodes_of, Limits.WithinOf, Limits.WithinAll, Laws.Ends.from_long, Laws.Ends.from_two}
use Rattle.table.specs.{Laws.Ends.from_all, Laws.Accepted.header_of_lem, Laws.Accepted.tree_ends, Bytes.Bytes, Silent.is_test, Silent.silent, Silent.if_silent}
use Rattle.table.specs.{Silent.silent_in, Silent.silent_in_all, Silent.silent_of, Silent.silent_tests, Silent.silent_node, Silent.silent_nodes, Silent.four_silent}
use Rattle.table.specs.{declared.kinds.Kind.Kind, Kinds.kinds, Kinds.kind_of, Kinds.is_test_kind, Nodes.child_count}
use Rattle.roundtrip.specs.{Laws.Reach.rows_are, Laws.AcceptedWritten.byte, Laws.AcceptedWritten.nodes_back, Laws.AcceptedWritten.tree_written}
use Rattle.roundtrip.specs.{Laws.AcceptedWritten.tree_nodes, Laws.WrittenForest.plant_of, Laws.WrittenForest.plant_all, Laws.WrittenNodes.From}
use Rattle.roundtrip.specs.{Laws.WrittenGrows.grows_of, Laws.WrittenTrees.given_reach, Laws.AcceptedWithin.tree_within, Laws.Reading.operands_below}
use Rattle.roundtrip.specs.{Laws.WrittenForestKept.sorted_of}
use Rattle.table.specs.Header as Header
use Rattle.table.specs.{Outcome.accepts}

-- ---- the forest of a tree

-- an operand is no test
no_test : (k : ℕ) → (kind_of k).sort ≡ 1 → is_test_kind k ≡ false
unfolding is_test_kind
no_test k sort = rw sort

-- and a kind is one where its row says so
row_test : (k : ℕ) (row : Kind) → kind_of k ≡ row → row.sort ≡ 2 → row.below ≡ 1 → is_test_kind k ≡ true
unfolding is_test_kind
row_test k row e sort below = rw (e, sort, below)

module _ (d : ℕ) (form : Form) where
  -- there is no test among operands
  operands_none : (f : Forest) (m : ℕ) → Sorted f → sorts f ≡ replicate m 1 → silent_nodes d f ≡ []
  unfolding Sorted sorts silent_nodes silent_node
  operands_none Forest.none m kept row = refl
  operands_none (Forest.tree n below rest) zero kept row = absurd (let z : ◌≡◌ {A = ℕ} 0 1 = cc in omega arith)
  operands_none (Forest.tree n below rest) (suc m) kept row =
      let sort : (kind_of n.kind).sort ≡ 1 = cc in
      let others : sorts rest ≡ replicate m 1 = cc in
      let under = operands_below n below sort kept.0 in
      rw (
        no_test n.kind sort,
        operands_none below (child_count n (kind_of n.kind)) kept.1 under.0,
        operands_none rest m kept.2 others,
      )

  -- a test is found where it is silent
  test_found : (c : Condition) (n : Node) (back : ℕ) → is_test c ≡ true → is_test_kind n.kind ≡ true → back ≡ reach_of c → reach_of c ≤ most_reach
      → silent_node d n back ≡ if_silent d c n.number
  unfolding silent_node if_silent silent
  test_found c n back is kind same near =
      let uncut : min (reach_of c) most_rows ≡ reach_of c = omega (arith, near) in
      rw (kind, same, uncut, is)

  -- a node of a test, over m operands
  test_tree : (c : Condition) (n : Node) (below rest : Forest) (m : ℕ) → is_test c ≡ true → is_test_kind n.kind ≡ true
      → weigh own_back (Forest.tree n below Forest.none) ≡ reach_of c → reach_of c ≤ most_reach → Sorted (Forest.tree n below Forest.none)
      → replicate (child_count n (kind_of n.kind)) (kind_of n.kind).below ≡ replicate m 1
      → silent_nodes d (Forest.tree n below rest) ≡ if_silent d c n.number ++ silent_nodes d rest
  unfolding silent_nodes weigh Sorted
  test_tree c n below rest m is kind heavy near kept row =
      rw (test_found c n (own_back n + weigh own_back below) is kind (omega (arith, heavy)) near, operands_none below m kept.1 (kept.0 ∙ row))

  mutual
    unfolding plant_of silent_nodes silent_node silent_in is_test is_test_kind reach_of WithinOf Sorted child_count kind_of kinds

    -- a tree's nodes, and what follows them
    planted : (c : Condition) (i : ℕ) (rest : Forest) → WithinOf form c → reach_of c ≤ most_reach
        → silent_nodes d (plant_of i c rest) ≡ silent_in d c i ++ silent_nodes d rest
    planted (compare kind a b) i rest w near =
        let c = compare kind a b in
        test_tree c _ _ rest 2 refl (row_test kind _ w.0 refl refl) (given_reach form c i w) near (sorted_of form c i Forest.none w tt) (rw w.0)
    planted (cross kind a b) i rest w near =
        let c = cross kind a b in
        test_tree c _ _ rest 2 refl (row_test kind _ w.0 refl refl) (given_reach form c i w) near (sorted_of form c i Forest.none w tt) (rw w.0)
    planted (between x a b) i rest w near =
        let c = between x a b in
        test_tree c _ _ rest 3 refl (row_test 24 _ refl refl refl) (given_reach form c i w) near (sorted_of form c i Forest.none w tt) refl
    planted (trend kind a k) i rest w near =
        let c = trend kind a k in
        test_tree c _ _ rest 1 refl (row_test kind _ w.0 refl refl) (given_reach form c i w) near (sorted_of form c i Forest.none w tt) (rw w.0)
    planted (every cs) i rest w near = rw (planted_all cs (i + 1) Forest.none w near, append-nil (silent_in_all d cs (i + 1)))
    planted (any cs) i rest w near = rw (planted_all cs (i + 1) Forest.none w near, append-nil (silent_in_all d cs (i + 1)))
    planted (negated c) i rest w near = rw (planted c (i + 1) Forest.none w near, append-nil (silent_in d c (i + 1)))
    planted (in_position wanted) i rest w near = refl
    planted (bars_since selector n) i rest w near = refl

    planted_all : (cs : Conditions) (i : ℕ) (rest : Forest) → WithinAll form cs → reach_of_all cs ≤ most_reach
        → silent_nodes d (plant_all i cs rest) ≡ silent_in_all d cs i ++ silent_nodes d rest
    planted_all none i rest w near = refl
    planted_all (more c cs) i rest w near =
        planted c i (plant_all (i + nodes_of c) cs rest) w.0 (omega arith)
        ∙ rw (planted_all cs (i + nodes_of c) rest w.1 (omega arith))
        (sym (append_assoc (silent_in d c i) (silent_in_all d cs (i + nodes_of c)) (silent_nodes d rest)))

-- ---- the trees of an accepted table

module _ (t : List ℕ) (small : Bytes t) (n r : ℕ) (ok : checked t ≡ accepts n r) where
  -- bytes from a place on, as numbers one after the other
  bytes_from : (at : ℕ) → at ≤ length t → drop at t ≡ from (λ i. get_or t i 0) (length t - at) at
  bytes_from at le =
      let f : ℕ → ℕ = λ i. get_or t i 0 in
      let whole : at + (length t - at) ≡ length t = omega arith in
      let parts : t ≡ from f at 0 ++ from f (length t - at) at =
      sym (from_all t) ∙ ap (λ (m : ℕ). from f m 0) (sym whole) ∙ from_two f at (length t - at) 0
      ∙ ap (λ (j : ℕ). from f at 0 ++ from f (length t - at) j) (omega arith) in
      ap (drop at) parts ∙ drop_at (from f at 0) (from f (length t - at) at) at (from_long f at 0)

  -- the bytes from a tree's root on begin with those of the tree
  tree_bytes : (x : ℕ) → x < 4 → 0 < count t x → From t (root t x) (write_condition (tree_of t x) ++ drop (16 + 16 * root t (suc x)) t)
  unfolding root byte
  tree_bytes x l some =
      let f : ℕ → ℕ = λ i. get_or t i 0 in
      let m = count t x in
      let i = root t x in
      let fits : root t (suc x) ≤ Header.total t = tree_ends t n r ok x l in
      let long : length t ≡ 16 + 16 * Header.total t = (header_of_lem t n r ok).long in
      let rest : length t - (16 + 16 * i) ≡ 16 * m + (length t - (16 + 16 * (i + m))) = omega arith in
      let on : 16 + 16 * i + 16 * m ≡ 16 + 16 * (i + m) = omega arith in
      let own : write_condition (tree_of t x) ≡ from f (16 * m) (16 + 16 * i) = tree_written t n r ok x l some ∙ nodes_back t small m i in
      bytes_from (16 + 16 * i) (omega arith)
      ∙ ap (λ (j : ℕ). from f j (16 + 16 * i)) rest
      ∙ from_two f (16 * m) (length t - (16 + 16 * (i + m))) (16 + 16 * i)
      ∙ rw (on, own, bytes_from (16 + 16 * (i + m)) (omega arith))

  no_tree : (d x : ℕ) → count t x ≡ 0 → silent_nodes d (forest_of t x) ≡ silent_of t d x
  unfolding forest_of trees silent_nodes silent_of tree_of conditions first_of silent_in
  no_tree d x z = rw z

  a_tree : (d x : ℕ) → x < 4 → 0 < count t x → silent_nodes d (forest_of t x) ≡ silent_of t d x
  unfolding forest_of trees silent_nodes silent_of
  a_tree d x l some =
      let c = tree_of t x in
      let w = tree_within t small n r ok x l some in
      ap (λ (m : ℕ). silent_nodes d (trees t m (root t x))) (sym (tree_nodes t n r ok x l some))
      ∙ ap (silent_nodes d) (grows_of t (Header.form_of t) c (root t x) _ w.fields (tree_bytes x l some))
      ∙ planted d (Header.form_of t) c (root t x) Forest.none w.fields w.reaches
      ∙ append-nil (silent_in d c (root t x))

  silent_tree : (d x : ℕ) → x < 4 → silent_nodes d (forest_of t x) ≡ silent_of t d x
  silent_tree d x l = ⊎_elim (no_tree d x) (a_tree d x l) (eq-zero-or-pos (count t x))

  -- THE NODES that the code finds are the silent tests of the four trees, in table order.
  pub silent_found : (d : ℕ) → four_silent t d ≡ silent_tests t d
  unfolding four_silent silent_tests
  silent_found d =
      rw (
        silent_tree d 0 (omega arith),
        silent_tree d 1 (omega arith),
        silent_tree d 2 (omega arith),
        silent_tree d 3 (omega arith),
      )

-- ---- none

both_none : (xs ys : List ℕ) → xs ++ ys ≡ [] → (xs ≡ []) × (ys ≡ [])
both_none [] ys e = (refl, e)
both_none (x ∷ xs) ys e = absurd (let z : ◌≡◌ {A = ℕ} 0 1 = cc in omega arith)

module _ (d : ℕ) (some : 0 < d) where
  -- A test is not listed where it reaches back fewer bars than there are rows, and only there;
  not_listed : (c : Condition) (i : ℕ) → is_test c ≡ true → (reach_of c < d → if_silent d c i ≡ []) × (if_silent d c i ≡ [] → reach_of c < d)
  unfolding if_silent silent
  not_listed c i is = (λ l. rw (is, lt-leb d (reach_of c) l), λ e. go (leb d (reach_of c)) refl (rw is at e))
    where
      go : (b : Bool) → leb d (reach_of c) ≡ b → cond b (i ∷ []) [] ≡ [] → reach_of c < d
      go true f e = absurd (let z : ◌≡◌ {A = ℕ} 0 1 = cc in omega arith)
      go false f e = leb-false d (reach_of c) f

  -- so a tree has no silent test where it reaches back fewer, and only there.
  mutual
    unfolding silent_in reach_of is_test

    none-silent : (c : Condition) (i : ℕ) → (reach_of c < d → silent_in d c i ≡ []) × (silent_in d c i ≡ [] → reach_of c < d)
    none-silent (compare kind a b) i = not_listed (compare kind a b) i refl
    none-silent (cross kind a b) i = not_listed (cross kind a b) i refl
    none-silent (between x low high) i = not_listed (between x low high) i refl
    none-silent (trend kind a n) i = not_listed (trend kind a n) i refl
    none-silent (every cs) i = none-silent_all cs (i + 1)
    none-silent (any cs) i = none-silent_all cs (i + 1)
    none-silent (negated c) i = none-silent c (i + 1)
    none-silent (in_position wanted) i = (λ l. refl, λ e. some)
    none-silent (bars_since selector k) i = (λ l. refl, λ e. some)

    none-silent_all : (cs : Conditions) (i : ℕ) → (reach_of_all cs < d → silent_in_all d cs i ≡ []) × (silent_in_all d cs i ≡ [] → reach_of_all cs < d)
    none-silent_all none i = (λ l. refl, λ e. some)
    none-silent_all (more c cs) i =
        let one = none-silent c i in
        let others = none-silent_all cs (i + nodes_of c) in (
          λ l. rw (one.0 (omega arith), others.0 (omega arith)),
          λ e.
              let two = both_none (silent_in d c i) (silent_in_all d cs (i + nodes_of c)) e in
              omega (arith, one.1 two.0, others.1 two.1),
        )

module _ (t : List ℕ) (n r : ℕ) (ok : checked t ≡ accepts n r) (d : ℕ) where
  -- NONE OVER ENOUGH ROWS: over as many rows as the check says the table needs, or more, no test falls silent;
  pub enough_rows : r ≤ d → silent_tests t d ≡ []
  unfolding silent_tests silent_of
  enough_rows enough =
      let some : 0 < d = omega (arith, rows_are t n r ok) in
      rw (
        (none-silent d some (tree_of t 0) (root t 0)).0 (omega (arith, rows_are t n r ok)),
        (none-silent d some (tree_of t 1) (root t 1)).0 (omega (arith, rows_are t n r ok)),
        (none-silent d some (tree_of t 2) (root t 2)).0 (omega (arith, rows_are t n r ok)),
        (none-silent d some (tree_of t 3) (root t 3)).0 (omega (arith, rows_are t n r ok)),
      )

  -- AND ONLY THEN: a row or more over which no test falls silent are as many as the table needs.
  pub only_enough : 0 < d → silent_tests t d ≡ [] → r ≤ d
  unfolding silent_tests silent_of
  only_enough some e =
      let p = both_none (silent_of t d 0) (silent_of t d 1 ++ (silent_of t d 2 ++ silent_of t d 3)) e in
      let q = both_none (silent_of t d 1) (silent_of t d 2 ++ silent_of t d 3) p.1 in
      let s = both_none (silent_of t d 2) (silent_of t d 3) q.1 in
      omega (
        arith,
        rows_are t n r ok,
        (none-silent d some (tree_of t 0) (root t 0)).1 p.0,
        (none-silent d some (tree_of t 1) (root t 1)).1 q.0,
        (none-silent d some (tree_of t 2) (root t 2)).1 s.0,
        (none-silent d some (tree_of t 3) (root t 3)).1 s.1,
      )
