-- An accepted table holds a rule within the paper's limits.
-- Assumes nothing.
use Rattle.std.specs.Prelude.{◌≡◌, List, ℕ, zero, suc, ◌+◌, ◌*◌, ◌<◌, length}
use Rattle.words.specs.Prelude.{◌∙◌, ap, ⊎_elim, arith, eq-zero-or-pos, eq-eqb, ne_eqb}
use Rattle.words.specs.{Limits.most_nesting}
use Rattle.table.specs.{Bytes.u64, Header.form_of, Header.count, Header.root, Nodes.node_at, Nodes.child_count_at}
use Rattle.table.specs.{Forest.Forest, Forest.first_trees, Forest.other_trees, Forest.node_over, Forest.trees, Forest.forest_of, Checked.checked}
use Rattle.table.specs.{Reading.conditions, Reading.present, Reading.tree_of, Writing.short_of, Writing.rule_of, Limits.TreeWithin, Limits.ShortWithin}
use Rattle.table.specs.{Limits.RuleWithin, Laws.Accepted.header_of_lem, Laws.Accepted.node_of, Laws.Accepted.tree_ends, Laws.Accepted.tree_sorts}
use Rattle.table.specs.{Laws.Accepted.tree_nesting, Laws.Accepted.tree_reach_lem, Bytes.Bytes}
use Rattle.roundtrip.specs.{Laws.Reading.many_conditions, Laws.Reach.tree_reach_is, Laws.AcceptedWritten.right_trees, Laws.AcceptedWritten.u16_small}
use Rattle.roundtrip.specs.{Laws.AcceptedWritten.u32_small, Laws.AcceptedWritten.rule_nodes, Laws.Limits.first_in, Laws.Limits.all_fine}
use Rattle.roundtrip.specs.{Laws.OwnBytes.NodeFits, Laws.OwnBytes.FieldsFit}
use Rattle.table.specs.{Outcome.accepts}

-- the fields of a node read from bytes fit
small_node : (t : List ℕ) → Bytes t → (i : ℕ) → NodeFits (node_at t i)
unfolding node_at u64 Bytes
small_node t small i =
    record {
      kind = small (16 + 16 * i);
      selector = small (17 + 16 * i);
      children = u16_small t small (18 + 16 * i);
      n = u32_small t small (20 + 16 * i);
      constant = both (u32_small t small (24 + 16 * i)) (u32_small t small (24 + 16 * i + 4));
    }
  where
    both : {a b : ℕ} → a < 4294967296 → b < 4294967296 → a + 4294967296 * b < 18446744073709551616
    both p q = omega arith

small_first : (l : ℕ) (f : Forest) → FieldsFit f → FieldsFit (first_trees l f) × FieldsFit (other_trees l f)
unfolding FieldsFit first_trees other_trees
small_first zero f s = (tt, s)
small_first (suc l) Forest.none s = (tt, tt)
small_first (suc l) (Forest.tree n below rest) s =
    let g = small_first l rest s.2 in
    ((s.0, s.1, g.0), g.1)

small_trees : (t : List ℕ) → Bytes t → (m i : ℕ) → FieldsFit (trees t m i)
unfolding FieldsFit trees node_over
small_trees t small zero i = tt
small_trees t small (suc m) i =
    let g = small_first (child_count_at t i) (trees t m (i + 1)) (small_trees t small m (i + 1)) in
    (small_node t small i, g.0, g.1)

module _ (t : List ℕ) (small : Bytes t) (n r : ℕ) (ok : checked t ≡ accepts n r) where
  pub tree_within : (x : ℕ) → x < 4 → 0 < count t x → TreeWithin (form_of t) (tree_of t x)
  unfolding tree_of forest_of root
  tree_within x l some =
      let g = tree_sorts t n r ok x l some in
      let right = right_trees t (count t x) (root t x) (λ j lo hi. node_of t n r ok j (omega (arith, tree_ends t n r ok x l))) in
      let f = trees t (count t x) (root t x) in
      let fine = first_in (form_of t) most_nesting (conditions f) (many_conditions f ∙ ap length g.0)
      (all_fine f (form_of t) most_nesting 1 right (small_trees t small (count t x) (root t x)) g.1 g.0 (tree_nesting t n r ok x l)) in
      record { fields = fine.0; nesting = fine.1; reaches = omega (arith, tree_reach_lem t n r ok x l, tree_reach_is t n r x ok l) }

  pub short_within : (x : ℕ) → x < 4 → ShortWithin (form_of t) (short_of t x)
  unfolding short_of present ShortWithin
  short_within x l = ⊎_elim
      (λ z. simp (eq-eqb (count t x) 0 z) tt)
      (λ s. simp (ne_eqb (count t x) 0 (λ z. omega arith)) (tree_within x l s))
      (eq-zero-or-pos (count t x))

  pub rule_within : RuleWithin (form_of t) (rule_of t)
  unfolding rule_of
  rule_within = record {
    some_version = (header_of_lem t n r ok).some_version;
    known_version = (header_of_lem t n r ok).known_version;
    few_slots = (header_of_lem t n r ok).few_slots;
    few_nodes = omega (arith, rule_nodes t small n r ok, (header_of_lem t n r ok).most);
    entry = tree_within 0 (omega arith) (omega (arith, (header_of_lem t n r ok).has_entry));
    exit = tree_within 1 (omega arith) (omega (arith, (header_of_lem t n r ok).has_exit));
    short_entry = short_within 2 (omega arith);
    short_exit = short_within 3 (omega arith);
  }
