-- The table of a rule within the limits breaks no rule, and holds that rule.
-- Assumes nothing.
use Rattle.std.specs.Prelude.{◌≡◌, refl, true, false, List, [], ◌++◌, ℕ, zero, suc, ◌+◌, ◌*◌, ◌≤◌, max, length, ltb, eqb, None, Option}
use Rattle.words.specs.Prelude.{sym, ◌∙◌, ap, subst, append-nil, append_assoc, arith}
use Rattle.words.specs.Prelude.{length-append, le-ltb, le-leb, eq-eqb}
use Rattle.words.specs.{Limits.most_slots, Limits.most_nesting, Limits.most_nodes}
use Rattle.table.specs.{declared.header.Form.Form, Bytes.u16, Header.newest_version, Header.slots, Header.version, Header.form_of, Header.total, Header.count}
use Rattle.table.specs.{Header.root, Header.mark_right, Header.version_right, Header.counts_right, Header.header_refusal, Nodes.wrong_node, Order.misfit}
use Rattle.table.specs.{Order.misfits, Order.or_place, Order.of_four, Forest.Forest, Forest.trees, Forest.forest_of, Nesting.deeper, Nesting.too_deep}
use Rattle.table.specs.{Reach.tree_reach, Reach.far_at, Reach.too_far, Reach.rows_needed, Checked.checked, Trees.Condition, Trees.reach_of, Reading.conditions}
use Rattle.table.specs.{Reading.first_of, Reading.tree_of, Writing.le16, Writing.write_condition, Writing.nodes_of, Writing.Short, Writing.given, Writing.Rule}
use Rattle.table.specs.{Writing.nodes_of_short, Writing.write_short, Writing.nodes_of_rule, Writing.header_of, Writing.table_of, Writing.rule_of, Limits.ShortWithin}
use Rattle.table.specs.{Limits.RuleWithin, Laws.Accepted.all_kept}
use Rattle.roundtrip.specs.{Laws.WrittenNodes.pair, Laws.WrittenNodes.From, Laws.WrittenNodes.from_past, Laws.AcceptedWritten.short_long}
use Rattle.roundtrip.specs.{Laws.WrittenForestRead.reads_of, Laws.WrittenTrees.wrong_two, Laws.WrittenTrees.reach_of_short, Laws.WrittenTrees.plant_short}
use Rattle.roundtrip.specs.{Laws.WrittenTrees.short_grows, Laws.WrittenTrees.TreeHolds, Laws.WrittenTrees.planted, Laws.WrittenTrees.held_deep}
use Rattle.roundtrip.specs.{Laws.WrittenTrees.held_reach, Laws.WrittenTrees.held_near, Laws.WrittenTrees.held_fits, Laws.WrittenTrees.held_right}
use Rattle.roundtrip.specs.{Laws.WrittenTrees.held_reads, Laws.WrittenForest.some_nodes, Laws.WrittenForest.condition_long}
use Rattle.table.specs.{Outcome.accepts}

module _ (form : Form) (r : Rule) where
  abbrev t : List ℕ
  t = table_of form r

  slots_are : slots t ≡ form.slots
  unfolding table_of header_of
  slots_are = refl

  version_is : version t ≡ form.version
  unfolding u16 table_of header_of le16
  version_is = pair form.version

  form_is : form_of t ≡ form
  form_is = rw (version_is, slots_are)

  total_is : total t ≡ nodes_of_rule r
  unfolding u16 table_of header_of le16
  total_is = pair (nodes_of_rule r)

  count_0 : count t 0 ≡ nodes_of r.entry
  unfolding u16 table_of header_of le16
  count_0 = pair (nodes_of r.entry)

  count_1 : count t 1 ≡ nodes_of r.exit
  unfolding u16 table_of header_of le16
  count_1 = pair (nodes_of r.exit)

  count_2 : count t 2 ≡ nodes_of_short r.short_entry
  unfolding u16 table_of header_of le16
  count_2 = pair (nodes_of_short r.short_entry)

  count_3 : count t 3 ≡ nodes_of_short r.short_exit
  unfolding u16 table_of header_of le16
  count_3 = pair (nodes_of_short r.short_exit)

  mark_is : mark_right t ≡ true
  unfolding mark_right table_of header_of
  mark_is = refl

  header_long : length (header_of form r) ≡ 16
  unfolding header_of le16
  header_long = refl

  long_is : length t ≡ 16 + 16 * nodes_of_rule r
  unfolding table_of nodes_of_rule
  long_is =
      let h = header_of form r in
      let a = write_condition r.entry in
      let b = write_condition r.exit in
      let c = write_short r.short_entry in
      let d = write_short r.short_exit in
      length-append (h ++ a ++ b ++ c) d
      ∙ ap (λ (m : ℕ). m + length d) (length-append (h ++ a ++ b) c ∙ ap (λ (m : ℕ). m + length c)
      (length-append (h ++ a) b ∙ ap (λ (m : ℕ). m + length b) (length-append h a)))
      ∙ sizes (length h) (length a) (length b) (length c) (length d) _ _ _ _ header_long (condition_long r.entry) (condition_long r.exit)
      (short_long r.short_entry) (short_long r.short_exit)
    where
      sizes : (h a b c d x y z w : ℕ) → h ≡ 16 → a ≡ 16 * x → b ≡ 16 * y → c ≡ 16 * z → d ≡ 16 * w → h + a + b + c + d ≡ 16 + 16 * (x + y + z + w)
      sizes h a b c d x y z w e1 e2 e3 e4 e5 = omega arith

  sums_are : nodes_of r.entry + nodes_of r.exit + nodes_of_short r.short_entry + nodes_of_short r.short_exit ≡ nodes_of_rule r
  unfolding nodes_of_rule
  sums_are = refl

  module _ (w : RuleWithin form r) where
    positive : (m : ℕ) → (m ≡ 0 → ⊥) → 1 ≤ m
    positive zero h = absurd (h refl)
    positive (suc m) h = omega arith

    least : 2 ≤ nodes_of_rule r
    unfolding nodes_of_rule
    least = omega (arith, positive (nodes_of r.entry) (some_nodes r.entry), positive (nodes_of r.exit) (some_nodes r.exit))

    counts_are : counts_right t ≡ true
    unfolding counts_right
    counts_are =
        let k64 : ltb most_slots form.slots ≡ false = le-ltb most_slots form.slots w.few_slots in
        let two : ltb (nodes_of_rule r) 2 ≡ false = le-ltb (nodes_of_rule r) 2 least in
        let most : ltb most_nodes (nodes_of_rule r) ≡ false = le-ltb most_nodes (nodes_of_rule r) w.few_nodes in
        let some0 : ltb (nodes_of r.entry) 1 ≡ false = le-ltb (nodes_of r.entry) 1 (positive (nodes_of r.entry) (some_nodes r.entry)) in
        let some1 : ltb (nodes_of r.exit) 1 ≡ false = le-ltb (nodes_of r.exit) 1 (positive (nodes_of r.exit) (some_nodes r.exit)) in
        let sums : eqb (nodes_of r.entry + nodes_of r.exit + nodes_of_short r.short_entry + nodes_of_short r.short_exit) (nodes_of_rule r) ≡ true =
        eq-eqb _ _ sums_are in
        simp (slots_are, total_is, count_0, count_1, count_2, count_3, k64, two, most, some0, some1, sums)

    version_read : version_right newest_version t ≡ true
    unfolding version_right
    version_read = rw (version_is, le-leb 1 form.version w.some_version, le-leb form.version newest_version w.known_version)

    header_is : header_refusal newest_version t ≡ None
    unfolding header_refusal
    header_is =
        let enough : ltb (length t) 16 ≡ false = le-ltb (length t) 16 (omega (arith, long_is)) in
        let whole : eqb (length t) (16 + 16 * total t) ≡ true = eq-eqb (length t) (16 + 16 * total t) (omega (arith, long_is, total_is)) in
        simp (enough, mark_is, version_read, counts_are, whole)

    -- where each tree's bytes begin
    from_0 : From t 0 (write_condition r.entry ++ (write_condition r.exit ++ (write_short r.short_entry ++ write_short r.short_exit)))
    unfolding table_of header_of le16
    from_0 = simp append_assoc

    from_1 : From t (0 + nodes_of r.entry) (write_condition r.exit ++ (write_short r.short_entry ++ write_short r.short_exit))
    from_1 = from_past t 0 (nodes_of r.entry) (write_condition r.entry) _ (condition_long r.entry) from_0

    from_2 : From t (0 + nodes_of r.entry + nodes_of r.exit) (write_short r.short_entry ++ write_short r.short_exit)
    from_2 = from_past t _ (nodes_of r.exit) (write_condition r.exit) _ (condition_long r.exit) from_1

    from_3 : From t (0 + nodes_of r.entry + nodes_of r.exit + nodes_of_short r.short_entry) (write_short r.short_exit ++ [])
    from_3 =
        from_past t _ (nodes_of_short r.short_entry) (write_short r.short_entry) _ (short_long r.short_entry) from_2 ∙ sym
        (append-nil (write_short r.short_exit))

    root_1 : 0 + nodes_of r.entry ≡ root t 1
    unfolding root
    root_1 = rw count_0

    root_2 : 0 + nodes_of r.entry + nodes_of r.exit ≡ root t 2
    unfolding root
    root_2 = rw (count_0, count_1)

    root_3 : 0 + nodes_of r.entry + nodes_of r.exit + nodes_of_short r.short_entry ≡ root t 3
    unfolding root
    root_3 = rw (count_0, count_1, count_2)

    held : (x i : ℕ) (s : Short) (l : List ℕ) → i ≡ root t x → ShortWithin form s → count t x ≡ nodes_of_short s → From t i (write_short s ++ l)
        → TreeHolds t form x s
    held x i s l at in-limits many h = record {
      within = in-limits;
      many = many;
      forest = subst (λ (j : ℕ). trees t (nodes_of_short s) j ≡ plant_short j s) at (short_grows t form s i l in-limits h);
    }

    held_0 : TreeHolds t form 0 (given r.entry)
    unfolding root ShortWithin nodes_of_short write_short
    held_0 = held 0 0 (given r.entry) _ refl w.entry count_0 from_0

    held_1 : TreeHolds t form 1 (given r.exit)
    unfolding ShortWithin nodes_of_short write_short
    held_1 = held 1 _ (given r.exit) _ root_1 w.exit count_1 from_1

    held_2 : TreeHolds t form 2 r.short_entry
    held_2 = held 2 _ r.short_entry _ root_2 w.short_entry count_2 from_2

    held_3 : TreeHolds t form 3 r.short_exit
    held_3 = held 3 _ r.short_exit [] root_3 w.short_exit count_3 from_3

    none_of_four : (f : ℕ → Option ℕ) → f 0 ≡ None → f 1 ≡ None → f 2 ≡ None → f 3 ≡ None → of_four f ≡ None
    unfolding of_four or_place
    none_of_four f a b c d = rw (a, b, c, d)

    two_at : (a b j : ℕ) → a ≡ j → wrong_node t a 0 ≡ None → wrong_node t b j ≡ None → wrong_node t (a + b) 0 ≡ None
    two_at a b j same h g = wrong_two t a b 0 h (subst (λ (x : ℕ). wrong_node t b x ≡ None) (place a j same) g)
      where
        place : (a j : ℕ) → a ≡ j → j ≡ 0 + a
        place a j same = omega arith

    all_right : wrong_node t (total t) 0 ≡ None
    unfolding root
    all_right =
        let sum : total t ≡ count t 0 + count t 1 + count t 2 + count t 3 = omega (arith, total_is, count_0, count_1, count_2, count_3, sums_are) in
        rw sum
        (two_at (count t 0 + count t 1 + count t 2) (count t 3) (root t 3) (omega arith)
        (two_at (count t 0 + count t 1) (count t 2) (root t 2) (omega arith)
        (two_at (count t 0) (count t 1) (root t 1) (omega arith) (held_right t form 0 _ held_0 form_is) (held_right t form 1 _ held_1 form_is))
        (held_right t form 2 _ held_2 form_is))
        (held_right t form 3 _ held_3 form_is))

    -- "rows = greatest reach + 1"
    pub rows_of : rows_needed t ≡ max (max (reach_of r.entry) (reach_of r.exit)) (max (reach_of_short r.short_entry) (reach_of_short r.short_exit)) + 1
    unfolding rows_needed reach_of_short
    rows_of = rw (held_reach t form 0 _ held_0, held_reach t form 1 _ held_1, held_reach t form 2 _ held_2, held_reach t form 3 _ held_3)

    pub is_accepted : checked t
        ≡ accepts (nodes_of_rule r)
        (max (max (reach_of r.entry) (reach_of r.exit)) (max (reach_of_short r.short_entry) (reach_of_short r.short_exit)) + 1)
    unfolding misfits too_deep too_far
    is_accepted = all_kept t _ _ (record {
      header = header_is;
      own = all_right;
      order =
          none_of_four (λ x. misfit t (count t x) (root t x)) (held_fits t form 0 _ held_0) (held_fits t form 1 _ held_1) (held_fits t form 2 _ held_2)
          (held_fits t form 3 _ held_3);
      nesting =
          none_of_four (λ x. deeper most_nesting (forest_of t x)) (held_deep t form 0 _ held_0) (held_deep t form 1 _ held_1) (held_deep t form 2 _ held_2)
          (held_deep t form 3 _ held_3);
      reaches =
          none_of_four (λ x. far_at (tree_reach t x) (root t x)) (held_near t form 0 _ held_0) (held_near t form 1 _ held_1) (held_near t form 2 _ held_2)
          (held_near t form 3 _ held_3);
      nodes = sym total_is;
      rows = sym rows_of;
    })

    given_tree : (x : ℕ) (c : Condition) → TreeHolds t form x (given c) → tree_of t x ≡ c
    unfolding tree_of plant_short first_of ShortWithin
    given_tree x c h =
        ap (λ (f : Forest). first_of (conditions f)) (planted t form x (given c) h) ∙ ap first_of (reads_of form c (root t x) Forest.none h.within.fields)

    pub reads_back : rule_of t ≡ r
    unfolding rule_of
    reads_back = rw (given_tree 0 r.entry held_0, given_tree 1 r.exit held_1, held_reads t form 2 _ held_2, held_reads t form 3 _ held_3)
