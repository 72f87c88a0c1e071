-- An accepted table is the table of the rule that it holds: writing its trees in prefix order under the paper's header gives
-- its own bytes back. So the reading of an accepted table loses nothing and makes nothing up.
-- Assumes nothing.
use Rattle.std.specs.Prelude.{◌≡◌, refl, true, List, [], ◌∷◌, ◌++◌, ℕ, zero, suc, ◌+◌, ◌*◌, ◌/◌, ◌%◌, ◌≤◌, ◌<◌, length, get_or, eqb}
use Rattle.words.specs.Prelude.{sym, ◌∙◌, ap, ⊎_elim, arith, eq-zero-or-pos}
use Rattle.words.specs.Prelude.{length-append, ne_eqb, eqb-true}
use Rattle.table.specs.{declared.header.Form.Form, Bytes.Bytes, Bytes.u16, Bytes.u32, Bytes.u64}
use Rattle.table.specs.{Header.newest_version, Header.version, Header.form_of, Header.total, Header.count, Header.root, Header.mark_right, Nodes.node_at}
use Rattle.table.specs.{Nodes.child_count_at, Nodes.node_right, Forest.Forest, Forest.first_trees, Forest.other_trees, Forest.node_over, Forest.trees}
use Rattle.table.specs.{Forest.forest_of, Forest.nodes, Checked.checked, Ends.from, Reading.conditions, Reading.tree_of}
use Rattle.table.specs.{Reading.present, Writing.le16, Writing.le32, Writing.le64, Writing.node, Writing.node_bytes, Writing.nodes_bytes, Writing.write_condition}
use Rattle.table.specs.{Writing.nodes_of, Writing.Short, Writing.absent, Writing.given, Writing.nodes_of_short, Writing.write_short, Writing.nodes_of_rule}
use Rattle.table.specs.{Writing.header_of, Writing.table_of, Writing.short_of, Writing.rule_of, Laws.Ends.from_two, Laws.Ends.from_all, Laws.Header.and_parts}
use Rattle.table.specs.{Laws.Header.HeaderRight, Laws.Forest.flat-trees, Laws.Accepted.header_of_lem, Laws.Accepted.node_of, Laws.Accepted.tree_ends}
use Rattle.table.specs.{Laws.Accepted.tree_sorts}
use Rattle.roundtrip.specs.{Laws.Reading.many_conditions, Laws.Writing.Right, Laws.Writing.written_all, Laws.OwnBytes.all_one, Laws.NodeBytes.node_long}
use Rattle.roundtrip.specs.{Laws.WrittenForest.condition_long}
use Rattle.table.specs.{Outcome.accepts}

-- ---- each tree

right_first : (form : Form) (l : ℕ) (f : Forest) → Right form f → Right form (first_trees l f) × Right form (other_trees l f)
unfolding Right first_trees other_trees
right_first form zero f r = (tt, r)
right_first form (suc l) Forest.none r = (tt, tt)
right_first form (suc l) (Forest.tree n below rest) r =
    let g = right_first form l rest r.2 in
    ((r.0, r.1, g.0), g.1)

pub right_trees : (t : List ℕ) (m i : ℕ) → ((j : ℕ) → i ≤ j → j < i + m → node_right t j ≡ true) → Right (form_of t) (trees t m i)
unfolding Right trees node_over node_right
right_trees t zero i h = tt
right_trees t (suc m) i h =
    let g = right_first (form_of t) (child_count_at t i) (trees t m (i + 1)) (right_trees t m (i + 1) (λ j lo hi. h j (omega arith) (omega arith))) in
    (h i (omega arith) (omega arith), g.0, g.1)

module _ (t : List ℕ) (n r : ℕ) (ok : checked t ≡ accepts n r) where
  -- The trees of an accepted table, written in prefix order, are the table's own nodes.
  pub tree_written : (x : ℕ) → x < 4 → 0 < count t x → write_condition (tree_of t x) ≡ nodes_bytes (nodes t (count t x) (root t x))
  unfolding tree_of forest_of root
  tree_written x l some =
      let g = tree_sorts t n r ok x l some in
      let right = right_trees t (count t x) (root t x) (λ j lo hi. node_of t n r ok j (omega (arith, tree_ends t n r ok x l))) in
      sym (all_one (conditions (trees t (count t x) (root t x))) (many_conditions (trees t (count t x) (root t x)) ∙ ap length g.0))
      ∙ sym (written_all (form_of t) (trees t (count t x) (root t x)) 1 right g.1 g.0)
      ∙ ap nodes_bytes (flat-trees t (count t x) (root t x))

  pub short_written : (x : ℕ) → x < 4 → write_short (short_of t x) ≡ nodes_bytes (nodes t (count t x) (root t x))
  unfolding short_of present write_short nodes_bytes nodes
  short_written x l = ⊎_elim
      (λ (z : count t x ≡ 0). simp z)
      (λ s. simp (ne_eqb (count t x) 0 (λ z. omega arith)) (tree_written x l s))
      (eq-zero-or-pos (count t x))

-- ---- how many nodes

nodes_long : (t : List ℕ) (m i : ℕ) → length (nodes_bytes (nodes t m i)) ≡ 16 * m
unfolding nodes_bytes node_bytes nodes
nodes_long t zero i = refl
nodes_long t (suc m) i =
    length-append (node_bytes (node_at t i)) (nodes_bytes (nodes t m (i + 1)))
    ∙ omega (arith, node_long (node_at t i).kind (node_at t i).selector (node_at t i).children (node_at t i).n (node_at t i).constant, nodes_long t m (i + 1))

pub short_long : (s : Short) → length (write_short s) ≡ 16 * nodes_of_short s
unfolding write_short nodes_of_short
short_long absent = refl
short_long (given c) = condition_long c

module _ (t : List ℕ) (n r : ℕ) (ok : checked t ≡ accepts n r) where
  pub tree_nodes : (x : ℕ) → x < 4 → 0 < count t x → nodes_of (tree_of t x) ≡ count t x
  tree_nodes x l some = omega (arith, condition_long (tree_of t x), ap length (tree_written t n r ok x l some), nodes_long t (count t x) (root t x))

  pub short_nodes : (x : ℕ) → x < 4 → nodes_of_short (short_of t x) ≡ count t x
  short_nodes x l = omega (arith, short_long (short_of t x), ap length (short_written t n r ok x l), nodes_long t (count t x) (root t x))

-- ---- bytes

pair_back : (a b : ℕ) → a < 256 → le16 (a + 256 * b) ≡ a ∷ b ∷ []
unfolding le16
pair_back a b h =
    let low : (a + 256 * b) % 256 ≡ a = omega arith in
    let high : (a + 256 * b) / 256 ≡ b = omega arith in
    rw (low, high)

-- sixteen places: two, two, four and eight
sixteen : (f : ℕ → ℕ) (at : ℕ) → from f 16 at ≡ f at ∷ f (at + 1) ∷ (from f 2 (at + 2) ++ from f 4 (at + 4) ++ from f 8 (at + 8))
unfolding from
sixteen f at =
    let p4 : at + 2 + 2 ≡ at + 4 = omega arith in
    let p8 : at + 2 + 6 ≡ at + 8 = omega arith in
    from_two f 2 14 at
    ∙ ap (λ (l : List ℕ). f at ∷ f (at + 1) ∷ l)
    (from_two f 6 8 (at + 2)
    ∙ ap (λ (l : List ℕ). l ++ from f 8 (at + 2 + 6)) (from_two f 2 4 (at + 2))
    ∙ ap (λ (j : ℕ). from f 2 (at + 2) ++ from f 4 j ++ from f 8 (at + 2 + 6)) p4
    ∙ ap (λ (j : ℕ). from f 2 (at + 2) ++ from f 4 (at + 4) ++ from f 8 j) p8)

module _ (t : List ℕ) (small : Bytes t) where
  unfoldable pub byte : ℕ → ℕ
  byte i = get_or t i 0

  back16 : (at : ℕ) → le16 (u16 t at) ≡ from byte 2 at
  unfolding u16 from byte Bytes
  back16 at = pair_back (get_or t at 0) (get_or t (at + 1) 0) (small at)

  pub u16_small : (at : ℕ) → u16 t at < 65536
  unfolding u16 Bytes
  u16_small at = omega (arith, small at, small (at + 1))

  back32 : (at : ℕ) → le32 (u32 t at) ≡ from byte 4 at
  unfolding u32 le32
  back32 at =
      let low : (u16 t at + 65536 * u16 t (at + 2)) % 65536 ≡ u16 t at = omega (arith, u16_small at) in
      let high : (u16 t at + 65536 * u16 t (at + 2)) / 65536 ≡ u16 t (at + 2) = omega (arith, u16_small at) in
      rw (low, high, back16 at, back16 (at + 2)) (sym (from_two byte 2 2 at))

  pub u32_small : (at : ℕ) → u32 t at < 4294967296
  unfolding u32
  u32_small at = omega (arith, u16_small at, u16_small (at + 2))

  back64 : (at : ℕ) → le64 (u64 t at) ≡ from byte 8 at
  unfolding u64 le64
  back64 at =
      let low : (u32 t at + 4294967296 * u32 t (at + 4)) % 4294967296 ≡ u32 t at = omega (arith, u32_small at) in
      let high : (u32 t at + 4294967296 * u32 t (at + 4)) / 4294967296 ≡ u32 t (at + 4) = omega (arith, u32_small at) in
      rw (low, high, back32 at, back32 (at + 4)) (sym (from_two byte 4 4 at))

  node_back : (i : ℕ) → node_bytes (node_at t i) ≡ from byte 16 (16 + 16 * i)
  unfolding node_bytes node node_at byte
  node_back i =
      let p17 : 17 + 16 * i ≡ 16 + 16 * i + 1 = omega arith in
      let p18 : 18 + 16 * i ≡ 16 + 16 * i + 2 = omega arith in
      let p20 : 20 + 16 * i ≡ 16 + 16 * i + 4 = omega arith in
      let p24 : 24 + 16 * i ≡ 16 + 16 * i + 8 = omega arith in
      rw (back16 (18 + 16 * i), back32 (20 + 16 * i), back64 (24 + 16 * i), p17, p18, p20, p24) (sym (sixteen byte (16 + 16 * i)))

  pub nodes_back : (m i : ℕ) → nodes_bytes (nodes t m i) ≡ from byte (16 * m) (16 + 16 * i)
  unfolding nodes_bytes nodes from
  nodes_back zero i = refl
  nodes_back (suc m) i =
      let long : 16 * suc m ≡ 16 + 16 * m = omega arith in
      let place : 16 + 16 * (i + 1) ≡ 16 + 16 * i + 16 = omega arith in
      rw (node_back i, nodes_back m (i + 1), long, place) (sym (from_two byte 16 (16 * m) (16 + 16 * i)))

-- ---- the whole table

module _ (t : List ℕ) (small : Bytes t) (n r : ℕ) (ok : checked t ≡ accepts n r) where
  abbrev b : ℕ → ℕ
  b = byte t small

  right : HeaderRight newest_version t
  right = header_of_lem t n r ok

  some_entry : 0 < count t 0
  some_entry = omega (arith, right.has_entry)

  some_exit : 0 < count t 1
  some_exit = omega (arith, right.has_exit)

  pub rule_nodes : nodes_of_rule (rule_of t) ≡ total t
  unfolding nodes_of_rule rule_of
  rule_nodes =
      omega (
        arith,
        tree_nodes t n r ok 0 (omega arith) some_entry,
        tree_nodes t n r ok 1 (omega arith) some_exit,
        short_nodes t n r ok 2 (omega arith),
        short_nodes t n r ok 3 (omega arith),
        right.sums,
      )

  -- the header's numbers, two bytes each
  two_back : (x at : ℕ) → x ≡ u16 t at → le16 x ≡ from b 2 at
  two_back x at h = ap le16 h ∙ back16 t small at

  header_back : header_of (form_of t) (rule_of t) ≡ from b 16 0
  unfolding header_of rule_of mark_right from byte
  header_back =
      let m2 = and_parts _ (eqb (get_or t 2 0) 66) right.mark in
      let m1 = and_parts (eqb (get_or t 0 0) 82) (eqb (get_or t 1 0) 84) m2.0 in
      let mark0 : get_or t 0 0 ≡ 82 = eqb-true _ _ m1.0 in
      let mark1 : get_or t 1 0 ≡ 84 = eqb-true _ _ m1.1 in
      let mark2 : get_or t 2 0 ≡ 66 = eqb-true _ _ m2.1 in
      let version-back = two_back (version t) 4 refl in
      let total-back = two_back (nodes_of_rule (rule_of t)) 6 rule_nodes in
      let entry-back = two_back (nodes_of (tree_of t 0)) 8 (tree_nodes t n r ok 0 (omega arith) some_entry) in
      let exit-back = two_back (nodes_of (tree_of t 1)) 10 (tree_nodes t n r ok 1 (omega arith) some_exit) in
      let short-entry-back = two_back (nodes_of_short (short_of t 2)) 12 (short_nodes t n r ok 2 (omega arith)) in
      let short-exit-back = two_back (nodes_of_short (short_of t 3)) 14 (short_nodes t n r ok 3 (omega arith)) in
      rw (version-back, total-back, entry-back, exit-back, short-entry-back, short-exit-back, mark0, mark1, mark2)

  -- the trees' nodes, one tree after the other
  trees_back : (l : List ℕ) (m x : ℕ) → l ≡ from b (16 + 16 * m) 0 → m ≡ root t x
      → l ++ nodes_bytes (nodes t (count t x) (root t x)) ≡ from b (16 + 16 * (m + count t x)) 0
  trees_back l m x h at =
      let long : 16 + 16 * (m + count t x) ≡ 16 + 16 * m + 16 * count t x = omega arith in
      let place : 16 + 16 * root t x ≡ 0 + (16 + 16 * m) = omega arith in
      rw (long, h, nodes_back t small (count t x) (root t x), place) (sym (from_two b (16 + 16 * m) (16 * count t x) 0))

  -- **An accepted table is the table of the rule that it holds.**
  pub round_trip : table_of (form_of t) (rule_of t) ≡ t
  unfolding table_of rule_of root byte
  round_trip =
      let w0 = tree_written t n r ok 0 (omega arith) some_entry in
      let w1 = tree_written t n r ok 1 (omega arith) some_exit in
      let w2 = short_written t n r ok 2 (omega arith) in
      let w3 = short_written t n r ok 3 (omega arith) in
      let s0 = trees_back (from b 16 0) 0 0 refl refl in
      let s1 = trees_back _ (0 + count t 0) 1 s0 refl in
      let s2 = trees_back _ (0 + count t 0 + count t 1) 2 s1 refl in
      let s3 = trees_back _ (0 + count t 0 + count t 1 + count t 2) 3 s2 refl in
      let long : 16 + 16 * (0 + count t 0 + count t 1 + count t 2 + count t 3) ≡ length t = omega (arith, right.sums, right.long) in
      rw (header_back, w0, w1, w2, w3) (s3 ∙ ap (λ (m : ℕ). from b m 0) long ∙ from_all t)
