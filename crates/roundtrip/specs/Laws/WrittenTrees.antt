-- A tree within the limits, or none, that a table holds: it breaks no rule there, and is read back.
-- Assumes nothing.
use Rattle.std.specs.Prelude.{◌≡◌, refl, Bool, true, false, cond, not, List, [], ◌∷◌, ◌++◌, ℕ, zero, suc, ◌+◌, ◌≤◌, replicate, eqb, None}
use Rattle.words.specs.Prelude.{sym, ◌∙◌, ap, subst, arith, add-zero}
use Rattle.words.specs.Prelude.{suc-add, le-ltb, eq-eqb, ne_eqb}
use Rattle.words.specs.{Limits.most_nesting, Limits.most_reach}
use Rattle.table.specs.{declared.header.Form.Form, Kinds.kind_of, Kinds.takes_series, Header.form_of, Header.count}
use Rattle.table.specs.{Header.root, Nodes.node_at, Nodes.node_right, Nodes.wrong_node, Nodes.sort_at, Nodes.child_count, Nodes.child_count_at, Nodes.child_sort_at}
use Rattle.table.specs.{Nodes.child_fits, Nodes.child_fits_at, Order.fits, Order.misfit, Forest.Forest, Forest.first_trees, Forest.other_trees, Forest.node_over}
use Rattle.table.specs.{Forest.trees, Forest.forest_of, Forest.sorts, Forest.Fitting, Forest.Sorted, Nesting.deeper, Reach.weigh, Reach.own_back}
use Rattle.table.specs.{Reach.forest_reach, Reach.tree_reach, Reach.far_at, Trees.Condition, Trees.reach_of, Trees.reach_of_all, Reading.conditions, Reading.first_of}
use Rattle.table.specs.{Reading.present, Reading.tree_of, Writing.nodes_of, Writing.Short, Writing.absent, Writing.given, Writing.nodes_of_short}
use Rattle.table.specs.{Writing.write_short, Writing.short_of, Limits.WithinOf, Limits.ShortWithin, Laws.Kinds.over_series_one, Laws.Order.test_held}
use Rattle.roundtrip.specs.{Laws.Reach.all_reach, Laws.Writing.Right, Laws.WrittenForest.plant_of, Laws.WrittenForest.some_nodes, Laws.WrittenNodes.From}
use Rattle.roundtrip.specs.{Laws.WrittenGrows.grows_of, Laws.WrittenForestKept.right_of, Laws.WrittenForestKept.sorted_of}
use Rattle.roundtrip.specs.{Laws.WrittenForestKept.plant_of-sorts, Laws.WrittenForestRead.shallow_of, Laws.WrittenForestRead.reads_of}

-- ---- from the forest back to the rules

right_join : (form : Form) (l : ℕ) (f : Forest) → Right form (first_trees l f) → Right form (other_trees l f) → Right form f
unfolding Right first_trees other_trees
right_join form zero f a b = b
right_join form (suc l) Forest.none a b = tt
right_join form (suc l) (Forest.tree n below rest) a b = (a.0, a.1, right_join form l rest a.2 b)

sorted_join : (l : ℕ) (f : Forest) → Sorted (first_trees l f) → Sorted (other_trees l f) → Sorted f
unfolding Sorted first_trees other_trees
sorted_join zero f a b = b
sorted_join (suc l) Forest.none a b = tt
sorted_join (suc l) (Forest.tree n below rest) a b = (a.0, a.1, sorted_join l rest a.2 b, a.3)

sorts_join : (l : ℕ) (f : Forest) → sorts (first_trees l f) ++ sorts (other_trees l f) ≡ sorts f
unfolding sorts first_trees other_trees
sorts_join zero f = refl
sorts_join (suc l) Forest.none = refl
sorts_join (suc l) (Forest.tree n below rest) = ap (λ (x : List ℕ). (kind_of n.kind).sort ∷ x) (sorts_join l rest)

no_wrong : (t : List ℕ) (m i : ℕ) → Right (form_of t) (trees t m i) → wrong_node t m i ≡ None
unfolding Right trees node_over wrong_node node_right
no_wrong t zero i r = refl
no_wrong t (suc m) i r = rw r.0 (no_wrong t m (i + 1) (right_join (form_of t) (child_count_at t i) (trees t m (i + 1)) r.1 r.2))

-- ---- the first child of a node is one that it takes

none_below : (s : ℕ) → sorts (first_trees 1 Forest.none) ≡ replicate 1 s → ⊥
unfolding sorts first_trees
none_below s h = let z : ◌≡◌ {A = ℕ} 0 1 = cc in omega arith

over_one : (t : List ℕ) (i : ℕ) → takes_series (kind_of (node_at t i).kind).series ≡ true → child_count_at t i ≡ 1
unfolding child_count_at child_count
over_one t i is = rw (over_series_one (node_at t i).kind is)

series_below : (t : List ℕ) (m i : ℕ) → sorts (first_trees 1 (trees t m (i + 1))) ≡ replicate 1 (child_sort_at t i)
    → Fitting (node_at t i) (first_trees 1 (trees t m (i + 1))) → child_fits_at t i ≡ true
unfolding trees node_over first_trees Fitting child_fits_at
series_below t zero i under fit = absurd (none_below (child_sort_at t i) under)
series_below t (suc m) i under fit = fit

any_below : (t : List ℕ) (i : ℕ) → takes_series (kind_of (node_at t i).kind).series ≡ false → child_fits_at t i ≡ true
unfolding child_fits_at child_fits
any_below t i other = rw other

first_child : (t : List ℕ) (m i : ℕ) → sorts (first_trees (child_count_at t i) (trees t m (i + 1))) ≡ replicate (child_count_at t i) (child_sort_at t i)
    → Fitting (node_at t i) (first_trees (child_count_at t i) (trees t m (i + 1))) → child_fits_at t i ≡ true
first_child t m i under fit = go (takes_series (kind_of (node_at t i).kind).series) refl
  where
    go : (b : Bool) → takes_series (kind_of (node_at t i).kind).series ≡ b → child_fits_at t i ≡ true
    go true is = series_below t m i (rw (over_one t i is) at under) (rw (over_one t i is) at fit)
    go false other = any_below t i other

in_order : (t : List ℕ) (m i : ℕ) → Sorted (trees t m i) → fits t m i (sorts (trees t m i)) ≡ None
unfolding Sorted trees node_over fits sorts sort_at child_count_at child_sort_at
in_order t zero i s = refl
in_order t (suc m) i s =
    let f = trees t m (i + 1) in
    let same : eqb (kind_of (node_at t i).kind).sort (kind_of (node_at t i).kind).sort ≡ true =
    eq-eqb (kind_of (node_at t i).kind).sort (kind_of (node_at t i).kind).sort refl in
    let row : replicate (child_count_at t i) (child_sort_at t i) ++ sorts (other_trees (child_count_at t i) f) ≡ sorts f =
    ap (λ (l : List ℕ). l ++ sorts (other_trees (child_count_at t i) f)) (sym s.0) ∙ sorts_join (child_count_at t i) f in
    rw (same, first_child t m i s.0 s.3) (ap (fits t m (i + 1)) row ∙ in_order t m (i + 1) (sorted_join (child_count_at t i) f s.1 s.2))

pub wrong_two : (t : List ℕ) (a b i : ℕ) → wrong_node t a i ≡ None → wrong_node t b (i + a) ≡ None → wrong_node t (a + b) i ≡ None
unfolding wrong_node
wrong_two t zero b i h g =
    let zero-b : 0 + b ≡ b = omega arith in
    rw zero-b (rw (add-zero i) at g)
wrong_two t (suc a) b i h g =
    let first = test_held (node_right t i) (wrong_node t a (i + 1)) i h in
    let place : i + suc a ≡ i + 1 + a = omega arith in
    rw (suc-add a b, first.0) (wrong_two t a b (i + 1) first.1 (rw place at g))

-- ---- one tree, or none

one_sort : (form : Form) (c : Condition) (i : ℕ) → WithinOf form c → sorts (plant_of i c Forest.none) ≡ 2 ∷ []
unfolding sorts
one_sort form c i w = plant_of-sorts i c Forest.none form w

nothing : Sorted Forest.none
unfolding Sorted
nothing = tt

unfoldable pub reach_of_short : Short → ℕ
reach_of_short absent = 0
reach_of_short (given c) = reach_of c

unfoldable pub plant_short : ℕ → Short → Forest
plant_short i absent = Forest.none
plant_short i (given c) = plant_of i c Forest.none

module _ (t : List ℕ) (form : Form) where
  pub short_grows : (s : Short) (i : ℕ) (l : List ℕ) → ShortWithin form s → From t i (write_short s ++ l) → trees t (nodes_of_short s) i ≡ plant_short i s
  unfolding ShortWithin write_short nodes_of_short plant_short trees
  short_grows absent i l w h = refl
  short_grows (given c) i l w h = grows_of t form c i l w.fields h

short_right : (form : Form) (s : Short) (i : ℕ) → ShortWithin form s → Right form (plant_short i s)
unfolding ShortWithin plant_short Right
short_right form absent i w = tt
short_right form (given c) i w = right_of form c i Forest.none w.fields tt

short_shallow : (form : Form) (s : Short) (i : ℕ) → ShortWithin form s → deeper most_nesting (plant_short i s) ≡ None
unfolding ShortWithin plant_short deeper
short_shallow form absent i w = refl
short_shallow form (given c) i w = shallow_of c i most_nesting Forest.none w.nesting

pub given_reach : (form : Form) (c : Condition) (i : ℕ) → WithinOf form c → weigh own_back (plant_of i c Forest.none) ≡ reach_of c
unfolding sorts conditions reach_of_all Sorted
given_reach form c i w =
    all_reach (plant_of i c Forest.none) 1 (sorted_of form c i Forest.none w tt) (plant_of-sorts i c Forest.none form w)
    ∙ ap reach_of_all (reads_of form c i Forest.none w)
    ∙ omega arith

short_reach : (form : Form) (s : Short) (i : ℕ) → ShortWithin form s → (forest_reach (plant_short i s) ≡ reach_of_short s) × (reach_of_short s ≤ most_reach)
unfolding ShortWithin plant_short reach_of_short forest_reach weigh
short_reach form absent i w = (refl, omega arith)
short_reach form (given c) i w = (given_reach form c i w.fields, w.reaches)

short_fits : (t : List ℕ) (form : Form) (s : Short) (i : ℕ) → ShortWithin form s
    → trees t (nodes_of_short s) i ≡ plant_short i s → misfit t (nodes_of_short s) i ≡ None
unfolding ShortWithin nodes_of_short plant_short misfit
short_fits t form absent i w h = refl
short_fits t form (given c) i w h =
    let some : eqb (nodes_of c) 0 ≡ false = ne_eqb (nodes_of c) 0 (some_nodes c) in
    let row : sorts (trees t (nodes_of c) i) ≡ 2 ∷ [] = ap sorts h ∙ one_sort form c i w.fields in
    rw some (ap (fits t (nodes_of c) i) (sym row) ∙ in_order t (nodes_of c) i (subst Sorted (sym h) (sorted_of form c i Forest.none w.fields nothing)))

short_reads : (form : Form) (s : Short) (i : ℕ) → ShortWithin form s
    → cond (not (eqb (nodes_of_short s) 0)) (given (first_of (conditions (plant_short i s)))) absent ≡ s
unfolding ShortWithin nodes_of_short plant_short first_of
short_reads form absent i w = refl
short_reads form (given c) i w =
    let some : eqb (nodes_of c) 0 ≡ false = ne_eqb (nodes_of c) 0 (some_nodes c) in
    rw (some, reads_of form c i Forest.none w.fields)

-- tree x of a table holds a tree within the limits, or none
pub record TreeHolds (t : List ℕ) (form : Form) (x : ℕ) (s : Short) : Type 0 where
  pub within : ShortWithin form s
  pub many : count t x ≡ nodes_of_short s
  pub forest : trees t (nodes_of_short s) (root t x) ≡ plant_short (root t x) s

module _ (t : List ℕ) (form : Form) (x : ℕ) (s : Short) (h : TreeHolds t form x s) where
  pub planted : forest_of t x ≡ plant_short (root t x) s
  unfolding forest_of
  planted = ap (λ (m : ℕ). trees t m (root t x)) h.many ∙ h.forest

  pub held_deep : deeper most_nesting (forest_of t x) ≡ None
  held_deep = ap (deeper most_nesting) planted ∙ short_shallow form s (root t x) h.within

  pub held_reach : tree_reach t x ≡ reach_of_short s
  unfolding tree_reach
  held_reach = ap forest_reach planted ∙ (short_reach form s (root t x) h.within).0

  pub held_near : far_at (tree_reach t x) (root t x) ≡ None
  unfolding far_at
  held_near = rw held_reach (rw (le-ltb most_reach (reach_of_short s) (short_reach form s (root t x) h.within).1))

  pub held_fits : misfit t (count t x) (root t x) ≡ None
  held_fits = ap (λ (m : ℕ). misfit t m (root t x)) h.many ∙ short_fits t form s (root t x) h.within h.forest

  pub held_right : form_of t ≡ form → wrong_node t (count t x) (root t x) ≡ None
  held_right same =
      no_wrong t (count t x) (root t x)
      (subst (λ (f : Form). Right f (trees t (count t x) (root t x))) (sym same)
      (subst (Right form) (sym (ap (λ (m : ℕ). trees t m (root t x)) h.many ∙ h.forest)) (short_right form s (root t x) h.within)))

  pub held_reads : short_of t x ≡ s
  unfolding short_of present tree_of
  held_reads = rw (planted, h.many) (short_reads form s (root t x) h.within)
