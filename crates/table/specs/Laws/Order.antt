-- Laws of rule 7: where it is kept, each node has the children that its kind takes, and its end leads past its subtree.
-- Assumes nothing.
use Rattle.std.specs.Prelude.{◌≡◌, refl, Bool, true, false, cond, List, [], ◌∷◌, ◌++◌, ℕ, zero, suc, ◌+◌, ◌-◌, ◌≤◌, ◌<◌, length, replicate, eqb, None, Option, Some}
use Rattle.words.specs.Prelude.{sym, ◌∙◌, ap, subst, append_assoc}
use Rattle.words.specs.Prelude.{arith, zero-add, suc-add, add-zero, sub-zero, eqb-true, length-append, length-replicate}
use Rattle.table.specs.{Nodes.node_at}
use Rattle.table.specs.{Nodes.sort_at, Nodes.child_count_at, Nodes.child_sort_at, Nodes.child_fits_at, Order.fits, Forest.first_trees, Forest.other_trees}
use Rattle.table.specs.{Forest.node_over, Forest.trees, Forest.size, Forest.sorts, Forest.Fitting, Forest.Sorted, Ends.place_or, Ends.end_at, Ends.Link}
use Rattle.table.specs.{Laws.Forest.left_suc, Laws.Forest.other_other, Laws.Forest.size_split, Laws.Forest.sorts_first, Laws.Forest.sorted_first}

pub never_at : (i : ℕ) → Some i ≡ None → ⊥
never_at i e = let z : ◌≡◌ {A = ℕ} 0 1 = cc in omega arith

-- a test that gives a place where it fails has held where there is none
pub test_held : (b : Bool) (p : Option ℕ) (i : ℕ) → cond b p (Some i) ≡ None → (b ≡ true) × (p ≡ None)
test_held true p i h = (refl, h)
test_held false p i h = absurd (never_at i h)

-- A node is of the sort that is wanted, the rest fits, and its first child is one that it takes.
pub wanted_first : (t : List ℕ) (m i w : ℕ) (ws : List ℕ) → fits t (suc m) i (w ∷ ws) ≡ None
    → (sort_at t i ≡ w) × (fits t m (i + 1) (replicate (child_count_at t i) (child_sort_at t i) ++ ws) ≡ None) × (child_fits_at t i ≡ true)
unfolding fits
wanted_first t m i w ws h =
    let sort = test_held (eqb (sort_at t i) w) _ i h in
    let child = test_held (child_fits_at t i) _ (i + 1) sort.1 in
    (eqb-true _ _ sort.0, child.1, child.0)

pub first_sort : (t : List ℕ) (e i w : ℕ) (ws : List ℕ) → i < e → fits t (e - i) i (w ∷ ws) ≡ None → sort_at t i ≡ w
first_sort t e i w ws l h = (wanted_first t (e - (i + 1)) i w ws (ap (λ (m : ℕ). fits t m i (w ∷ ws)) (sym (left_suc e i l)) ∙ h)).0

fits-none : (t : List ℕ) (m i : ℕ) → fits t (suc m) i [] ≡ None → ⊥
unfolding fits
fits-none t m i h = never_at i h

fits_short : (t : List ℕ) (i w : ℕ) (ws : List ℕ) → fits t zero i (w ∷ ws) ≡ None → ⊥
unfolding fits
fits_short t i w ws h = never_at i h

fitting_first : (t : List ℕ) (m i k : ℕ) → child_fits_at t i ≡ true → Fitting (node_at t i) (first_trees k (trees t m (i + 1)))
unfolding Fitting first_trees trees node_over child_fits_at
fitting_first t m i zero h = tt
fitting_first t zero i (suc k) h = tt
fitting_first t (suc m) i (suc k) h = h

-- The sorts of the trees are those wanted, and each node has the children that its kind takes.
pub sorts-trees : (t : List ℕ) (m i : ℕ) (ws : List ℕ) → fits t m i ws ≡ None → (sorts (trees t m i) ≡ ws) × Sorted (trees t m i)
unfolding trees node_over sorts Sorted sort_at child_count_at child_sort_at
sorts-trees t zero i [] h = (refl, tt)
sorts-trees t zero i (w ∷ ws) h = absurd (fits_short t i w ws h)
sorts-trees t (suc m) i [] h = absurd (fits-none t m i h)
sorts-trees t (suc m) i (w ∷ ws) h =
    let first = wanted_first t m i w ws h in
    let g = sorts-trees t m (i + 1) (replicate (child_count_at t i) (child_sort_at t i) ++ ws) first.1 in
    let s = sorts_first (child_count_at t i) (child_sort_at t i) (trees t m (i + 1)) ws g.0 in
    let f = sorted_first (child_count_at t i) (trees t m (i + 1)) g.1 in
    (cc (s.1, first.0), (s.0, f.0, f.1, fitting_first t m i (child_count_at t i) first.2))

-- Each node of a row of trees stands where a node is wanted, and the rest fits.
pub each : (t : List ℕ) (m i k : ℕ) (ws : List ℕ) → fits t m i ws ≡ None → k < m
    → (us : List ℕ) × (fits t (m - k) (i + k) (sort_at t (i + k) ∷ us) ≡ None)
each t zero i k ws h l = absurd (none_below k l)
  where
    none_below : (k : ℕ) → k < 0 → ⊥
    none_below k l = omega arith
each t (suc m) i k [] h l = absurd (fits-none t m i h)
each t (suc m) i zero (w ∷ ws) h l =
    (ws, rw (sub-zero (suc m), add-zero i) (subst (λ (x : ℕ). fits t (suc m) i (x ∷ ws) ≡ None) (sym (wanted_first t m i w ws h).0) h))
each t (suc m) i (suc k) (w ∷ ws) h l =
    let g = each t m (i + 1) k (replicate (child_count_at t i) (child_sort_at t i) ++ ws) (wanted_first t m i w ws h).1 (omega arith) in
    let less : suc m - suc k ≡ m - k = omega arith in
    let place : i + suc k ≡ i + 1 + k = omega arith in
    (g.0, rw (less, place) g.1)

-- What the trees wanted first are, of m nodes from node j on: d nodes, after which m' are left.
record Skip (t : List ℕ) (m j : ℕ) (vs : List ℕ) : Type 0 where
  d : ℕ
  m' : ℕ
  adds : m ≡ d + m'
  jump : (ws : List ℕ) → fits t m j (vs ++ ws) ≡ fits t m' (j + d) ws
  rest : other_trees (length vs) (trees t m j) ≡ trees t m' (j + d)
  many : d ≡ size (first_trees (length vs) (trees t m j))

skip_node : (t : List ℕ) (m j v : ℕ) (vs : List ℕ) → eqb (sort_at t j) v ≡ true → child_fits_at t j ≡ true
    → Skip t m (j + 1) (replicate (child_count_at t j) (child_sort_at t j) ++ vs) → Skip t (suc m) j (v ∷ vs)
unfolding fits other_trees first_trees size trees node_over
skip_node t m j v vs s c k =
    record {
      d = suc k.d;
      m' = k.m';
      adds = ap suc k.adds ∙ sym (suc-add k.d k.m');
      jump = λ us. rw (s, c) (ap (λ (l : List ℕ). fits t m (j + 1) l) (sym (append_assoc kids vs us)) ∙ k.jump us ∙ ap (λ (x : ℕ). fits t k.m' x us) place);
      rest =
          other_other (child_count_at t j) (length vs) (trees t m (j + 1)) ∙ ap (λ (n : ℕ). other_trees n (trees t m (j + 1))) (sym long) ∙ k.rest ∙ ap
          (λ (x : ℕ). trees t k.m' x) place;
      many = count;
    }
  where
    kids : List ℕ
    kids = replicate (child_count_at t j) (child_sort_at t j)

    place : j + 1 + k.d ≡ j + suc k.d
    place = omega arith

    long : length (kids ++ vs) ≡ child_count_at t j + length vs
    long = length-append kids vs ∙ ap (λ (n : ℕ). n + length vs) (length-replicate (child_count_at t j) (child_sort_at t j))

    count : suc k.d ≡ 1 + size (first_trees (child_count_at t j) (trees t m (j + 1)))
        + size (first_trees (length vs) (other_trees (child_count_at t j) (trees t m (j + 1))))
    count =
        omega (arith, k.many ∙ ap (λ (n : ℕ). size (first_trees n (trees t m (j + 1)))) long ∙ size_split (child_count_at t j) (length vs) (trees t m (j + 1)))

skip_none : (t : List ℕ) (m j : ℕ) → Skip t m j []
unfolding other_trees first_trees size
skip_none t m j =
    record {
      d = 0;
      m' = m;
      adds = sym (zero-add m);
      jump = λ us. ap (λ (x : ℕ). fits t m x us) (sym (add-zero j));
      rest = ap (λ (x : ℕ). trees t m x) (sym (add-zero j));
      many = refl;
    }

skip : (t : List ℕ) (m j : ℕ) (vs ws : List ℕ) → fits t m j (vs ++ ws) ≡ None → Skip t m j vs
unfolding fits other_trees first_trees size trees node_over
skip t zero j [] ws h = skip_none t zero j
skip t zero j (v ∷ vs) ws h = absurd (never_at j h)
skip t (suc m) j [] ws h = skip_none t (suc m) j
skip t (suc m) j (v ∷ vs) ws h =
    let sort = test_held (eqb (sort_at t j) v) _ j h in
    let child = test_held (child_fits_at t j) _ (j + 1) sort.1 in
    skip_node t m j v vs sort.0 child.0
    (skip t m (j + 1) (replicate (child_count_at t j) (child_sort_at t j) ++ vs) ws
    (ap (λ (l : List ℕ). fits t m (j + 1) l) (append_assoc (replicate (child_count_at t j) (child_sort_at t j)) vs ws) ∙ child.1))

-- A node's end leads past its subtree to the trees after it.
complete : (t : List ℕ) (m p e : ℕ) → e ≡ p + m → place_or e (fits t m p []) ≡ p
unfolding place_or fits
complete t zero p e h = omega arith
complete t (suc m) p e h = refl

some_size : (t : List ℕ) (e j : ℕ) → j < e → 0 < size (first_trees 1 (trees t (e - j) j))
unfolding size first_trees trees node_over
some_size t e j h = rw (left_suc e j h) (omega arith)

link_here : (t : List ℕ) (e j : ℕ) (us : List ℕ) → j < e → fits t (e - j) j (sort_at t j ∷ us) ≡ None → Link t e j (end_at t (e - j) j)
unfolding end_at
link_here t e j us hi g = subst (λ (v : ℕ). Link t e j v) (sym place) there
  where
    k : Skip t (e - j) j (sort_at t j ∷ [])
    k = skip t (e - j) j (sort_at t j ∷ []) us g

    place : place_or (j + (e - j)) (fits t (e - j) j (sort_at t j ∷ [])) ≡ j + k.d
    place = ap (place_or (j + (e - j))) (k.jump []) ∙ complete t k.m' (j + k.d) (j + (e - j)) (omega (arith, k.adds))

    left : k.m' ≡ e - (j + k.d)
    left = omega (arith, k.adds)

    there : Link t e j (j + k.d)
    there = record {
      beyond = omega (arith, k.many, some_size t e j hi);
      within = omega (arith, k.adds);
      next = k.rest ∙ ap (λ (m : ℕ). trees t m (j + k.d)) left;
      counts = ap (λ (n : ℕ). j + n) k.many;
    }

pub link_end : (t : List ℕ) (b e j : ℕ) (ws : List ℕ) → fits t (e - b) b ws ≡ None → b ≤ j → j < e → Link t e j (end_at t (e - j) j)
link_end t b e j ws h lo hi =
    let g = each t (e - b) b (j - b) ws h (omega arith) in
    let less : e - b - (j - b) ≡ e - j = omega arith in
    let place : b + (j - b) ≡ j = omega arith in
    link_here t e j g.0 hi (rw (less, place) at g.1)
