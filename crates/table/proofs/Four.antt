-- The four trees together.
-- Assumes nothing.
use Rattle.std.specs.Prelude.{Err, None, Option, Some, ℕ}
use Rattle.words.specs.Prelude.{◌≡◌, refl, sym, ◌∙◌, ap, subst, ⊎_elim, List, [], ◌∷◌, ℕ, zero, suc, ◌+◌, ◌-◌, ◌≤◌, ◌<◌, max, min, arith, eq-zero-or-pos}
use Rattle.words.specs.Prelude.{length, get_or, replicate, lt-ltb, le-ltb}
use Rattle.words.specs.{Limits.most_nodes, Limits.most_reach, Limits.most_rows}
use Rattle.table.specs.{Bytes.u16, Header.count, Header.root}
use Rattle.table.specs.{Nodes.sort_at, Order.fits, Order.misfit, Order.first_place, Order.of_four, Order.misfits, Forest.trees, Forest.forest_of}
use Rattle.table.specs.{Nesting.deeper, Nesting.too_deep, Reach.forest_reach, Reach.tree_reach, Reach.too_far, Reach.rows_needed, Reach.far_at}
use Rattle.table.specs.{Checked.or_refused, Checked.from9, Passes.Ended, Passes.EndedFrom, Passes.Ordered, declared.trees.Roots.Roots, Passes.AreRoots}
use Rattle.table.specs.{Passes.EndedAll}
use Rattle.table.specs.{Passes.LinkedTree, Passes.LinkedAll, Passes.misfit_from, Laws.Accepted.of_four_lem, Laws.Order.first_sort, Laws.Order.never_at}
use Rattle.table.specs.{Outcome.accepts}
use Rattle.words.specs.declared.refusal.Refusal.TheVariants as Refusal
use Rattle.table.proofs.{Prefix.fits_two, Prefix.fits_soon, Prefix.pass, Linked.linked, Linked.word_end}

root-zero : (t : List ℕ) → 0 ≡ root t 0
unfolding root
root-zero t = refl

module _ (t : List ℕ) (roots : Roots) (k : AreRoots t roots) where
  n0 : roots.exit - 0 ≡ count t 0
  unfolding root
  n0 = omega (arith, k.one)

  n1 : roots.short_entry - roots.exit ≡ count t 1
  unfolding root
  n1 = omega (arith, k.one, k.two)

  n2 : roots.short_exit - roots.short_entry ≡ count t 2
  unfolding root
  n2 = omega (arith, k.two, k.three)

  n3 : roots.end - roots.short_exit ≡ count t 3
  unfolding root
  n3 = omega (arith, k.three, k.four)

  pub four : (f : ℕ → ℕ → Option ℕ) (p q r s : Option ℕ) → p ≡ f (roots.exit - 0) 0 → q ≡ f (roots.short_entry - roots.exit) roots.exit
      → r ≡ f (roots.short_exit - roots.short_entry) roots.short_entry → s ≡ f (roots.end - roots.short_exit) roots.short_exit
      → first_place p q r s ≡ of_four (λ x. f (count t x) (root t x))
  unfolding of_four
  four f p q r s hp hq hr hs =
      let o0 : p ≡ f (count t 0) (root t 0) = cc (n0, root-zero t) in
      let o1 : q ≡ f (count t 1) (root t 1) = cc (n1, k.one) in
      let o2 : r ≡ f (count t 2) (root t 2) = cc (n2, k.two) in
      let o3 : s ≡ f (count t 3) (root t 3) = cc (n3, k.three) in
      cc

  pub four_misfits : (p q r s : Option ℕ) → p ≡ misfit t (roots.exit - 0) 0 → q ≡ misfit t (roots.short_entry - roots.exit) roots.exit
      → r ≡ misfit t (roots.short_exit - roots.short_entry) roots.short_entry → s ≡ misfit t (roots.end - roots.short_exit) roots.short_exit
      → first_place p q r s ≡ misfits t
  unfolding misfits
  four_misfits p q r s hp hq hr hs = four (misfit t) p q r s hp hq hr hs

  pub four_deep : (p q r s : Option ℕ) → p ≡ deeper 32 (trees t (roots.exit - 0) 0) → q ≡ deeper 32 (trees t (roots.short_entry - roots.exit) roots.exit)
      → r ≡ deeper 32 (trees t (roots.short_exit - roots.short_entry) roots.short_entry)
      → s ≡ deeper 32 (trees t (roots.end - roots.short_exit) roots.short_exit)
      → first_place p q r s ≡ too_deep t
  unfolding too_deep forest_of
  four_deep p q r s hp hq hr hs = four (λ m i. deeper 32 (trees t m i)) p q r s hp hq hr hs

  pub four_far : (p q r s : Option ℕ) → p ≡ far_at (forest_reach (trees t (roots.exit - 0) 0)) 0
      → q ≡ far_at (forest_reach (trees t (roots.short_entry - roots.exit) roots.exit)) roots.exit
      → r ≡ far_at (forest_reach (trees t (roots.short_exit - roots.short_entry) roots.short_entry)) roots.short_entry
      → s ≡ far_at (forest_reach (trees t (roots.end - roots.short_exit) roots.short_exit)) roots.short_exit
      → first_place p q r s ≡ too_far t
  unfolding too_far forest_of tree_reach far_at
  four_far p q r s hp hq hr hs = four (λ m i. far_at (forest_reach (trees t m i)) i) p q r s hp hq hr hs

pub order_four : (t : List ℕ) (roots : Roots) (z w x y r : List ℕ) → AreRoots t roots → ((j : ℕ) → get_or z j 0 ≡ 0) → length r ≡ most_nodes
    → Ordered t 0 roots.exit z w → Ordered t roots.exit roots.short_entry w x → Ordered t roots.short_entry roots.short_exit x y
    → Ordered t roots.short_exit roots.end y r → EndedAll t r roots
unfolding EndedFrom
order_four t roots z w x y r k zero' long o0 o1 o2 o3 =
    record {
      entry = λ j lo hi. subst (Ended t roots.exit j) (sym (o3.below j (omega arith) ∙ o2.below j (omega arith) ∙ o1.below j hi)) (o0.known j lo hi);
      exit = λ j lo hi. subst (λ (v : ℕ). Ended t roots.short_entry j v) (sym (o3.below j (omega arith) ∙ o2.below j hi)) (o1.known j lo hi);
      short_entry = λ j lo hi. subst (λ (v : ℕ). Ended t roots.short_exit j v) (sym (o3.below j hi)) (o2.known j lo hi);
      short_exit = o3.known;
      past = λ j h. o3.above j h ∙ o2.above j (omega arith) ∙ o1.above j (omega arith) ∙ o0.above j (omega arith) ∙ zero' j;
      long = long;
    }

-- A tree that keeps rule 7 ends where its nodes do.
root_end : (t ends : List ℕ) (b e : ℕ) → misfit t (e - b) b ≡ None → EndedFrom t ends b e → b < e → get_or ends b 0 ≡ e
unfolding EndedFrom
root_end t ends b e h k l =
    ⊎_elim (λ z. omega (arith, known.within low)) (λ z. absurd (never_at (get_or ends b 0) (sym (fits_soon t e _ (omega arith)) ∙ after)))
    (eq-zero-or-pos (e - get_or ends b 0))
  where
    whole : fits t (e - b) b (2 ∷ []) ≡ None
    whole = fits_two t b e l ∙ h

    sort : sort_at t b ≡ 2
    sort = first_sort t e b 2 [] l whole

    known : Ended t e b (get_or ends b 0)
    known = k b (omega arith) l

    low : get_or ends b 0 < misfit_from
    low = word_end t e b (get_or ends b 0) [] (subst (λ (w : ℕ). fits t (e - b) b (w ∷ []) ≡ None) (sym sort) whole) known

    after : fits t (e - get_or ends b 0) (get_or ends b 0) [] ≡ None
    after = sym (pass t e b (get_or ends b 0) known 2 [] sort low) ∙ whole

pub whole_tree : (t ends : List ℕ) (b e : ℕ) → misfit t (e - b) b ≡ None → EndedFrom t ends b e → LinkedTree t ends b e
whole_tree t ends b e h k = record { links = linked t ends b e h k; ends_at = root_end t ends b e h k }

-- The four trees keep rule 7 together just where each does.
pub linked_all : (t ends : List ℕ) (roots : Roots) → AreRoots t roots → EndedAll t ends roots → misfits t ≡ None → LinkedAll t ends roots
unfolding misfits
linked_all t ends roots k all h =
    let fine = of_four_lem (λ x. misfit t (count t x) (root t x)) h in
    record {
      entry = whole_tree t ends 0 roots.exit (cc (n0 t roots k, root-zero t, fine 0 (omega arith))) all.entry;
      exit = whole_tree t ends roots.exit roots.short_entry (cc (n1 t roots k, k.one, fine 1 (omega arith))) all.exit;
      short_entry = whole_tree t ends roots.short_entry roots.short_exit (cc (n2 t roots k, k.two, fine 2 (omega arith))) all.short_entry;
      short_exit = whole_tree t ends roots.short_exit roots.end (cc (n3 t roots k, k.three, fine 3 (omega arith))) all.short_exit;
    }

-- A reach capped at 4,096 tells as much.
far_none : (r b : ℕ) → far_at r b ≡ None → r ≤ most_reach
unfolding far_at
far_none r b h = ⊎_elim (λ z. omega arith) (λ z. absurd (never_at b (sym (rw (lt-ltb most_reach r (omega arith))) ∙ h))) (eq-zero-or-pos (r - most_reach))

pub far_capped : (r b x : ℕ) → x ≡ min r most_rows → far_at x b ≡ far_at r b
unfolding far_at
far_capped r b x h = ⊎_elim
    (λ z. simp (le-ltb most_reach r (omega arith), le-ltb most_reach x (omega arith)))
    (λ z. simp (lt-ltb most_reach r (omega arith), lt-ltb most_reach x (omega arith)))
    (eq-zero-or-pos (r - most_reach))

pub nine_refused : (t : List ℕ) (p : ℕ) → too_far t ≡ Some p → Err (Refusal.Reach p) ≡ from9 t
unfolding from9 or_refused
nine_refused t p h = rw h

pub nine_accepted : (t : List ℕ) (n r : ℕ) → too_far t ≡ None → n ≡ u16 t 6 → r ≡ rows_needed t → accepts n r ≡ from9 t
unfolding from9 or_refused
nine_accepted t n r h hn hr = rw h (cc)

pub capped_small : (x y : ℕ) → x ≡ min y most_rows → x ≤ most_rows
capped_small x y h = omega arith

most_four : (w x y z w' x' y' z' : ℕ) → w ≡ w' → x ≡ x' → y ≡ y' → z ≡ z' → max (max w x) (max y z) ≡ max (max w' x') (max y' z')
most_four w x y z w' x' y' z' a b c d = cc

kept : (r b x : ℕ) → x ≡ min r most_rows → far_at r b ≡ None → x ≡ r
kept r b x h f = omega (arith, far_none r b f)

most_low : (w x y z : ℕ) → w ≤ most_rows → x ≤ most_rows → y ≤ most_rows → z ≤ most_rows → min (max (max w x) (max y z)) most_rows ≡ max (max w x) (max y z)
most_low w x y z a b c d = below (omega arith) (omega arith)
  where
    m : ℕ
    m = max (max w x) (max y z)

    below : max w x ≤ most_rows → max y z ≤ most_rows → min (max (max w x) (max y z)) most_rows ≡ max (max w x) (max y z)
    below p q = omega arith

module _ (t : List ℕ) (roots : Roots) (k : AreRoots t roots) where
  pub fars_are : (w x y z : ℕ) (f : Option ℕ) → w ≡ min (forest_reach (trees t (roots.exit - 0) 0)) most_rows
      → x ≡ min (forest_reach (trees t (roots.short_entry - roots.exit) roots.exit)) most_rows
      → y ≡ min (forest_reach (trees t (roots.short_exit - roots.short_entry) roots.short_entry)) most_rows
      → z ≡ min (forest_reach (trees t (roots.end - roots.short_exit) roots.short_exit)) most_rows
      → f ≡ first_place (far_at w 0) (far_at x roots.exit) (far_at y roots.short_entry) (far_at z roots.short_exit) → f ≡ too_far t
  fars_are w x y z f hw hx hy hz hf = hf ∙ four_far t roots k _ _ _ _ (far_capped _ 0 w hw) (far_capped _ _ x hx) (far_capped _ _ y hy) (far_capped _ _ z hz)

  pub rows_are : (w x y z r : ℕ) → w ≡ min (forest_reach (trees t (roots.exit - 0) 0)) most_rows
      → x ≡ min (forest_reach (trees t (roots.short_entry - roots.exit) roots.exit)) most_rows
      → y ≡ min (forest_reach (trees t (roots.short_exit - roots.short_entry) roots.short_entry)) most_rows
      → z ≡ min (forest_reach (trees t (roots.end - roots.short_exit) roots.short_exit)) most_rows → too_far t ≡ None
      → r ≡ min (max (max w x) (max y z)) most_rows + 1 → r ≡ rows_needed t
  unfolding too_far rows_needed tree_reach forest_of far_at
  rows_are w x y z r hw hx hy hz none hr =
      let near = of_four_lem (λ i. far_at (tree_reach t i) (root t i)) none in
      let w0 : w ≡ min (tree_reach t 0) most_rows = cc (n0 t roots k, root-zero t) in
      let x0 : x ≡ min (tree_reach t 1) most_rows = cc (n1 t roots k, k.one) in
      let y0 : y ≡ min (tree_reach t 2) most_rows = cc (n2 t roots k, k.two) in
      let z0 : z ≡ min (tree_reach t 3) most_rows = cc (n3 t roots k, k.three) in
      hr ∙ ap (λ (n : ℕ). n + 1)
      (most_low w x y z (capped_small w _ w0) (capped_small x _ x0) (capped_small y _ y0) (capped_small z _ z0) ∙
      most_four w x y z _ _ _ _ (kept _ _ w w0 (near 0 (omega arith))) (kept _ _ x x0 (near 1 (omega arith)))
      (kept _ _ y y0 (near 2 (omega arith))) (kept _ _ z z0 (near 3 (omega arith))))

pub zeros_at : (n j : ℕ) → get_or {A = ℕ} (replicate n 0) j 0 ≡ 0
zeros_at zero j = refl
zeros_at (suc n) zero = refl
zeros_at (suc n) (suc j) = zeros_at n j
