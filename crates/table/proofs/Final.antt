-- The parts of the check put together.
-- Assumes nothing.
use Rattle.std.specs.Prelude.{Err, None, Option, Result, Some, ℕ}
use Rattle.words.specs.Prelude.{◌≡◌, refl, sym, ◌∙◌, ap, cond, ⊎_elim, List, ℕ, ◌-◌, ◌≤◌, ◌<◌, arith, eq-zero-or-pos, zero-add, get_or, replicate, ext_get_or, ltb}
use Rattle.words.specs.Prelude.{lt-ltb, le-ltb}
use Rattle.words.specs.{Limits.most_nodes, declared.refusal.Refusal.Refusal}
use Rattle.table.specs.{Bytes.u16, Header.total, Header.header_refusal, Header.root, Nodes.wrong_node, Checked.or_refused, Checked.or_header, Checked.from9}
use Rattle.table.specs.{Checked.from8, Checked.from7, Checked.checked_up_to, Ends.ends_for, Ends.end_at, Ends.from, Ends.end_of_node, Ends.ends_all, Ends.Linked}
use Rattle.table.specs.{Passes.EndedFrom, declared.trees.Roots.Roots, Passes.AreRoots, Passes.EndedAll, Passes.LinkedAll, Laws.Ends.from_long}
use Rattle.table.specs.{Laws.Ends.from_at}
use Rattle.table.specs.{Laws.Header.header_right}
use Rattle.table.specs.{declared.answer.Accepted.Accepted}
use Rattle.table.specs.{Outcome.accepts}
use Rattle.table.proofs.{Linked.end_word}

-- One rule: it is broken, or what is left decides.
module _ (rule : ℕ → Refusal) (q : Option ℕ) (x rest : Result Accepted Refusal) (es ends : List ℕ) where
  pub stage_at : (p : ℕ) → q ≡ Some p → x ≡ Err (rule p) → es ≡ replicate most_nodes 0
      → (x ≡ or_refused rule q rest) × (es ≡ ends_for (or_refused rule q rest) ends)
  unfolding or_refused ends_for
  stage_at p h hx he = rw h (hx, he)

  pub stage_none : q ≡ None → x ≡ rest → es ≡ ends_for rest ends → (x ≡ or_refused rule q rest) × (es ≡ ends_for (or_refused rule q rest) ends)
  unfolding or_refused
  stage_none h hx he = rw h (hx, he)

module _ (header : Option Refusal) (x rest : Result Accepted Refusal) (es ends : List ℕ) where
  pub head_at : (why : Refusal) → header ≡ Some why → x ≡ Err why → es ≡ replicate most_nodes 0
      → (x ≡ or_header header rest) × (es ≡ ends_for (or_header header rest) ends)
  unfolding or_header ends_for
  head_at why h hx he = rw h (hx, he)

  pub head_none : header ≡ None → x ≡ rest → es ≡ ends_for rest ends → (x ≡ or_header header rest) × (es ≡ ends_for (or_header header rest) ends)
  unfolding or_header
  head_none h hx he = rw h (hx, he)

pub checked_is : (newest : ℕ) (t : List ℕ)
    → checked_up_to newest t ≡ or_header (header_refusal newest t) (or_refused Refusal.Node (wrong_node t (u16 t 6) 0) (from7 t))
unfolding checked_up_to from7 from8 from9
checked_is newest t = refl

-- An answer that is handed on, with the array beside it.
pub keep_refused : (a x : Result Accepted Refusal) (es ends : List ℕ) (why : Refusal) → a ≡ Err why → x ≡ Err why → es ≡ replicate most_nodes 0
    → (x ≡ a) × (es ≡ ends_for a ends)
unfolding ends_for
keep_refused a x es ends why ha hx he = rw ha (hx, he)

pub keep_accepted : (a : Result Accepted Refusal) (ends : List ℕ) (n r : ℕ) → a ≡ accepts n r → (accepts n r ≡ a) × (ends ≡ ends_for a ends)
unfolding ends_for
keep_accepted a ends n r ha = rw ha (refl, refl)

-- A header that breaks no rule gives the four trees' places.
pub head_roots : (newest : ℕ) (t : List ℕ) (roots : Roots) → header_refusal newest t ≡ None → roots.exit ≡ root t 1 → roots.short_entry ≡ root t 2
    → roots.short_exit ≡ root t 3 → roots.end ≡ total t → AreRoots t roots
unfolding root
head_roots newest t roots h ha hb hc he =
    let k = header_right newest t h in
    record {
      one = ha;
      two = hb;
      three = hc;
      four = omega (arith, k.sums);
      all = he;
      small = omega (arith, k.most);
      low = omega arith;
      mid = omega arith;
      high = omega (arith, k.sums);
    }

-- The array is the definition's.
low_word : (t ends : List ℕ) (b e j : ℕ) → e ≤ most_nodes → Linked t ends b e → EndedFrom t ends b e → b ≤ j → j < e → get_or ends j 0 ≡ end_at t (e - j) j
unfolding Linked EndedFrom
low_word t ends b e j small l k lo hi =
    let g = l j lo hi in
    end_word t e j (get_or ends j 0) hi (omega (arith, g.within)) (k j lo hi)

part : (t ends : List ℕ) (b e j x w : ℕ) → e ≡ x → e ≤ most_nodes → Linked t ends b e → EndedFrom t ends b e → b ≤ j → (e ≤ j → get_or ends j 0 ≡ w)
    → get_or ends j 0 ≡ cond (ltb j x) (end_at t (x - j) j) w
part t ends b e j x w same small l k lo other = ⊎_elim
    (λ z. simp (le-ltb j x (omega arith)) (other (omega arith)))
    (λ z. simp (lt-ltb j x (omega arith)) (low_word t ends b e j small l k lo (omega arith) ∙ ap (λ (y : ℕ). end_at t (y - j) j) same))
    (eq-zero-or-pos (e - j))

end_at_lem : (t ends : List ℕ) (roots : Roots) → AreRoots t roots → EndedAll t ends roots → LinkedAll t ends roots → (j : ℕ) → get_or ends j 0 ≡ end_of_node t j
unfolding end_of_node
end_at_lem t ends roots k all l j =
    part t ends 0 roots.exit j (root t 1) _ k.one (omega arith) l.entry.links all.entry (omega arith)
    (λ h1. part t ends roots.exit roots.short_entry j (root t 2) _ k.two (omega arith) l.exit.links all.exit h1
    (λ h2. part t ends roots.short_entry roots.short_exit j (root t 3) _ k.three (omega arith) l.short_entry.links all.short_entry h2
    (λ h3. part t ends roots.short_exit roots.end j (root t 4) 0 k.four (omega arith) l.short_exit.links all.short_exit h3
    (λ h4. all.past j h4))))

pub ends_are : (t ends : List ℕ) (roots : Roots) → AreRoots t roots → EndedAll t ends roots → LinkedAll t ends roots → ends ≡ ends_all t
unfolding ends_all
ends_are t ends roots k all l =
    ext_get_or 0 ends (from (end_of_node t) most_nodes 0) (all.long ∙ sym (from_long (end_of_node t) most_nodes 0))
    (λ j h. end_at_lem t ends roots k all l j ∙ ap (end_of_node t) (sym (zero-add j)) ∙
    sym (from_at (end_of_node t) 0 most_nodes 0 j (omega (arith, all.long))))

module _ (newest : ℕ) (t : List ℕ) (x : Result Accepted Refusal) (es ends : List ℕ) where
  right : (x ≡ or_header (header_refusal newest t) (or_refused Refusal.Node (wrong_node t (u16 t 6) 0) (from7 t)))
      × (es ≡ ends_for (or_header (header_refusal newest t) (or_refused Refusal.Node (wrong_node t (u16 t 6) 0) (from7 t))) ends)
      → (x ≡ checked_up_to newest t) × (es ≡ ends_for (checked_up_to newest t) ends)
  right h = rw (checked_is newest t) h

  pub one_at : (why : Refusal) → header_refusal newest t ≡ Some why → x ≡ Err why → es ≡ replicate most_nodes 0
      → (x ≡ checked_up_to newest t) × (es ≡ ends_for (checked_up_to newest t) ends)
  one_at why h hx he = right (head_at (header_refusal newest t) x _ es ends why h hx he)

  module _ (h : header_refusal newest t ≡ None) (n : ℕ) (all : n ≡ u16 t 6) (q : Option ℕ) (found : q ≡ wrong_node t n 0) where
    place : q ≡ wrong_node t (u16 t 6) 0
    place = found ∙ ap (λ (m : ℕ). wrong_node t m 0) all

    pub six_at : (p : ℕ) → q ≡ Some p → x ≡ Err (Refusal.Node p) → es ≡ replicate most_nodes 0
        → (x ≡ checked_up_to newest t) × (es ≡ ends_for (checked_up_to newest t) ends)
    six_at p hp hx he =
        let g = stage_at Refusal.Node (wrong_node t (u16 t 6) 0) x (from7 t) es ends p (sym place ∙ hp) hx he in
        right (head_none (header_refusal newest t) x _ es ends h g.0 g.1)

    pub six_none : q ≡ None → x ≡ from7 t → es ≡ ends_for (from7 t) ends → (x ≡ checked_up_to newest t) × (es ≡ ends_for (checked_up_to newest t) ends)
    six_none hp hx he =
        let g = stage_none Refusal.Node (wrong_node t (u16 t 6) 0) x (from7 t) es ends (sym place ∙ hp) hx he in
        right (head_none (header_refusal newest t) x _ es ends h g.0 g.1)
