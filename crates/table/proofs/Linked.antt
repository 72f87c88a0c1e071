-- Where rule 7 is kept, the words that its pass leaves are the subtree ends, and lead through the trees.
-- Assumes nothing.
use Rattle.std.specs.Prelude.{None}
use Rattle.words.specs.Prelude.{◌≡◌, sym, ◌∙◌, subst, ⊎_elim, List, [], ◌∷◌, ℕ, ◌+◌, ◌-◌, ◌≤◌, ◌<◌, arith, eq-zero-or-pos, lt_of_le_of_lt, get_or}
use Rattle.table.specs.{Nodes.sort_at, Order.fits, Order.misfit, Ends.place_or, Ends.end_at, Ends.Link}
use Rattle.table.specs.{Ends.Linked, Passes.Ended, Passes.EndedFrom, Passes.misfit_from, Laws.Order.never_at, Laws.Order.each, Laws.Order.link_end}
use Rattle.table.proofs.{Prefix.after_at, Prefix.after_end, Prefix.fits_two, Prefix.fits_soon, Prefix.fits_done}

pub word_end : (t : List ℕ) (e j v : ℕ) (us : List ℕ) → fits t (e - j) j (sort_at t j ∷ us) ≡ None → Ended t e j v → v < misfit_from
word_end t e j v us g k =
    ⊎_elim (λ z. omega arith) (λ l. absurd (never_at (v - misfit_from) (sym (after_at t e v us (omega arith)) ∙ sym (k.skips us) ∙ g)))
    (eq-zero-or-pos (v - 511))

-- a word that is an end is the definition's
pub end_word : (t : List ℕ) (e j v : ℕ) → j < e → v < misfit_from → Ended t e j v → v ≡ end_at t (e - j) j
unfolding end_at place_or
end_word t e j v hi low k = ⊎_elim
    (λ z. rw (word ∙ fits_done t e v (omega arith)) (omega (arith, k.within low)))
    (λ z. rw (word ∙ fits_soon t e v (omega arith)))
    (eq-zero-or-pos (e - v))
  where
    word : fits t (e - j) j (sort_at t j ∷ []) ≡ fits t (e - v) v []
    word = k.skips [] ∙ after_end t e v [] low

pub link : (t : List ℕ) (b e j v : ℕ) → fits t (e - b) b (2 ∷ []) ≡ None → b ≤ j → j < e → Ended t e j v → Link t e j v
link t b e j v h lo hi k =
    let g = each t (e - b) b (j - b) (2 ∷ []) h (omega arith) in
    let less : e - b - (j - b) ≡ e - j = omega arith in
    let place : b + (j - b) ≡ j = omega arith in
    let low = word_end t e j v g.0 (rw (less, place) at g.1) k in
    subst (λ (x : ℕ). Link t e j x) (sym (end_word t e j v hi low k)) (link_end t b e j (2 ∷ []) h lo hi)

pub linked : (t ends : List ℕ) (b e : ℕ) → misfit t (e - b) b ≡ None → EndedFrom t ends b e → Linked t ends b e
unfolding EndedFrom Linked
linked t ends b e h k j lo hi = link t b e j (get_or ends j 0) (fits_two t b e (lt_of_le_of_lt lo hi) ∙ h) lo hi (k j lo hi)
