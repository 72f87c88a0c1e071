-- Rule 7, one step at a time: what `fits` says at a node, and at a node whose end is known.
-- Assumes nothing.
use Rattle.std.specs.Prelude.{None, Some}
use Rattle.words.specs.Prelude.{◌≡◌, refl, sym, ◌∙◌, ap, subst, true, false, List, [], ◌∷◌, ◌++◌, ℕ, suc, ◌+◌, ◌-◌, ◌≤◌, ◌<◌, arith, le_trans, eq-or-lt_of_le}
use Rattle.words.specs.Prelude.{⊎_elim, ◌≢◌, length, get_or, set, replicate, get_or-set_same, get_or-set_other, eq-eqb, ne_eqb, lt-ltb, le-ltb}
use Rattle.words.specs.{Limits.most_nodes}
use Rattle.table.specs.{Nodes.sort_at, Nodes.child_count_at}
use Rattle.table.specs.{Nodes.child_sort_at, Nodes.child_fits_at, Order.fits, Order.misfit, Passes.fits_after, Passes.Ended, Passes.EndedFrom, Passes.Ordered}
use Rattle.table.specs.{Passes.misfit_from, Laws.Forest.left_suc, Laws.Forest.left_zero}

module _ (t : List ℕ) (e i : ℕ) where
  pub fits_node : i < e → (w : ℕ) (ws : List ℕ) → sort_at t i ≡ w → child_fits_at t i ≡ true
      → fits t (e - i) i (w ∷ ws) ≡ fits t (e - (i + 1)) (i + 1) (replicate (child_count_at t i) (child_sort_at t i) ++ ws)
  unfolding fits
  fits_node h w ws s c = rw (left_suc e i h, eq-eqb _ _ s, c)

  pub fits_child : i < e → (w : ℕ) (ws : List ℕ) → sort_at t i ≡ w → child_fits_at t i ≡ false → fits t (e - i) i (w ∷ ws) ≡ Some (i + 1)
  unfolding fits
  fits_child h w ws s c = rw (left_suc e i h, eq-eqb _ _ s, c)

  pub fits_other : i < e → (w : ℕ) (ws : List ℕ) → (sort_at t i ≡ w → ⊥) → fits t (e - i) i (w ∷ ws) ≡ Some i
  unfolding fits
  fits_other h w ws s = rw (left_suc e i h, ne_eqb _ _ s)

  pub fits_short : e ≤ i → (w : ℕ) (ws : List ℕ) → fits t (e - i) i (w ∷ ws) ≡ Some i
  unfolding fits
  fits_short h w ws = rw (left_zero e i h)

  pub fits_soon : i < e → fits t (e - i) i [] ≡ Some i
  unfolding fits
  fits_soon h = rw (left_suc e i h)

  pub fits_done : e ≤ i → fits t (e - i) i [] ≡ None
  unfolding fits
  fits_done h = rw (left_zero e i h)

pub more : (k x : ℕ) (ws : List ℕ) → 0 < k → replicate k x ++ ws ≡ x ∷ (replicate (k - 1) x ++ ws)
more k x ws h = ap (λ (n : ℕ). replicate n x ++ ws) k_suc
  where
    k_suc : k ≡ suc (k - 1)
    k_suc = omega arith

pub after_end : (t : List ℕ) (e v : ℕ) (ws : List ℕ) → v < misfit_from → fits_after t e v ws ≡ fits t (e - v) v ws
unfolding fits_after
after_end t e v ws h = rw (lt-ltb _ _ h)

pub after_at : (t : List ℕ) (e v : ℕ) (ws : List ℕ) → misfit_from ≤ v → fits_after t e v ws ≡ Some (v - misfit_from)
unfolding fits_after
after_at t e v ws h = rw (le-ltb _ _ h)

-- A node whose word is known is passed in one step.
module _ (t : List ℕ) (e j v : ℕ) (k : Ended t e j v) where
  pub pass : (w : ℕ) (ws : List ℕ) → sort_at t j ≡ w → v < misfit_from → fits t (e - j) j (w ∷ ws) ≡ fits t (e - v) v ws
  pass w ws s h = ap (λ (x : ℕ). fits t (e - j) j (x ∷ ws)) (sym s) ∙ k.skips ws ∙ after_end t e v ws h

  pub stop : (w : ℕ) (ws : List ℕ) → sort_at t j ≡ w → misfit_from ≤ v → fits t (e - j) j (w ∷ ws) ≡ Some (v - misfit_from)
  stop w ws s h = ap (λ (x : ℕ). fits t (e - j) j (x ∷ ws)) (sym s) ∙ k.skips ws ∙ after_at t e v ws h

-- What is wanted of node i's children, of which `left` of the sort `of` are still to come at node j.
abbrev pub Here : List ℕ → ℕ → ℕ → ℕ → ℕ → ℕ → Type 0
Here t e i of left j = (ws : List ℕ) → fits t (e - i) i (sort_at t i ∷ ws) ≡ fits t (e - j) j (replicate left of ++ ws)

module _ (t : List ℕ) (e i : ℕ) where
  pub begin : (many of : ℕ) → i < e → child_fits_at t i ≡ true → many ≡ child_count_at t i → of ≡ child_sort_at t i → Here t e i of many (i + 1)
  begin many of h c m o ws =
      fits_node t e i h (sort_at t i) ws refl c ∙
      ap (λ (k : ℕ). fits t (e - (i + 1)) (i + 1) (replicate k (child_sort_at t i) ++ ws)) (sym m) ∙
      ap (λ (s : ℕ). fits t (e - (i + 1)) (i + 1) (replicate many s ++ ws)) (sym o)

  stopped : (p : ℕ) → p < misfit_from → ((ws : List ℕ) → fits t (e - i) i (sort_at t i ∷ ws) ≡ Some p) → Ended t e i (misfit_from + p)
  stopped p small all =
      record {
        skips = λ ws. all ws ∙ ap Some less ∙ sym (after_at t e (misfit_from + p) ws (omega arith));
        beyond = λ l. absurd (never l);
        within = λ l. absurd (never l);
        small = omega arith;
      }
    where
      less : p ≡ misfit_from + p - misfit_from
      less = omega arith

      never : misfit_from + p < misfit_from → ⊥
      never l = omega arith

  -- the first child is none that the node takes
  pub wrong_child : i < e → i + 1 < misfit_from → child_fits_at t i ≡ false → Ended t e i (misfit_from + (i + 1))
  wrong_child h small c = stopped (i + 1) small (λ ws. fits_child t e i h (sort_at t i) ws refl c)

  module _ (of left j : ℕ) (here : Here t e i of left j) (some : 0 < left) where
    at_once : (ws : List ℕ) → fits t (e - i) i (sort_at t i ∷ ws) ≡ fits t (e - j) j (of ∷ (replicate (left - 1) of ++ ws))
    at_once ws = here ws ∙ ap (λ (l : List ℕ). fits t (e - j) j l) (more left of ws some)

    pub turn : (v : ℕ) → sort_at t j ≡ of → v < misfit_from → Ended t e j v → Here t e i of (left - 1) v
    turn v s h k ws = at_once ws ∙ pass t e j v k of _ s h

    pub cut_short : e ≤ j → j < misfit_from → Ended t e i (misfit_from + j)
    cut_short h small = stopped j small (λ ws. at_once ws ∙ fits_short t e j h of _)

    pub wrong : j < e → j < misfit_from → (sort_at t j ≡ of → ⊥) → Ended t e i (misfit_from + j)
    wrong h small s = stopped j small (λ ws. at_once ws ∙ fits_other t e j h of _ s)

    pub inside : (v : ℕ) → sort_at t j ≡ of → misfit_from ≤ v → Ended t e j v → Ended t e i v
    inside v s h k =
        record {
          skips = λ ws. at_once ws ∙ stop t e j v k of _ s h ∙ sym (after_at t e v ws h);
          beyond = λ l. absurd (never l);
          within = λ l. absurd (never l);
          small = k.small;
        }
      where
        never : v < misfit_from → ⊥
        never l = omega arith

  pub closed : (of left j : ℕ) → Here t e i of left j → left ≡ 0 → i < j → j ≤ e → e ≤ most_nodes → Ended t e i j
  closed of left j here none lo hi small =
      record {
        skips = λ ws. here ws ∙ ap (λ (k : ℕ). fits t (e - j) j (replicate k of ++ ws)) none ∙ sym (after_end t e j ws (omega arith));
        beyond = λ _. lo;
        within = λ _. hi;
        small = omega arith;
      }

-- The array, one word at a time, from the last node of a tree to its first.
pub order_none : (t : List ℕ) (e : ℕ) (given : List ℕ) → Ordered t e e given given
unfolding EndedFrom
order_none t e given = record { known = λ j lo hi. absurd (never j lo hi); below = λ j h. refl; above = λ j h. refl }
  where
    never : (j : ℕ) → e ≤ j → j < e → ⊥
    never j lo hi = omega arith

pub from_next : (t ends : List ℕ) (b b' e : ℕ) → b ≤ b' → EndedFrom t ends b e → EndedFrom t ends b' e
unfolding EndedFrom
from_next t ends b b' e h k j lo hi = k j (le_trans h lo) hi

pub order_more : (t : List ℕ) (e i i' v : ℕ) (given ends : List ℕ) → i ≡ i' + 1 → i ≤ e → i' < length ends
    → Ordered t i e given ends → Ended t e i' v → Ordered t i' e given (set ends i' v)
unfolding EndedFrom
order_more t e i i' v given ends step hi room k new =
    record {
      known = λ j lo h. ⊎_elim (here j) (λ l. there j l h) (eq-or-lt_of_le lo);
      below = λ j h. get_or-set_other ends i' j v 0 (less j h) ∙ k.below j (omega arith);
      above = λ j h. get_or-set_other ends i' j v 0 (more' j h) ∙ k.above j h;
    }
  where
    here : (j : ℕ) → i' ≡ j → Ended t e j (get_or (set ends i' v) j 0)
    here j same = subst (λ (x : ℕ). Ended t e x (get_or (set ends i' v) x 0)) same (subst (λ (x : ℕ). Ended t e i' x) (sym (get_or-set_same ends i' v 0 room)) new)

    there : (j : ℕ) → i' < j → j < e → Ended t e j (get_or (set ends i' v) j 0)
    there j l h = subst (λ (x : ℕ). Ended t e j x) (sym (get_or-set_other ends i' j v 0 (omega arith))) (k.known j (omega arith) h)

    less : (j : ℕ) → j < i' → j ≢ i'
    less j h = omega arith

    more' : (j : ℕ) → e ≤ j → j ≢ i'
    more' j h = omega arith

-- One tree's verdict, from its root's word.
module _ (t : List ℕ) (b e : ℕ) where
  pub misfit_none : e ≤ b → None ≡ misfit t (e - b) b
  unfolding misfit
  misfit_none h = rw (left_zero e b h)

  pub fits_two : b < e → fits t (e - b) b (2 ∷ []) ≡ misfit t (e - b) b
  unfolding misfit
  fits_two h = simp (ne_eqb _ _ some)
    where
      some : e - b ≡ 0 → ⊥
      some z = omega arith

  pub misfit_sort : b < e → (sort_at t b ≡ 2 → ⊥) → Some b ≡ misfit t (e - b) b
  misfit_sort h s = sym (fits_other t e b h 2 [] s) ∙ fits_two h

  module _ (v : ℕ) (h : b < e) (s : sort_at t b ≡ 2) (k : Ended t e b v) where
    pub misfit_inside : misfit_from ≤ v → Some (v - misfit_from) ≡ misfit t (e - b) b
    misfit_inside g = sym (stop t e b v k 2 [] s g) ∙ fits_two h

    pub misfit_soon : v < misfit_from → v < e → Some v ≡ misfit t (e - b) b
    misfit_soon g l = sym (pass t e b v k 2 [] s g ∙ fits_soon t e v l) ∙ fits_two h

    pub misfit-fits : v < misfit_from → e ≤ v → None ≡ misfit t (e - b) b
    misfit-fits g l = sym (pass t e b v k 2 [] s g ∙ fits_done t e v l) ∙ fits_two h

pub order_at : (t : List ℕ) (i b e : ℕ) (given ends : List ℕ) → i ≡ b → Ordered t i e given ends → Ordered t b e given ends
order_at t i b e given ends same k = subst (λ (x : ℕ). Ordered t x e given ends) same k
