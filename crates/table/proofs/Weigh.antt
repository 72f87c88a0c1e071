-- The laws of rules 8 and 9: what a row of trees weighs, one tree at a time, and where it is too deep.
-- Assumes nothing.
use Rattle.std.specs.Prelude.{None, Option, Some, ℕ}
use Rattle.words.specs.Prelude.{◌≡◌, refl, sym, ◌∙◌, ap, subst, ⊎_elim, ◌≢◌, List, ℕ, zero, suc, ◌+◌, ◌-◌, ◌≤◌, ◌<◌, max, min, arith, le_trans, eq-or-lt_of_le}
use Rattle.words.specs.Prelude.{eq-zero-or-pos, length, get_or, set, get_or-set_same, get_or-set_other}
use Rattle.words.specs.{Limits.most_rows}
use Rattle.table.specs.{declared.weighing.Weight.Weight, declared.nodes.Node.Node}
use Rattle.table.specs.{Nodes.node_at, Nodes.child_count_at, Order.or_place, Forest.Forest, Forest.none, Forest.tree}
use Rattle.table.specs.{Forest.first_trees, Forest.other_trees, Forest.node_over, Forest.trees, Nesting.deeper, Reach.weigh, Reach.own_back}
use Rattle.table.specs.{Reach.forest_reach, Ends.Link, Ends.Linked, Passes.WordsFrom, Passes.Most, Passes.weight, Laws.Forest.left_suc}
use Rattle.table.specs.{Laws.Forest.left_zero, Laws.Forest.first_none}

weigh_row : (w : Node → ℕ) (l : ℕ) (f : Forest) → weigh w (first_trees (suc l) f) ≡ max (weigh w (first_trees 1 f)) (weigh w (first_trees l (other_trees 1 f)))
unfolding weigh first_trees other_trees
weigh_row w l none = rw (first_none l)
weigh_row w l (tree n below rest) = omega arith

max-max : (m x y : ℕ) → max (max m x) y ≡ max m (max x y)
max-max m x y = omega arith

max-min : (a b c : ℕ) → max (min a c) (min b c) ≡ min (max a b) c
max-min a b c = omega arith

-- What is left of a turn through node i's children, with `left` of them to come at node j.
abbrev pub Rest : List ℕ → List ℕ → ℕ → ℕ → ℕ → ℕ → ℕ → Type 0
Rest t words i e left most j =
    (w : Node → ℕ) → WordsFrom t words w (i + 1) e
    → max most (min (weigh w (first_trees left (trees t (e - j) j))) most_rows)
    ≡ min (weigh w (first_trees (child_count_at t i) (trees t (e - (i + 1)) (i + 1)))) most_rows

module _ (t words : List ℕ) (i e : ℕ) where
  pub rest_all : (left : ℕ) → left ≡ child_count_at t i → Rest t words i e left 0 (i + 1)
  rest_all left h w k = rw h (omega arith)

  module _ (left most j : ℕ) (r : Rest t words i e left most j) where
    pub rest_turn : (v most' : ℕ) → most' ≡ max most (get_or words j 0) → (left ≡ 0 → ⊥) → i < j → j < e → Link t e j v
        → Rest t words i e (left - 1) most' v
    unfolding WordsFrom
    rest_turn v most' more some lo hi k w ws =
        ap (λ (x : ℕ). max x (min (weigh w (first_trees (left - 1) (trees t (e - v) v))) most_rows)) more ∙
        ap (λ (x : ℕ). max (max most x) (min (weigh w (first_trees (left - 1) (trees t (e - v) v))) most_rows)) (ws j (omega arith) hi) ∙
        max-max most _ _ ∙ ap (λ (x : ℕ). max most x) (max-min _ _ most_rows) ∙ ap (λ (x : ℕ). max most (min x most_rows)) (sym split) ∙ r w ws
      where
        pred : left ≡ suc (left - 1)
        pred = omega arith

        split : weigh w (first_trees left (trees t (e - j) j))
            ≡ max (weigh w (first_trees 1 (trees t (e - j) j))) (weigh w (first_trees (left - 1) (trees t (e - v) v)))
        split = ap (λ (x : ℕ). weigh w (first_trees x (trees t (e - j) j))) pred ∙ weigh_row w (left - 1) (trees t (e - j) j)
            ∙ ap (λ (f : Forest). max (weigh w (first_trees 1 (trees t (e - j) j))) (weigh w (first_trees (left - 1) f))) k.next

    pub rest_none : left ≡ 0 → Most t words i e most
    unfolding Most first_trees weigh
    rest_none h w ws = omega (arith, r w ws, ap (λ (x : ℕ). weigh w (first_trees x (trees t (e - j) j))) h)

    pub rest_end : e ≤ j → Most t words i e most
    unfolding Most weigh trees
    rest_end h w ws = omega (arith, r w ws, zero-weight)
      where
        zero-weight : weigh w (first_trees left (trees t (e - j) j)) ≡ 0
        zero-weight = ap (λ (x : ℕ). weigh w (first_trees left (trees t x j))) (left_zero e j h) ∙ ap (weigh w) (first_none left)

-- A node's word, from its own weight and its children's greatest.
first_weight : (w : Node → ℕ) (t : List ℕ) (i e : ℕ) → i < e
    → weigh w (first_trees 1 (trees t (e - i) i)) ≡ w (node_at t i) + weigh w (first_trees (child_count_at t i) (trees t (e - (i + 1)) (i + 1)))
unfolding weigh first_trees trees node_over
first_weight w t i e h = rw (left_suc e i h) (omega arith)

pub words_none : (t words : List ℕ) (w : Node → ℕ) (e : ℕ) → WordsFrom t words w e e
unfolding WordsFrom
words_none t words w e j lo hi = absurd (never lo hi)
  where
    never : e ≤ j → j < e → ⊥
    never lo hi = omega arith

pub words_more : (t : List ℕ) (w : Node → ℕ) (e i i' o m x : ℕ) (words : List ℕ) → i ≡ i' + 1 → i ≤ e → i' < length words
    → WordsFrom t words w i e → o ≡ min (w (node_at t i')) most_rows → Most t words i' e m → x ≡ min (o + m) most_rows → WordsFrom t (set words i' x) w i' e
unfolding WordsFrom Most
words_more t w e i i' o m x words step hi room k own most sum j lo h = ⊎_elim here there (eq-or-lt_of_le lo)
  where
    new : x ≡ min (weigh w (first_trees 1 (trees t (e - i') i'))) most_rows
    new = omega (arith, own, most w (λ j' lo' hi'. k j' (omega arith) hi'), sum, first_weight w t i' e (omega arith))

    here : i' ≡ j → get_or (set words i' x) j 0 ≡ min (weigh w (first_trees 1 (trees t (e - j) j))) most_rows
    here same =
        subst (λ (y : ℕ). get_or (set words i' x) y 0 ≡ min (weigh w (first_trees 1 (trees t (e - y) y))) most_rows) same (get_or-set_same words i' x 0 room ∙ new)

    other : i' < j → j ≢ i'
    other l = omega arith

    there : i' < j → get_or (set words i' x) j 0 ≡ min (weigh w (first_trees 1 (trees t (e - j) j))) most_rows
    there l = get_or-set_other words i' j x 0 (other l) ∙ k j (omega arith) h

pub links_next : (t ends : List ℕ) (b b' e : ℕ) → b ≤ b' → Linked t ends b e → Linked t ends b' e
unfolding Linked
links_next t ends b b' e h k j lo hi = k j (le_trans h lo) hi

pub words_at : (t words : List ℕ) (w : Node → ℕ) (i b e : ℕ) → i ≡ b → WordsFrom t words w i e → WordsFrom t words w b e
words_at t words w i b e same k = subst (λ (x : ℕ). WordsFrom t words w x e) same k

pub words_next : (t words : List ℕ) (w : Node → ℕ) (b b' e : ℕ) → b ≤ b' → WordsFrom t words w b e → WordsFrom t words w b' e
unfolding WordsFrom
words_next t words w b b' e h k j lo hi = k j (le_trans h lo) hi

pub most_small : (t words : List ℕ) (w : Node → ℕ) (i e m : ℕ) → Most t words i e m → WordsFrom t words w (i + 1) e → m ≤ most_rows
unfolding Most
most_small t words w i e m k ws = omega (arith, k w ws)

-- Rule 8.
or_or : (p q r : Option ℕ) → or_place p (or_place q r) ≡ or_place (or_place p q) r
unfolding or_place
or_or None q r = refl
or_or (Some x) q r = refl

pub deeper_split : (l k : ℕ) (f : Forest) → deeper l f ≡ or_place (deeper l (first_trees k f)) (deeper l (other_trees k f))
unfolding deeper or_place first_trees other_trees
deeper_split l zero f = refl
deeper_split l (suc k) none = refl
deeper_split zero (suc k) (tree n below rest) = refl
deeper_split (suc l) (suc k) (tree n below rest) =
    ap (λ (p : Option ℕ). or_place (deeper l below) p) (deeper_split (suc l) k rest) ∙ or_or (deeper l below) _ _

shallow : (l : ℕ) (f : Forest) → weigh (weight Weight.Levels) f ≤ l → deeper l f ≡ None
unfolding deeper or_place weigh weight
shallow l none h = refl
shallow zero (tree n below rest) h = absurd (never h)
  where
    never : max (1 + weigh (weight Weight.Levels) below) (weigh (weight Weight.Levels) rest) ≤ 0 → ⊥
    never h' = omega arith
shallow (suc l) (tree n below rest) h = rw (shallow l below (omega arith), shallow (suc l) rest (omega arith))

or_found : (q : Option ℕ) (p : ℕ) → (r : ℕ) × (or_place q (Some p) ≡ Some r)
unfolding or_place
or_found None p = (p, refl)
or_found (Some x) p = (x, refl)

found : (l : ℕ) (f : Forest) → l < weigh (weight Weight.Levels) f → (p : ℕ) × (deeper l f ≡ Some p)
unfolding deeper or_place weigh weight
found l none h = absurd (never h)
  where
    never : l < 0 → ⊥
    never h' = omega arith
found zero (tree n below rest) h = (n.number, refl)
found (suc l) (tree n below rest) h =
    ⊎_elim
    (λ z. let g = found (suc l) rest (omega arith) in let r = or_found (deeper l below) g.0 in (r.0, rw g.1 r.1))
    (λ z. let g = found l below (omega arith) in (g.0, rw g.1))
    (eq-zero-or-pos (weigh (weight Weight.Levels) below - l))

module _ (t : List ℕ) (e j left : ℕ) where
  pub deep_here : j < e → left ≡ 0 → Some j ≡ deeper left (trees t (e - j) j)
  unfolding deeper trees node_over node_at
  deep_here h z = rw (left_suc e j h, z)

  pub deep_end : e ≤ j → None ≡ deeper left (trees t (e - j) j)
  unfolding deeper trees
  deep_end h = rw (left_zero e j h)

  module _ (x : ℕ) (h : j < e) (word : x ≡ min (weigh (weight Weight.Levels) (first_trees 1 (trees t (e - j) j))) most_rows) (some : left ≡ 0 → ⊥) where
    pred : left ≡ suc (left - 1)
    pred = omega arith

    below : Forest
    below = first_trees (child_count_at t j) (trees t (e - (j + 1)) (j + 1))

    above : Forest
    above = other_trees (child_count_at t j) (trees t (e - (j + 1)) (j + 1))

    own : weigh (weight Weight.Levels) (first_trees 1 (trees t (e - j) j)) ≡ 1 + weigh (weight Weight.Levels) below
    unfolding weight below
    own = first_weight (weight Weight.Levels) t j e h

    two : deeper left (trees t (e - j) j) ≡ or_place (deeper (left - 1) below) (deeper left above)
    unfolding deeper trees node_over below above
    two = ap (λ (m : ℕ). deeper left (trees t m j)) (left_suc e j h) ∙
        ap (λ (l : ℕ). deeper l (trees t (suc (e - (j + 1))) j)) pred ∙
        ap (λ (l : ℕ). or_place (deeper (left - 1) (first_trees (child_count_at t j) (trees t (e - (j + 1)) (j + 1))))
        (deeper l (other_trees (child_count_at t j) (trees t (e - (j + 1)) (j + 1))))) (sym pred)

    pub deep_down : left < x → deeper left (trees t (e - j) j) ≡ deeper (left - 1) (trees t (e - (j + 1)) (j + 1))
    unfolding or_place below
    deep_down g =
        let p = found (left - 1) below (omega (arith, own)) in
        two ∙ rw p.1 (sym (deeper_split (left - 1) (child_count_at t j) (trees t (e - (j + 1)) (j + 1)) ∙ rw p.1))

    skipped : other_trees 1 (trees t (e - j) j) ≡ above
    unfolding other_trees trees node_over above
    skipped = rw (left_suc e j h)

    pub deep_over : (v : ℕ) → x ≤ left → left ≤ 32 → Link t e j v → deeper left (trees t (e - j) j) ≡ deeper left (trees t (e - v) v)
    unfolding or_place
    deep_over v g small k =
        two ∙ ap (λ (p : Option ℕ). or_place p (deeper left above)) (shallow (left - 1) below (omega (arith, own))) ∙
        ap (λ (f : Forest). deeper left f) (sym skipped ∙ k.next)

-- Rule 9.
pub reach_none : (t : List ℕ) (b e : ℕ) → e ≤ b → 0 ≡ min (forest_reach (trees t (e - b) b)) most_rows
unfolding forest_reach weigh trees
reach_none t b e h = rw (left_zero e b h)

weigh_two : (w : Node → ℕ) (f : Forest) → weigh w f ≡ max (weigh w (first_trees 1 f)) (weigh w (other_trees 1 f))
unfolding weigh first_trees other_trees
weigh_two w none = refl
weigh_two w (tree n below rest) = omega arith

pub reach_one : (t : List ℕ) (b e x v : ℕ) → x ≡ min (weigh (weight Weight.Bars) (first_trees 1 (trees t (e - b) b))) most_rows
    → Link t e b v → v ≡ e → x ≡ min (forest_reach (trees t (e - b) b)) most_rows
unfolding forest_reach weigh weight trees
reach_one t b e x v word k all = omega (arith, word, weigh_two own_back (trees t (e - b) b), none_after)
  where
    none_after : weigh own_back (other_trees 1 (trees t (e - b) b)) ≡ 0
    none_after = ap (weigh own_back) k.next ∙ ap (λ (m : ℕ). weigh own_back (trees t m v)) (left_zero e v (omega arith))
