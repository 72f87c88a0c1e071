-- What the line of a node shows, by the node's shape. Assumes nothing.
use Rattle.std.specs.Prelude.{Float, None, Option, Some, ℕ}
use Rattle.words.specs.Prelude.{ℕ, ◌-◌, ◌≡◌, sym, ◌∙◌, Bool, true, false, cond, List, [], ◌∷◌, eqb, ltb}
use Rattle.rows.specs.{History.History}
use Rattle.rules.specs.{declared.position.PositionState.PositionState, declared.shapes.ConditionShape.ConditionShape}
use Rattle.rules.specs.{declared.shapes.ConditionShape.TheVariants.Compare, declared.shapes.ConditionShape.TheVariants.Cross}
use Rattle.rules.specs.{declared.shapes.ConditionShape.TheVariants.Between, declared.shapes.ConditionShape.TheVariants.Trend}
use Rattle.rules.specs.{declared.shapes.ConditionShape.TheVariants.Group, declared.shapes.ConditionShape.TheVariants.Not}
use Rattle.rules.specs.{declared.shapes.ConditionShape.TheVariants.InPosition, declared.shapes.ConditionShape.TheVariants.BarsSince}
use Rattle.rules.specs.{declared.shapes.ConditionShape.TheVariants.NoCondition, Meaning.value, Shapes.condition_shape, Flat.flat_operand_at, Flat.group}
use Rattle.rules.specs.{Flat.grow_condition, Flat.flat_condition_at}
use Rattle.rules.proofs.{Grown.no_condition, Grown.grown_condition}
use Rattle.chain.specs.{declared.shown.Detail.Detail, Missing.first_found, Missing.missing_in, Missing.missing_in_two, Missing.missing_in_three, Chain.shown_by}
use Rattle.chain.specs.{Chain.shown_since, Chain.shown, Chain.at_first_bar, Chain.too_few_bars, Lines.value_word, Lines.value_words, Lines.detail}
use Rattle.chain.specs.{Lines.detail_of, Lines.leaf_or, Flat.by_ends, Laws.Shapes.ConditionPlaced, Laws.Shapes.condition_placed}

-- the values, by their words, or the missing leaf
pub two_shown : (g : Option (ℕ × ℕ)) (x y : Option Float) (r : Detail) (p q : ℕ) → p ≡ value_word x → q ≡ value_word y
    → r ≡ leaf_or g (record { sort = 1; used = 2; first = p; second = q; third = 0; fourth = 0 }) → r ≡ detail_of (shown_by g (x ∷ y ∷ []))
unfolding leaf_or shown_by detail_of detail value_words
two_shown (Some (node, back)) x y r p q e f o = o
two_shown None x y r p q e f o = o ∙ rw (e, f)

pub three_shown : (g : Option (ℕ × ℕ)) (x y z : Option Float) (r : Detail) (p q w : ℕ) → p ≡ value_word x → q ≡ value_word y → w ≡ value_word z
    → r ≡ leaf_or g (record { sort = 1; used = 3; first = p; second = q; third = w; fourth = 0 }) → r ≡ detail_of (shown_by g (x ∷ y ∷ z ∷ []))
unfolding leaf_or shown_by detail_of detail value_words
three_shown (Some (node, back)) x y z r p q w e f k o = o
three_shown None x y z r p q w e f k o = o ∙ rw (e, f, k)

pub four_shown : (g : Option (ℕ × ℕ)) (x y z u : Option Float) (r : Detail) (p q w k : ℕ) → p ≡ value_word x → q ≡ value_word y → w ≡ value_word z → k ≡ value_word u
    → r ≡ leaf_or g (record { sort = 1; used = 4; first = p; second = q; third = w; fourth = k }) → r ≡ detail_of (shown_by g (x ∷ y ∷ z ∷ u ∷ []))
unfolding leaf_or shown_by detail_of detail value_words
four_shown (Some (node, back)) x y z u r p q w k e f l m o = o
four_shown None x y z u r p q w k e f l m o = o ∙ rw (e, f, l, m)

module _ (t ends : List ℕ) (h : History) (s : PositionState) (i bar left : ℕ) (r : Detail) where
  -- with no level left
  pub shown_deep : left ≡ 0 → r ≡ detail 0 [] → r ≡ detail_of (shown (by_ends ends) h s (flat_condition_at left t ends i) i bar)
  unfolding shown detail_of
  shown_deep e p = rw (no_condition t ends i left e) p

  -- the missing leaf and the value at a node, with a level less
  unfoldable pub gone : ℕ → ℕ → Option (ℕ × ℕ)
  gone j back = missing_in (by_ends ends) h (flat_operand_at (left - 1) t ends j) j bar back

  unfoldable pub worth : ℕ → ℕ → Option Float
  worth j at = value h (flat_operand_at (left - 1) t ends j) at

  module _ (some : left ≡ 0 → ⊥) (sh : ConditionShape) (e : sh ≡ condition_shape t ends i) where
    placed : (u : ConditionShape) → sh ≡ u → ConditionPlaced t ends i u
    placed u f = rw (sym e ∙ f) at (condition_placed t ends i)

    pub shown_compare : (kind a b : ℕ) → sh ≡ Compare kind a b → r ≡ detail_of (shown_by (first_found (gone a 0) (gone b 0)) (worth a bar ∷ worth b bar ∷ []))
        → r ≡ detail_of (shown (by_ends ends) h s (flat_condition_at left t ends i) i bar)
    unfolding shown grow_condition missing_in_two by_ends ConditionPlaced gone worth
    shown_compare kind a b f p =
        let at = placed (Compare kind a b) f in
        rw (grown_condition t ends i left some sh (Compare kind a b) e f, at.0, at.1) (rw (at.0, at.1) at p)

    pub shown_cross : (kind a b : ℕ) → sh ≡ Cross kind a b
        → r ≡ detail_of (cond (eqb bar 0) at_first_bar (shown_by (first_found (first_found (gone a 0) (gone b 0)) (first_found (gone a 1) (gone b 1)))
        (worth a bar ∷ worth b bar ∷ worth a (bar - 1) ∷ worth b (bar - 1) ∷ [])))
        → r ≡ detail_of (shown (by_ends ends) h s (flat_condition_at left t ends i) i bar)
    unfolding shown grow_condition missing_in_two by_ends ConditionPlaced gone worth
    shown_cross kind a b f p =
        let at = placed (Cross kind a b) f in
        rw (grown_condition t ends i left some sh (Cross kind a b) e f, at.0, at.1) (rw (at.0, at.1) at p)

    pub shown_between : (x low high : ℕ) → sh ≡ Between x low high
        → r ≡ detail_of (shown_by (first_found (first_found (gone x 0) (gone low 0)) (gone high 0)) (worth x bar ∷ worth low bar ∷ worth high bar ∷ []))
        → r ≡ detail_of (shown (by_ends ends) h s (flat_condition_at left t ends i) i bar)
    unfolding shown grow_condition missing_in_two missing_in_three by_ends ConditionPlaced gone worth
    shown_between x low high f p =
        let at = placed (Between x low high) f in
        rw (grown_condition t ends i left some sh (Between x low high) e f, at.0, at.1, at.2) (rw (at.0, at.1, at.2) at p)

    pub shown_trend : (kind a n : ℕ) → sh ≡ Trend kind a n
        → r ≡ detail_of (cond (ltb bar n) too_few_bars (shown_by (first_found (gone a 0) (gone a n)) (worth a bar ∷ worth a (bar - n) ∷ [])))
        → r ≡ detail_of (shown (by_ends ends) h s (flat_condition_at left t ends i) i bar)
    unfolding shown grow_condition ConditionPlaced gone worth
    shown_trend kind a n f p =
        let at = placed (Trend kind a n) f in
        rw (grown_condition t ends i left some sh (Trend kind a n) e f, at.0) (rw at.0 at p)

    pub shown-group : (all : Bool) (n j : ℕ) → sh ≡ Group all n j → r ≡ detail 0 []
        → r ≡ detail_of (shown (by_ends ends) h s (flat_condition_at left t ends i) i bar)
    unfolding shown grow_condition group detail_of
    shown-group true n j f p = rw (grown_condition t ends i left some sh (Group true n j) e f) p
    shown-group false n j f p = rw (grown_condition t ends i left some sh (Group false n j) e f) p

    pub shown_not : (a : ℕ) → sh ≡ Not a → r ≡ detail 0 [] → r ≡ detail_of (shown (by_ends ends) h s (flat_condition_at left t ends i) i bar)
    unfolding shown grow_condition detail_of
    shown_not a f p = rw (grown_condition t ends i left some sh (Not a) e f) p

    pub shown_position : (wanted : Bool) → sh ≡ InPosition wanted → r ≡ detail 5 []
        → r ≡ detail_of (shown (by_ends ends) h s (flat_condition_at left t ends i) i bar)
    unfolding shown grow_condition detail_of
    shown_position wanted f p = rw (grown_condition t ends i left some sh (InPosition wanted) e f) p

    pub shown_since_lem : (selector k : ℕ) → sh ≡ BarsSince selector k → r ≡ detail_of (shown_since s)
        → r ≡ detail_of (shown (by_ends ends) h s (flat_condition_at left t ends i) i bar)
    unfolding shown grow_condition
    shown_since_lem selector k f p = rw (grown_condition t ends i left some sh (BarsSince selector k) e f) p

    pub shown_none : sh ≡ NoCondition → r ≡ detail 0 [] → r ≡ detail_of (shown (by_ends ends) h s (flat_condition_at left t ends i) i bar)
    unfolding shown grow_condition detail_of
    shown_none f p = rw (grown_condition t ends i left some sh NoCondition e f) p
