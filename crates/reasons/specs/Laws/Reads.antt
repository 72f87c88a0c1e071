-- An operand has a value at a bar exactly where none of the leaves that it looks at is missing. Assumes nothing.
use Rattle.std.specs.Prelude.{ℕ, zero, suc, ◌+◌, ◌-◌, ◌≤◌, ◌<◌, ◌≡◌, refl, Bool, true, false, cond, ltb, Float, None, Option, Some}
use Rattle.words.specs.Prelude.{ap, subst, arith, le-ltb, lt-ltb}
use Rattle.words.specs.Prelude.{ltb-true, ltb-false}
use Rattle.rows.specs.{History.History}
use Rattle.table.specs.{declared.series.Series.Series, declared.series.Series.TheVariants.Price, declared.series.Series.TheVariants.Slot, Trees.Operand}
use Rattle.table.specs.{Trees.const, Trees.ref, Trees.price, Trees.prev, Trees.arith as sums, Trees.extreme, Series.as_operand, Writing.nodes_in}
use Rattle.rules.specs.{Values.combined}
use Rattle.rules.specs.{Values.pick, Meaning.newest, Meaning.there, Meaning.series_at, Meaning.extreme_over, Meaning.extreme_at, Meaning.value, Laws.Meaning.past}
use Rattle.rules.specs.{Laws.Meaning.extreme_early, Laws.Meaning.extreme_late}
use Rattle.chain.specs.{Missing.in_table}
use Rattle.chain.specs.{Missing.first_found, Missing.gone_if, Missing.leaf_gone, Missing.newest_gone, Missing.missing_in}

-- A leaf was found missing and so is the value, or none was and it is there.
pub data Reads : Option (ℕ × ℕ) → Option Float → Type 0 where
  gone : (node back : ℕ) → Reads (Some (node, back)) None
  got : (x : Float) → Reads None (Some x)

pub reads_gone : (i back : ℕ) (v : Option Float) → Reads (gone_if i back v) v
unfolding gone_if
reads_gone i back None = gone i back
reads_gone i back (Some x) = got x

-- of two values: both have to be there
reads_both : (kind : ℕ) {f g : Option (ℕ × ℕ)} {v w : Option Float} → Reads f v → Reads g w → Reads (first_found f g) (combined kind v w)
unfolding first_found combined
reads_both kind (gone node back) q = gone node back
reads_both kind (got x) (gone node back) = gone node back
reads_both kind (got x) (got y) = got _

-- of a newer and an older one
reads_pick : (kind : ℕ) {f g : Option (ℕ × ℕ)} {new old : Option Float} → Reads f new → Reads g old → Reads (first_found f g) (pick kind old new)
unfolding first_found pick
reads_pick kind (gone node back) (gone n b) = gone node back
reads_pick kind (gone node back) (got y) = gone node back
reads_pick kind (got x) (gone node back) = gone node back
reads_pick kind (got x) (got y) = got _

-- a missing one settles it
missing_first : {f : Option (ℕ × ℕ)} (g : Option (ℕ × ℕ)) → Reads f None → Reads (first_found f g) None
unfolding first_found
missing_first g (gone node back) = gone node back

missing_second : (f : Option (ℕ × ℕ)) {g : Option (ℕ × ℕ)} → Reads g None → Reads (first_found f g) None
unfolding first_found
missing_second (Some (node, back)) q = gone node back
missing_second None q = q

series_value : (h : History) (s : Series) (i : ℕ) → value h (as_operand s) i ≡ series_at h s i
unfolding value series_at as_operand
series_value h (Price selector) i = refl
series_value h (Slot slot) i = refl

module _ (h : History) (bar : ℕ) where
  -- a leaf at a bar that there was, and at one before the first
  leaf_reads : (a : Operand) (i back : ℕ) → back ≤ bar → Reads (leaf_gone h a i bar back) (value h a (bar - back))
  unfolding leaf_gone
  leaf_reads a i back l = rw (le-ltb bar back l) (reads_gone i back (value h a (bar - back)))

  leaf_far : (a : Operand) (i back : ℕ) → bar < back → Reads (leaf_gone h a i bar back) None
  unfolding leaf_gone
  leaf_far a i back l = rw (lt-ltb bar back l) (reads_gone i back None)

  -- a leaf over bars some of which are before the first
  newest_far : (a : Operand) (i back m : ℕ) → bar < back + m → Reads (newest_gone h a i bar back m) None
  unfolding newest_gone
  newest_far a i back zero l = leaf_far a i back (omega arith)
  newest_far a i back (suc m) l = missing_second (leaf_gone h a i bar back) (newest_far a i (back + 1) m (omega arith))

  -- any operand looked at before the first bar
  far : (a : Operand) (i back : ℕ) → bar < back → Reads (missing_in in_table h a i bar back) None
  unfolding missing_in
  far (const bits) i back l = leaf_far (const bits) i back l
  far (ref slot) i back l = leaf_far (ref slot) i back l
  far (price selector) i back l = leaf_far (price selector) i back l
  far (prev a n) i back l = far a (i + 1) (back + n) (omega arith)
  far (sums kind a b) i back l = missing_first _ (far a (i + 1) back l)
  far (extreme kind s n) i back l = newest_far (as_operand s) (i + 1) back (n - 1) (omega arith)

  -- a leaf over bars that there were
  newest_reads : (kind : ℕ) (s : Series) (i back m : ℕ) → back + m ≤ bar
      → Reads (newest_gone h (as_operand s) i bar back m) (extreme_over h kind s (bar - back - m) m)
  unfolding newest_gone extreme_over
  newest_reads kind s i back zero l =
      let at : bar - back - 0 ≡ bar - back = omega arith in
      rw (at, ← series_value h s (bar - back)) (leaf_reads (as_operand s) i back (omega arith))
  newest_reads kind s i back (suc m) l =
      let at : bar - back - suc m + suc m ≡ bar - back = omega arith in
      let oldest : bar - back - suc m ≡ bar - (back + 1) - m = omega arith in
      let older = ap (λ (o : ℕ). extreme_over h kind s o m) oldest in
      rw (at, ← series_value h s (bar - back), older)
      (reads_pick kind (leaf_reads (as_operand s) i back (omega arith)) (newest_reads kind s i (back + 1) m (omega arith)))

  extreme_reads : (kind : ℕ) (s : Series) (n i back : ℕ) → back ≤ bar → (early : Bool) → ltb (bar - back) (n - 1) ≡ early
      → Reads (newest_gone h (as_operand s) i bar back (n - 1)) (extreme_at h kind s n (bar - back))
  extreme_reads kind s n i back l true e =
      let few = ltb-true (bar - back) (n - 1) e in
      rw (extreme_early h kind s n (bar - back) few) (newest_far (as_operand s) i back (n - 1) (omega (arith, few)))
  extreme_reads kind s n i back l false e =
      let enough = ltb-false (bar - back) (n - 1) e in
      rw (extreme_late h kind s n (bar - back) enough) (newest_reads kind s i back (n - 1) (omega (arith, enough)))

  module _ (now : bar ≤ newest h) where
    -- Prev: its row is there, or there is no row at all
    prev_reads : (a : Operand) (n i back : ℕ) → back ≤ bar
        → (back + n ≤ bar → Reads (missing_in in_table h a i bar (back + n)) (value h a (bar - (back + n))))
        → (early held : Bool) → ltb (bar - back) n ≡ early → ltb (bar - back) h.rows ≡ held
        → Reads (missing_in in_table h a i bar (back + n)) (cond held (cond early None (value h a (bar - back - n))) None)
    unfolding newest
    prev_reads a n i back l deeper true held e f =
        let none : Reads (missing_in in_table h a i bar (back + n)) None = far a i (back + n) (omega (arith, ltb-true (bar - back) n e)) in
        either held none
      where
        either : (b : Bool) → Reads (missing_in in_table h a i bar (back + n)) None → Reads (missing_in in_table h a i bar (back + n)) (cond b None None)
        either true r = r
        either false r = r
    prev_reads a n i back l deeper false true e f =
        let at : bar - back - n ≡ bar - (back + n) = omega arith in
        rw at (deeper (omega (arith, ltb-false (bar - back) n e)))
    prev_reads a n i back l deeper false false e f =
        let no_rows : h.rows ≤ bar - (back + n) = omega (arith, ltb-false (bar - back) h.rows f) in
        subst (Reads (missing_in in_table h a i bar (back + n))) (past h a (bar - (back + n)) no_rows) (deeper (omega (arith, ltb-false (bar - back) n e)))

    -- A VALUE IS THERE exactly where no leaf is missing: at a bar up to the newest, looked at from so many bars later.
    pub reads : (a : Operand) (i back : ℕ) → back ≤ bar → Reads (missing_in in_table h a i bar back) (value h a (bar - back))
    unfolding missing_in value there
    reads (const bits) i back l = leaf_reads (const bits) i back l
    reads (ref slot) i back l = leaf_reads (ref slot) i back l
    reads (price selector) i back l = leaf_reads (price selector) i back l
    reads (prev a n) i back l =
        prev_reads a n (i + 1) back l (λ m. reads a (i + 1) (back + n) m) (ltb (bar - back) n) (ltb (bar - back) h.rows) refl refl
    reads (sums kind a b) i back l = reads_both kind (reads a (i + 1) back l) (reads b (i + 1 + nodes_in a) back l)
    reads (extreme kind s n) i back l = extreme_reads kind s n (i + 1) back l (ltb (bar - back) (n - 1)) refl
