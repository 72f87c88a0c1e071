-- Each line is true of the rule's meaning, and shows all that is: what a line shows is true of its condition (Telling), and nothing else is. At any
-- bar up to the newest.
use Rattle.std.specs.Prelude.{ℕ, zero, suc, ◌+◌, ◌-◌, ◌≤◌, ◌<◌, ◌≡◌, refl, Bool, true, false, cond, ◌&&◌, List, [], ◌∷◌, ◌++◌, ◌⊎◌, ltb, eqb, Float, None, Option, Some}
use Rattle.words.specs.Prelude.{sym, ap, inl}
use Rattle.words.specs.Prelude.{inr, arith, eqb-true, eqb-false, ne_eqb, ltb-true, ltb-false, lt-ltb, le-ltb}
use Rattle.rows.specs.{History.History}
use Rattle.table.specs.{Trees.Operand, Trees.const, Trees.ref, Trees.price, Trees.prev, Trees.arith as sums, Trees.extreme, Trees.Condition, Trees.compare}
use Rattle.table.specs.{Trees.cross, Trees.between, Trees.trend, Trees.every, Trees.any, Trees.negated, Trees.in_position, Trees.bars_since, Series.as_operand}
use Rattle.table.specs.{Writing.nodes_in}
use Rattle.rules.specs.{declared.position.PositionState.PositionState}
use Rattle.rules.specs.{Values.held, Values.compared, Values.crossed, Values.within, Values.trended}
use Rattle.rules.specs.{Values.counted_since, Meaning.newest, Meaning.value, Meaning.holds, Laws.Missing.either_way}
use Rattle.rules.specs.{Laws.Missing.compared_late, Laws.Missing.trended_late, Laws.Missing.within_low, Laws.Missing.within_high, Laws.Missing.within_value}
use Rattle.rules.specs.{Laws.Missing.crossed_first, Laws.Missing.crossed_second}
use Rattle.chain.specs.{Missing.in_table}
use Rattle.chain.specs.{Missing.first_found, Missing.gone_if, Missing.leaf_gone, Missing.newest_gone, Missing.missing_in, Missing.missing_in_two}
use Rattle.chain.specs.{Missing.missing_in_three, Chain.Shown, Chain.missing, Chain.at_first_bar, Chain.too_few_bars, Chain.position, Chain.since_entry}
use Rattle.chain.specs.{Chain.no_entry, Chain.shown_by, Chain.shown_from, Chain.shown_since, Chain.shown, Chain.ChainLine, Chain.line_at}
use Rattle.reasons.specs.{Looks.Look, Looks.look, Looks.looks_back, Looks.looks_in, Looks.looks_of, Looks.seen, Looks.IsThere, Looks.number}
use Rattle.reasons.specs.{Looks.FirstMissing, Looks.this, Looks.later, Telling.BarsSince, Telling.passed, Telling.not-below, Telling.LooksAt}
use Rattle.reasons.specs.{Telling.True, Telling.compares, Telling.lies, Telling.crosses, Telling.moves, Telling.lacks, Telling.at_first}
use Rattle.reasons.specs.{Telling.too_early, Telling.all_joins, Telling.any_joins, Telling.not_turns, Telling.in_position_lem, Telling.out_of_it}
use Rattle.reasons.specs.{Telling.since, Telling.no_entry_lem, Telling.LineOf, Laws.Reads.Reads, Laws.Reads.gone, Laws.Reads.got, Laws.Reads.reads}
use Rattle.table.specs.Named as Named

-- lines of the same parts
same_line : {m n : ℕ} {a b : Bool} {x y : Shown} → m ≡ n → a ≡ b → x ≡ y
    → ◌≡◌ {A = ChainLine} (record { node = m; answer = a; shows = x }) (record { node = n; answer = b; shows = y })
same_line p q r = rw (p, q, r)

-- ---- a side that is missing now

and_no : (a : Bool) → (a && false) ≡ false
and_no true = refl
and_no false = refl

crossed_now : (kind : ℕ) (b x y : Option Float) → crossed kind None b x y ≡ false
unfolding crossed compared
crossed_now kind b x y = rw (and_no (compared Named.le x y), and_no (compared Named.ge x y)) (either_way (eqb kind Named.cross_above) false)

crossed_now_late : (kind : ℕ) (a x y : Option Float) → crossed kind a None x y ≡ false
unfolding crossed
crossed_now_late kind a x y =
    rw (compared_late Named.gt a, compared_late Named.lt a, and_no (compared Named.le x y), and_no (compared Named.ge x y))
    (either_way (eqb kind Named.cross_above) false)

trended_now : (kind : ℕ) (w : Option Float) → trended kind None w ≡ false
unfolding trended compared
trended_now kind w = either_way (eqb kind Named.rising) false

-- ---- the first missing leaf of a list

module _ (h : History) (bar : ℕ) where
  -- the first missing of a list of leaves
  unfoldable first_gone : List Look → Option (ℕ × ℕ)
  first_gone [] = None
  first_gone (l ∷ ls) = first_found (gone_if l.node l.back (seen h bar l)) (first_gone ls)

  first_found_assoc : (f g k : Option (ℕ × ℕ)) → first_found (first_found f g) k ≡ first_found f (first_found g k)
  unfolding first_found
  first_found_assoc (Some (node, back)) g k = refl
  first_found_assoc None g k = refl

  or_nowhere : (f : Option (ℕ × ℕ)) → first_found f None ≡ f
  unfolding first_found
  or_nowhere (Some (node, back)) = refl
  or_nowhere None = refl

  first_two : (xs ys : List Look) → first_gone (xs ++ ys) ≡ first_found (first_gone xs) (first_gone ys)
  unfolding first_gone first_found
  first_two [] ys = refl
  first_two (l ∷ xs) ys =
      rw (first_two xs ys) (sym (first_found_assoc (gone_if l.node l.back (seen h bar l)) (first_gone xs) (first_gone ys)))

  leaf_first : (a : Operand) (i back : ℕ) → leaf_gone h a i bar back ≡ first_gone (look a i back ∷ [])
  unfolding leaf_gone first_gone seen
  leaf_first a i back = sym (or_nowhere (gone_if i back (seen h bar (look a i back))))

  back_in_order : (a : Operand) (i back m : ℕ) → newest_gone h a i bar back m ≡ first_gone (looks_back a i back m)
  unfolding newest_gone looks_back
  back_in_order a i back zero = leaf_first a i back
  back_in_order a i back (suc m) =
      rw (leaf_first a i back, back_in_order a i (back + 1) m) (sym (first_two (look a i back ∷ []) (looks_back a i (back + 1) m)))

  in_order : (a : Operand) (i back : ℕ) → missing_in in_table h a i bar back ≡ first_gone (looks_in a i back)
  unfolding missing_in looks_in
  in_order (const bits) i back = leaf_first (const bits) i back
  in_order (ref slot) i back = leaf_first (ref slot) i back
  in_order (price selector) i back = leaf_first (price selector) i back
  in_order (prev a n) i back = in_order a (i + 1) (back + n)
  in_order (sums kind a b) i back =
      rw (in_order a (i + 1) back, in_order b (i + 1 + nodes_in a) back) (sym (first_two (looks_in a (i + 1) back) (looks_in b (i + 1 + nodes_in a) back)))
  in_order (extreme kind s n) i back = back_in_order (as_operand s) (i + 1) back (n - 1)

  two_in_order : (a b : Operand) (i back : ℕ) → missing_in_two in_table h a b i bar back ≡ first_gone (looks_in a i back ++ looks_in b (i + nodes_in a) back)
  unfolding missing_in_two
  two_in_order a b i back =
      rw (in_order a i back, in_order b (i + nodes_in a) back) (sym (first_two (looks_in a i back) (looks_in b (i + nodes_in a) back)))

  -- what is found is the first missing, and where nothing is found none is missing
  first_true : (ls : List Look) (node back : ℕ) → first_gone ls ≡ Some (node, back) → FirstMissing h bar ls node back
  unfolding first_gone
  first_true [] node back e = absurd (let z : ◌≡◌ {A = ℕ} 0 1 = cc in omega arith)
  first_true (l ∷ ls) node back e = go (λ f. first_true ls node back f) (seen h bar l) refl e
    where
      go : (first_gone ls ≡ Some (node, back) → FirstMissing h bar ls node back) → (v : Option Float) → seen h bar l ≡ v
          → first_found (gone_if l.node l.back v) (first_gone ls) ≡ Some (node, back) → FirstMissing h bar (l ∷ ls) node back
      go rest None s f = unfold first_found gone_if in
          let same : ◌≡◌ {A = ℕ × ℕ} (l.node, l.back) (node, back) = cc in
          rw (← ap (λ p. p.0) same, ← ap (λ p. p.1) same) (this l ls s)
      go rest (Some x) s f = later l ls node back (rw s (number x)) (rest (unfold first_found gone_if in f))

  -- and there is no other first
  first_only : {ls : List Look} {node back : ℕ} → FirstMissing h bar ls node back → first_gone ls ≡ Some (node, back)
  unfolding first_gone first_found gone_if
  first_only (this l ls s) = rw s
  first_only (later l ls node back t f) = go t (first_only f)
    where
      go : IsThere (seen h bar l) → first_gone ls ≡ Some (node, back) → first_found (gone_if l.node l.back (seen h bar l)) (first_gone ls) ≡ Some (node, back)
      go t e = by (seen h bar l) t e
        where
          by : (v : Option Float) → IsThere v → first_gone ls ≡ Some (node, back) → first_found (gone_if l.node l.back v) (first_gone ls) ≡ Some (node, back)
          by _ (number x) e = e

  -- ---- what a test shows: its values or the first missing leaf

  two_leaves : (kind : ℕ) (a b : Operand) (i : ℕ) → missing_in_two in_table h a b (i + 1) bar 0 ≡ first_gone (looks_of (compare kind a b) i)
  unfolding looks_of
  two_leaves kind a b i = two_in_order a b (i + 1) 0

  cross_leaves : (kind : ℕ) (a b : Operand) (i : ℕ)
      → first_found (missing_in_two in_table h a b (i + 1) bar 0) (missing_in_two in_table h a b (i + 1) bar 1) ≡ first_gone (looks_of (cross kind a b) i)
  unfolding looks_of
  cross_leaves kind a b i =
      rw (two_in_order a b (i + 1) 0, two_in_order a b (i + 1) 1)
      (sym (first_two (looks_in a (i + 1) 0 ++ looks_in b (i + 1 + nodes_in a) 0) (looks_in a (i + 1) 1 ++ looks_in b (i + 1 + nodes_in a) 1)))

  three_leaves : (x low high : Operand) (i : ℕ) → missing_in_three in_table h x low high (i + 1) bar 0 ≡ first_gone (looks_of (between x low high) i)
  unfolding looks_of missing_in_three
  three_leaves x low high i =
      rw (two_in_order x low (i + 1) 0, in_order high (i + 1 + nodes_in x + nodes_in low) 0)
      (sym (first_two (looks_in x (i + 1) 0 ++ looks_in low (i + 1 + nodes_in x) 0) (looks_in high (i + 1 + nodes_in x + nodes_in low) 0)))

  trend_leaves : (kind : ℕ) (a : Operand) (n i : ℕ)
      → first_found (missing_in in_table h a (i + 1) bar 0) (missing_in in_table h a (i + 1) bar n) ≡ first_gone (looks_of (trend kind a n) i)
  unfolding looks_of
  trend_leaves kind a n i = rw (in_order a (i + 1) 0, in_order a (i + 1) n) (sym (first_two (looks_in a (i + 1) 0) (looks_in a (i + 1) n)))

  module _ (now : bar ≤ newest h) where
    -- an operand now, and so many bars before
    reads_now : (a : Operand) (i : ℕ) → Reads (missing_in in_table h a i bar 0) (value h a bar)
    reads_now a i = let same : bar - 0 ≡ bar = omega arith in rw same at (reads h bar now a i 0 (omega arith))

    reads_then : (a : Operand) (i n : ℕ) → n ≤ bar → Reads (missing_in in_table h a i bar n) (value h a (bar - n))
    reads_then a i n l = reads h bar now a i n l

    there_found : {f : Option (ℕ × ℕ)} {v : Option Float} → Reads f v → (x : Float) → v ≡ Some x → f ≡ None
    there_found (gone node back) x e = absurd (let z : ◌≡◌ {A = ℕ} 0 1 = cc in omega arith)
    there_found (got y) x e = refl

    module _ (s : PositionState) where
      -- a test that looks and finds a leaf missing
      missing_true : (c : Condition) (i node back : ℕ) → LooksAt h s bar c → Some (node, back) ≡ first_gone (looks_of c i) → holds h s c bar ≡ false
          → True h s bar c i (missing node back)
      missing_true c i node back looks l e = lacks c i node back looks (first_true (looks_of c i) node back (sym l)) e

      compare_true : (kind : ℕ) (a b : Operand) (i : ℕ) {f g : Option (ℕ × ℕ)} {v w : Option Float} → Reads f v → Reads g w → value h a bar ≡ v → value h b bar ≡ w
          → first_found f g ≡ first_gone (looks_of (compare kind a b) i)
          → True h s bar (compare kind a b) i (shown_by (first_found f g) (v ∷ w ∷ []))
      unfolding first_found shown_by LooksAt holds
      compare_true kind a b i {w = w} (gone node back) q e f l =
          missing_true (compare kind a b) i node back tt l (rw (e, f) (unfold compared in refl))
      compare_true kind a b i (got x) (gone node back) e f l =
          missing_true (compare kind a b) i node back tt l (rw (e, f) (unfold compared in refl))
      compare_true kind a b i (got x) (got y) e f l = compares kind a b i x y e f (rw (e, f) (unfold compared in refl))

      between-true : (a low high : Operand) (i : ℕ) {f g k : Option (ℕ × ℕ)} {v w u : Option Float} → Reads f v → Reads g w → Reads k u
          → value h a bar ≡ v → value h low bar ≡ w → value h high bar ≡ u
          → first_found (first_found f g) k ≡ first_gone (looks_of (between a low high) i)
          → True h s bar (between a low high) i (shown_by (first_found (first_found f g) k) (v ∷ w ∷ u ∷ []))
      unfolding first_found shown_by LooksAt holds
      between-true a low high i {w = w} {u = u} (gone node back) q r e f g l =
          missing_true (between a low high) i node back tt l (rw (e, f, g) (within_value w u))
      between-true a low high i {u = u} (got x) (gone node back) r e f g l =
          missing_true (between a low high) i node back tt l (rw (e, f, g) (within_low (Some x) u))
      between-true a low high i (got x) (got y) (gone node back) e f g l =
          missing_true (between a low high) i node back tt l (rw (e, f, g) (within_high (Some x) (Some y)))
      between-true a low high i (got x) (got y) (got z) e f g l = lies a low high i x y z e f g (rw (e, f, g) (unfold within compared in refl))

      cross_true : (kind : ℕ) (a b : Operand) (i : ℕ) → 0 < bar → {f g m n : Option (ℕ × ℕ)} {v w x y : Option Float}
          → Reads f v → Reads g w → Reads m x → Reads n y
          → value h a bar ≡ v → value h b bar ≡ w → value h a (bar - 1) ≡ x → value h b (bar - 1) ≡ y
          → first_found (first_found f g) (first_found m n) ≡ first_gone (looks_of (cross kind a b) i)
          → True h s bar (cross kind a b) i (shown_by (first_found (first_found f g) (first_found m n)) (v ∷ w ∷ x ∷ y ∷ []))
      unfolding first_found shown_by LooksAt holds
      cross_true kind a b i late {w = w} {x = x} {y = y} (gone node back) q r t e f g k l =
          missing_true (cross kind a b) i node back late l (rw (ne_eqb bar 0 (omega arith), e, f, g, k) (crossed_now kind w x y))
      cross_true kind a b i late {x = x} {y = y} (got v) (gone node back) r t e f g k l =
          missing_true (cross kind a b) i node back late l (rw (ne_eqb bar 0 (omega arith), e, f, g, k) (crossed_now_late kind (Some v) x y))
      cross_true kind a b i late {y = y} (got v) (got w) (gone node back) t e f g k l =
          missing_true (cross kind a b) i node back late l (rw (ne_eqb bar 0 (omega arith), e, f, g, k) (crossed_first kind (Some v) (Some w) y))
      cross_true kind a b i late (got v) (got w) (got x) (gone node back) e f g k l =
          missing_true (cross kind a b) i node back late l
          (rw (ne_eqb bar 0 (omega arith), e, f, g, k) (crossed_second kind (Some v) (Some w) (Some x)))
      cross_true kind a b i late (got v) (got w) (got x) (got y) e f g k l =
          crosses kind a b i v w x y late e f g k (rw (ne_eqb bar 0 (omega arith), e, f, g, k) (unfold crossed compared in refl))

      trend-true : (kind : ℕ) (a : Operand) (n i : ℕ) → n ≤ bar → {f g : Option (ℕ × ℕ)} {v w : Option Float} → Reads f v → Reads g w
          → value h a bar ≡ v → value h a (bar - n) ≡ w → first_found f g ≡ first_gone (looks_of (trend kind a n) i)
          → True h s bar (trend kind a n) i (shown_by (first_found f g) (v ∷ w ∷ []))
      unfolding first_found shown_by LooksAt holds
      trend-true kind a n i late {w = w} (gone node back) q e f l =
          missing_true (trend kind a n) i node back late l (rw (le-ltb bar n late, e, f) (trended_now kind w))
      trend-true kind a n i late (got x) (gone node back) e f l =
          missing_true (trend kind a n) i node back late l (rw (le-ltb bar n late, e, f) (trended_late kind (Some x)))
      trend-true kind a n i late (got x) (got y) e f l =
          moves kind a n i x y late e f (rw (le-ltb bar n late, e, f) (unfold trended compared in refl))

      cross_at : (kind : ℕ) (a b : Operand) (i : ℕ) (first : Bool) → eqb bar 0 ≡ first
          → True h s bar (cross kind a b) i (cond first at_first_bar
          (shown_by (first_found (missing_in_two in_table h a b (i + 1) bar 0) (missing_in_two in_table h a b (i + 1) bar 1))
          (value h a bar ∷ value h b bar ∷ value h a (bar - 1) ∷ value h b (bar - 1) ∷ [])))
      unfolding missing_in_two
      cross_at kind a b i true e = at_first kind a b i (eqb-true bar 0 e) (unfold holds in rw e)
      cross_at kind a b i false e =
          let late : 0 < bar = omega (arith, eqb-false bar 0 e) in
          cross_true kind a b i late (reads_now a (i + 1)) (reads_now b (i + 1 + nodes_in a)) (reads_then a (i + 1) 1 late)
          (reads_then b (i + 1 + nodes_in a) 1 late) refl refl refl refl (cross_leaves kind a b i)

      trend_at : (kind : ℕ) (a : Operand) (n i : ℕ) (early : Bool) → ltb bar n ≡ early
          → True h s bar (trend kind a n) i
          (cond early too_few_bars (shown_by (first_found (missing_in in_table h a (i + 1) bar 0) (missing_in in_table h a (i + 1) bar n))
          (value h a bar ∷ value h a (bar - n) ∷ [])))
      trend_at kind a n i true e = too_early kind a n i (ltb-true bar n e) (unfold holds in rw e)
      trend_at kind a n i false e =
          let late = ltb-false bar n e in
          trend-true kind a n i late (reads_now a (i + 1)) (reads_then a (i + 1) n late) refl refl (trend_leaves kind a n i)

      position-true : (wanted : Bool) (i : ℕ) → True h s bar (in_position wanted) i position
      position-true true i = in_position_lem i (unfold holds in refl)
      position-true false i = out_of_it i (unfold holds in refl)

      bars_since_lem : (seen entry : ℕ) (below : Bool) → ltb entry seen ≡ below → BarsSince seen entry (seen - 1 - entry)
      bars_since_lem seen entry true e = passed (seen - 1 - entry) (omega (arith, ltb-true entry seen e))
      bars_since_lem seen entry false e =
          let none : seen - 1 - entry ≡ 0 = omega (arith, ltb-false entry seen e) in
          rw none (not-below (ltb-false entry seen e))

      since-true : (selector k i : ℕ) (there : Bool) → held s.qty ≡ there → (e : Option ℕ) → s.entered ≡ e
          → True h s bar (bars_since selector k) i (cond there (shown_from s.bars_seen e) no_entry)
      since-true selector k i true p None q = no_entry_lem selector k i (inr q) (unfold holds counted_since in rw (p, q))
      since-true selector k i true p (Some entry) q =
          since selector k i entry (s.bars_seen - 1 - entry) p q (bars_since_lem s.bars_seen entry (ltb entry s.bars_seen) refl)
          (unfold holds counted_since in rw (p, q))
      since-true selector k i false p e q = no_entry_lem selector k i (inl p) (unfold holds counted_since in rw p)

      -- TRUE: what the line of a condition shows is so.
      pub shown-true : (c : Condition) (i : ℕ) → True h s bar c i (shown in_table h s c i bar)
      unfolding shown shown_since missing_in_two missing_in_three
      shown-true (compare kind a b) i =
          compare_true kind a b i (reads_now a (i + 1)) (reads_now b (i + 1 + nodes_in a)) refl refl (unfold missing_in_two in two_leaves kind a b i)
      shown-true (cross kind a b) i = cross_at kind a b i (eqb bar 0) refl
      shown-true (between x low high) i =
          between-true x low high i (reads_now x (i + 1)) (reads_now low (i + 1 + nodes_in x)) (reads_now high (i + 1 + nodes_in x + nodes_in low))
          refl refl refl (three_leaves x low high i)
      shown-true (trend kind a n) i = trend_at kind a n i (ltb bar n) refl
      shown-true (every cs) i = all_joins cs i
      shown-true (any cs) i = any_joins cs i
      shown-true (negated c) i = not_turns c i
      shown-true (in_position wanted) i = position-true wanted i
      shown-true (bars_since selector k) i = since-true selector k i (held s.qty) refl s.entered refl

      -- ---- and nothing else is true of it

      -- the first missing leaf of a test that looks
      leaf_shown : (c : Condition) (i node back : ℕ) → LooksAt h s bar c → first_gone (looks_of c i) ≡ Some (node, back)
          → missing node back ≡ shown in_table h s c i bar
      unfolding shown LooksAt shown_by
      leaf_shown (compare kind a b) i node back looks e = rw (two_leaves kind a b i, e)
      leaf_shown (cross kind a b) i node back looks e = rw (ne_eqb bar 0 (omega arith), cross_leaves kind a b i, e)
      leaf_shown (between x low high) i node back looks e = rw (three_leaves x low high i, e)
      leaf_shown (trend kind a n) i node back looks e = rw (le-ltb bar n looks, trend_leaves kind a n i, e)
      leaf_shown (every cs) i node back looks e = absurd looks
      leaf_shown (any cs) i node back looks e = absurd looks
      leaf_shown (negated c) i node back looks e = absurd looks
      leaf_shown (in_position wanted) i node back looks e = absurd looks
      leaf_shown (bars_since selector k) i node back looks e = absurd looks

      since_only : (seen entry bars : ℕ) → BarsSince seen entry bars → bars ≡ seen - 1 - entry
      since_only seen entry _ (passed bars e) = omega arith
      since_only seen entry _ (not-below e) = omega arith

      none_shown : (there : Bool) → held s.qty ≡ there → (e : Option ℕ) → s.entered ≡ e → held s.qty ≡ false ⊎ s.entered ≡ None
          → no_entry ≡ cond there (shown_from s.bars_seen e) no_entry
      none_shown true p None q o = refl
      none_shown true p (Some entry) q (inl f) = absurd (let z : ◌≡◌ {A = ℕ} 0 1 = cc in omega arith)
      none_shown true p (Some entry) q (inr f) = absurd (let z : ◌≡◌ {A = ℕ} 0 1 = cc in omega arith)
      none_shown false p e q o = refl

      -- NOTHING ELSE: what is true of a condition is what its line shows.
      pub true-shown : {c : Condition} {i : ℕ} {x : Shown} → True h s bar c i x → x ≡ shown in_table h s c i bar
      unfolding shown shown_since shown_by first_found missing_in_two missing_in_three
      true-shown (compares kind a b i x y e f g) =
          rw (there_found (reads_now a (i + 1)) x e, there_found (reads_now b (i + 1 + nodes_in a)) y f, e, f)
      true-shown (lies a low high i x l u e f g k) =
          rw (
            there_found (reads_now a (i + 1)) x e,
            there_found (reads_now low (i + 1 + nodes_in a)) l f,
            there_found (reads_now high (i + 1 + nodes_in a + nodes_in low)) u g,
            e,
            f,
            g,
          )
      true-shown (crosses kind a b i x y xBefore yBefore late e f g k l) =
          rw (
            ne_eqb bar 0 (omega arith),
            there_found (reads_now a (i + 1)) x e,
            there_found (reads_now b (i + 1 + nodes_in a)) y f,
            there_found (reads_then a (i + 1) 1 late) xBefore g,
            there_found (reads_then b (i + 1 + nodes_in a) 1 late) yBefore k,
            e,
            f,
            g,
            k,
          )
      true-shown (moves kind a n i x xThen late e f g) =
          rw (
            le-ltb bar n late,
            there_found (reads_now a (i + 1)) x e,
            there_found (reads_then a (i + 1) n late) xThen f,
            e,
            f,
          )
      true-shown (lacks c i node back looks first e) = leaf_shown c i node back looks (first_only first)
      true-shown (at_first kind a b i e f) = rw e
      true-shown (too_early kind a n i l e) = rw (lt-ltb bar n l)
      true-shown (all_joins cs i) = refl
      true-shown (any_joins cs i) = refl
      true-shown (not_turns c i) = refl
      true-shown (in_position_lem i e) = refl
      true-shown (out_of_it i e) = refl
      true-shown (since selector k i entry bars p q b e) = rw (p, q) (ap since_entry (since_only s.bars_seen entry bars b))
      true-shown (no_entry_lem selector k i o e) = none_shown (held s.qty) refl s.entered refl o

      -- A line of a condition is the line that is made.
      pub line_only : (c : Condition) (i : ℕ) (l : ChainLine) → LineOf h s bar c i l → l ≡ line_at in_table h s c i bar
      unfolding line_at
      line_only c i l o = same_line o.own_node o.own_answer (true-shown o.true_of_it)

      pub line_true : (c : Condition) (i : ℕ) → LineOf h s bar c i (line_at in_table h s c i bar)
      unfolding line_at
      line_true c i = record { own_node = refl; own_answer = refl; true_of_it = shown-true c i }
