-- The window: the last rows answer as the whole history does. Assumes nothing.
use Rattle.std.specs.Prelude.{ℕ, zero, suc, ◌+◌, ◌-◌, ◌*◌, ◌/◌, ◌≤◌, ◌<◌, ◌≡◌, refl, Bool, true, false, not, List, length, get_or, drop, ltb, leb, eqb}
use Rattle.words.specs.Prelude.{sym, ap, fun_ext, ◌∙◌, arith}
use Rattle.words.specs.Prelude.{le-div_iff_mul-le, mul-add-div_right, zero-mul, length-drop, get_or-drop, lt-ltb, le-ltb}
use Rattle.words.specs.Prelude.{ltb-true, ltb-false, leb-true, leb-false, ne_eqb}
use Rattle.rows.specs.{History.History, History.history_of, History.last_rows}
use Rattle.table.specs.{declared.series.Series.Series, declared.series.Series.TheVariants.Price, declared.series.Series.TheVariants.Slot, Trees.Operand}
use Rattle.table.specs.{Trees.const, Trees.ref, Trees.price, Trees.prev, Trees.arith as sums, Trees.extreme, Trees.Condition, Trees.Conditions, Trees.compare}
use Rattle.table.specs.{Trees.cross, Trees.between, Trees.trend, Trees.every, Trees.any, Trees.negated, Trees.in_position, Trees.bars_since, Trees.none}
use Rattle.table.specs.{Trees.more, Trees.reach, Trees.reach_of, Trees.reach_of_all}
use Rattle.rules.specs.{declared.position.PositionState.PositionState, Meaning.newest, Meaning.there, Meaning.series_at, Meaning.extreme_over}
use Rattle.rules.specs.{Meaning.extreme_at, Meaning.value, Meaning.holds, Meaning.all_hold, Meaning.any_holds, Meaning.says}

-- w is what is left of h without its first s rows
pub record Without (h w : History) (s : ℕ) : Type 0 where
  pub count : h.rows ≡ s + w.rows
  pub same : (i : ℕ) → h.word (s + i) ≡ w.word i

module _ (h w : History) (s : ℕ) (part : Without h w s) where
  exists : (i : ℕ) → ltb (s + i) h.rows ≡ ltb i w.rows
  exists i = go (ltb i w.rows) refl
    where
      go : (b : Bool) → ltb i w.rows ≡ b → ltb (s + i) h.rows ≡ b
      go true e = lt-ltb (s + i) h.rows (omega (arith, ltb-true i w.rows e, part.count))
      go false e = le-ltb (s + i) h.rows (omega (arith, ltb-false i w.rows e, part.count))

  series_same : (x : Series) (i : ℕ) → series_at h x (s + i) ≡ series_at w x i
  unfolding series_at there
  series_same (Price selector) i = simp (exists, part.same)
  series_same (Slot slot) i = simp (exists, part.same)

  extreme_same : (kind : ℕ) (x : Series) (oldest m : ℕ) → extreme_over h kind x (s + oldest) m ≡ extreme_over w kind x oldest m
  unfolding extreme_over
  extreme_same kind x oldest zero = series_same x oldest
  extreme_same kind x oldest (suc m) =
      let place : s + oldest + suc m ≡ s + (oldest + suc m) = omega arith in
      rw (extreme_same kind x oldest m, place, series_same x (oldest + suc m))

  -- an operand at a bar that it does not look back beyond
  pub operand_same : (a : Operand) (i : ℕ) → reach a ≤ i → value h a (s + i) ≡ value w a i
  unfolding value reach there extreme_at
  operand_same (const bits) i r = simp exists
  operand_same (ref slot) i r = simp (exists, part.same)
  operand_same (price selector) i r = simp (exists, part.same)
  operand_same (prev a n) i r =
      let late : ltb (s + i) n ≡ false = le-ltb (s + i) n (omega arith) in
      let late' : ltb i n ≡ false = le-ltb i n (omega arith) in
      let back : s + i - n ≡ s + (i - n) = omega arith in
      let ih : value h a (s + (i - n)) ≡ value w a (i - n) = operand_same a (i - n) (omega arith) in
      simp (exists, late, late', back, ih)
  operand_same (sums kind a b) i r =
      let ia : value h a (s + i) ≡ value w a i = operand_same a i (omega arith) in
      let ib : value h b (s + i) ≡ value w b i = operand_same b i (omega arith) in
      simp (ia, ib)
  operand_same (extreme kind x n) i r =
      let late : ltb (s + i) (n - 1) ≡ false = le-ltb (s + i) (n - 1) (omega arith) in
      let late' : ltb i (n - 1) ≡ false = le-ltb i (n - 1) (omega arith) in
      let back : s + i - (n - 1) ≡ s + (i - (n - 1)) = omega arith in
      rw (late, late', back) (extreme_same kind x (i - (n - 1)) (n - 1))

  mutual
    unfolding holds reach_of

    pub condition_same : (p : PositionState) (c : Condition) (i : ℕ) → reach_of c ≤ i → holds h p c (s + i) ≡ holds w p c i
    condition_same p (compare kind a b) i r =
        let ia : value h a (s + i) ≡ value w a i = operand_same a i (omega arith) in
        let ib : value h b (s + i) ≡ value w b i = operand_same b i (omega arith) in
        simp (ia, ib)
    condition_same p (cross kind a b) i r =
        let late : eqb (s + i) 0 ≡ false = ne_eqb (s + i) 0 (omega arith) in
        let late' : eqb i 0 ≡ false = ne_eqb i 0 (omega arith) in
        let back : s + i - 1 ≡ s + (i - 1) = omega arith in
        let ia : value h a (s + i) ≡ value w a i = operand_same a i (omega arith) in
        let ib : value h b (s + i) ≡ value w b i = operand_same b i (omega arith) in
        let ja : value h a (s + (i - 1)) ≡ value w a (i - 1) = operand_same a (i - 1) (omega arith) in
        let jb : value h b (s + (i - 1)) ≡ value w b (i - 1) = operand_same b (i - 1) (omega arith) in
        simp (late, late', back, ia, ib, ja, jb)
    condition_same p (between x low high) i r =
        let ix : value h x (s + i) ≡ value w x i = operand_same x i (omega arith) in
        let il : value h low (s + i) ≡ value w low i = operand_same low i (omega arith) in
        let ih : value h high (s + i) ≡ value w high i = operand_same high i (omega arith) in
        simp (ix, il, ih)
    condition_same p (trend kind a n) i r =
        let late : ltb (s + i) n ≡ false = le-ltb (s + i) n (omega arith) in
        let late' : ltb i n ≡ false = le-ltb i n (omega arith) in
        let back : s + i - n ≡ s + (i - n) = omega arith in
        let ia : value h a (s + i) ≡ value w a i = operand_same a i (omega arith) in
        let ja : value h a (s + (i - n)) ≡ value w a (i - n) = operand_same a (i - n) (omega arith) in
        simp (late, late', back, ia, ja)
    condition_same p (every cs) i r = all_same p cs i r
    condition_same p (any cs) i r = any_same p cs i r
    condition_same p (negated c) i r = ap not (condition_same p c i r)
    condition_same p (in_position wanted) i r = refl
    condition_same p (bars_since selector k) i r = refl

    all_same : (p : PositionState) (cs : Conditions) (i : ℕ) → reach_of_all cs ≤ i → all_hold h p cs (s + i) ≡ all_hold w p cs i
    all_same p none i r = refl
    all_same p (more c cs) i r =
        let ic : holds h p c (s + i) ≡ holds w p c i = condition_same p c i (omega arith) in
        let ics : all_hold h p cs (s + i) ≡ all_hold w p cs i = all_same p cs i (omega arith) in
        simp (ic, ics)

    any_same : (p : PositionState) (cs : Conditions) (i : ℕ) → reach_of_all cs ≤ i → any_holds h p cs (s + i) ≡ any_holds w p cs i
    any_same p none i r = refl
    any_same p (more c cs) i r =
        let ic : holds h p c (s + i) ≡ holds w p c i = condition_same p c i (omega arith) in
        let ics : any_holds h p cs (s + i) ≡ any_holds w p cs i = any_same p cs i (omega arith) in
        simp (ic, ics)

-- A list without its first s rows is its history without them.
pub without_first : (K s : ℕ) (ws : List ℕ) → s ≤ (history_of K ws).rows → Without (history_of K ws) (history_of K (drop (s * (7 + K)) ws)) s
unfolding history_of
without_first K s ws fit =
    let long : s * (7 + K) ≤ length ws = (le-div_iff_mul-le {k = 7 + K} (omega arith)).0 fit in
    let rest : ℕ = length ws - s * (7 + K) in
    let split : length ws ≡ s * (7 + K) + rest = omega arith in
    record {
      count = ap (λ (n : ℕ). n / (7 + K)) split ∙ mul-add-div_right {m = 7 + K} (omega arith) s rest ∙ rw (length-drop (s * (7 + K)) ws);
      same = λ i. fun_ext (λ j. sym (get_or-drop (s * (7 + K)) ws (i * (7 + K) + j) 0 ∙ ap (λ (n : ℕ). get_or ws n 0) (omega arith)));
    }

-- What is told of a history at its newest bar, and is the same without rows that it does not look at (all but the last r + 1), is told of the last D rows
-- as of all, for an r below D.
pub told_of_last : {A : Type 0} (told : History → ℕ → A) (K D : ℕ) (ws : List ℕ) (r : ℕ) → r < D
    → ((h w : History) (s : ℕ) → Without h w s → (i : ℕ) → r ≤ i → told h (s + i) ≡ told w i)
    → told (history_of K (last_rows K D ws)) (newest (history_of K (last_rows K D ws))) ≡ told (history_of K ws) (newest (history_of K ws))
unfolding newest history_of last_rows
told_of_last told K D ws r near same-without = go (leb h.rows D) refl
  where
    h : History
    h = history_of K ws

    s : ℕ
    s = h.rows - D

    w : History
    w = history_of K (drop (s * (7 + K)) ws)

    part : Without h w s
    part = without_first K s ws (omega arith)

    go : (b : Bool) → leb h.rows D ≡ b → told w (w.rows - 1) ≡ told h (h.rows - 1)
    go true e =
        let none_left : s ≡ 0 = omega (arith, leb-true h.rows D e) in
        let same : w ≡ h = ap (λ (k : ℕ). history_of K (drop (k * (7 + K)) ws)) none_left ∙ ap (λ (k : ℕ). history_of K (drop k ws)) (zero-mul (7 + K)) in
        ap (λ (x : History). told x (x.rows - 1)) same
    go false e =
        let wide : D < h.rows = leb-false h.rows D e in
        let at : h.rows - 1 ≡ s + (w.rows - 1) = omega (arith, part.count) in
        sym (ap (told h) at ∙ same-without h w s part (w.rows - 1) (omega (arith, part.count)))

-- THE WINDOW: a condition that reaches back less than D rows says of the last D rows what it says of all.
pub window : (K D : ℕ) (ws : List ℕ) (p : PositionState) (c : Condition) → reach_of c < D
    → says (history_of K (last_rows K D ws)) p c ≡ says (history_of K ws) p c
unfolding says
window K D ws p c r =
    told_of_last (λ (h : History). holds h p c) K D ws (reach_of c) r (λ (h w : History) (s : ℕ) part i. condition_same h w s part p c i)
