-- A well-formed list, wherever it comes from, answers over the last D rows what it answers over all, and visits the same steps.
use Rattle.std.specs.Prelude.{ℕ, zero, suc, ◌+◌, ◌-◌, ◌/◌, ◌%◌, ◌≤◌, ◌<◌, min, ◌≡◌, refl, Bool, true, false, cond, ◌&&◌, List, [], ◌∷◌, ltb, eqb, length, Err, Float, Ok, Option, Result}
use Rattle.words.specs.Prelude.{sym, ap, ◌∙◌, ⊎_elim}
use Rattle.words.specs.Prelude.{arith, zero-mul, lt-ltb, le-ltb, ltb-true, ltb-false}
use Rattle.words.specs.{Limits.most_steps, Laws.Numbers.less_or_not}
use Rattle.rows.specs.{History.History, History.history_of, History.width, History.last_rows, Ring.ring_of, Ring.turned, Laws.Ring.SameRows, Laws.Ring.ring_turned}
use Rattle.table.specs.{declared.series.Series.Series, Trees.Operand, Trees.const, Trees.ref, Trees.price, Trees.extreme, Trees.reach}
use Rattle.rules.specs.{declared.position.PositionState.PositionState, Values.price_of, Values.slot_of, Meaning.there}
use Rattle.rules.specs.{Meaning.series_at, Meaning.extreme_over, Meaning.extreme_at, Meaning.value, Meaning.newest, Meaning.holds, Window.Without}
use Rattle.rules.specs.{Window.operand_same, Window.without_first}
use Rattle.steps.specs.{declared.step.Op.Op, declared.step.Op.TheVariants.Const, declared.step.Op.TheVariants.Ref, declared.step.Op.TheVariants.Price}
use Rattle.steps.specs.{declared.step.Op.TheVariants.Arith, declared.step.Op.TheVariants.Compare, declared.step.Op.TheVariants.Cross}
use Rattle.steps.specs.{declared.step.Op.TheVariants.Between, declared.step.Op.TheVariants.Answer, declared.step.Op.TheVariants.Turn}
use Rattle.steps.specs.{declared.step.Op.TheVariants.InPosition, declared.step.Op.TheVariants.BarsSinceEntry, declared.step.Op.TheVariants.JumpIf}
use Rattle.steps.specs.{declared.step.Op.TheVariants.Extreme, declared.step.Op.TheVariants.Unknown, Bytes.op_of, Bytes.step_at, Bytes.ops_from}
use Rattle.steps.specs.{Bytes.ops_of, Bytes.steps_in, Bytes.steps_run, Machine.Values, Machine.ago, Machine.effect, Machine.does, Machine.after_step}
use Rattle.steps.specs.{Machine.run, Machine.visit_count, Machine.start, Machine.ran_over, WellFormed.unused_fields_zero, WellFormed.series_within}
use Rattle.steps.specs.{WellFormed.looks_within, WellFormed.bounded, WellFormed.good_step, WellFormed.formed_from, WellFormed.formed}
use Rattle.table.specs.declared.series.Series.TheVariants as Over

-- ---- a well-formed list has its look-backs below D

Bounded : ℕ → ℕ → List Op → Type 0
Bounded K D [] = Unit
Bounded K D (x ∷ xs) = (bounded K D (length xs) x ≡ true) × Bounded K D xs

second : (a b : Bool) → (a && b) ≡ true → b ≡ true
second true b e = e
second false b e = cc

well_first : (b : Bool) (f : Result (Unit {0}) ℕ) (p : ℕ) → cond b f (Err p) ≡ Ok tt → (b ≡ true) × (f ≡ Ok tt)
well_first true f p e = (refl, e)
well_first false f p e = let never : ◌≡◌ {A = ℕ} 0 1 = cc in absurd (omega arith)

length_ops : (bs : List ℕ) (p m : ℕ) → length (ops_from bs p m) ≡ m
unfolding ops_from
length_ops bs p zero = refl
length_ops bs p (suc m) = ap suc (length_ops bs (p + 1) m)

bounded_from : (K D : ℕ) (bs : List ℕ) (p m : ℕ) → formed_from K D bs p m ≡ Ok tt → Bounded K D (ops_from bs p m)
unfolding formed_from ops_from Bounded good_step
bounded_from K D bs p zero w = tt
bounded_from K D bs p (suc m) w =
    let here = well_first (unused_fields_zero (step_at bs p) (op_of (step_at bs p)) && bounded K D m (op_of (step_at bs p))) (formed_from K D bs (p + 1) m) p w in (
      rw (length_ops bs (p + 1) m) (second (unused_fields_zero (step_at bs p) (op_of (step_at bs p))) (bounded K D m (op_of (step_at bs p))) here.0),
      bounded_from K D bs (p + 1) m here.1,
    )

-- of the parts of `formed`
well_parts : (a b : Bool) (f : Result (Unit {0}) ℕ) → cond a (cond b (Err 0) f) (Err 0) ≡ Ok tt → (b ≡ false) × (f ≡ Ok tt)
well_parts true true f e = let never : ◌≡◌ {A = ℕ} 0 1 = cc in absurd (omega arith)
well_parts true false f e = (refl, e)
well_parts false b f e = let never : ◌≡◌ {A = ℕ} 0 1 = cc in absurd (omega arith)

module _ (K D : ℕ) (bs : List ℕ) (well : formed K D bs ≡ Ok tt) where
  parts : (ltb most_steps (steps_in bs) ≡ false) × (formed_from K D bs 0 (steps_in bs) ≡ Ok tt)
  unfolding formed
  parts = well_parts (eqb (length bs % 16) 0) (ltb most_steps (steps_in bs)) (formed_from K D bs 0 (steps_in bs)) well

  -- a well-formed list is run whole: it has no step past the 1,024th
  pub run_whole : ops_of bs ≡ ops_from bs 0 (steps_in bs)
  unfolding ops_of steps_run
  run_whole =
      let all : min most_steps (steps_in bs) ≡ steps_in bs = omega (arith, ltb-false most_steps (steps_in bs) parts.0) in
      rw all

  bounded_ops : Bounded K D (ops_of bs)
  bounded_ops = rw run_whole (bounded_from K D bs 0 (steps_in bs) parts.1)

-- ---- two histories whose leaves are the same, less than D rows back

-- of prices, constants, and slots below K
pub record LeavesSame (K D : ℕ) (w h : History) : Type 0 where
  pub constant : (bits n : ℕ) → n < D → ago w (const bits) n ≡ ago h (const bits) n
  pub slot : (k n : ℕ) → k < K → n < D → ago w (ref k) n ≡ ago h (ref k) n
  pub cost : (p n : ℕ) → n < D → ago w (price p) n ≡ ago h (price p) n
  pub look : (kind : ℕ) (over : Series) (n back : ℕ) → series_within K over ≡ true → back + (n - 1) < D
      → ago w (extreme kind over n) back ≡ ago h (extreme kind over n) back

first : (a b : Bool) → (a && b) ≡ true → a ≡ true
first true b e = refl
first false b e = e

module _ (K D : ℕ) (w h : History) (leaves : LeavesSame K D w h) (s : PositionState) where
  effect_same : (m : ℕ) (x : Op) → bounded K D m x ≡ true → (a b c d : Option Float) (y : Bool) → effect w s x a b c d y ≡ effect h s x a b c d y
  unfolding effect bounded looks_within holds
  effect_same m (Const bits n) e a b c d y = rw (leaves.constant bits n (ltb-true n D e))
  effect_same m (Ref k n) e a b c d y = rw (leaves.slot k n (ltb-true k K (first (ltb k K) (ltb n D) e)) (ltb-true n D (second (ltb k K) (ltb n D) e)))
  effect_same m (Price p n) e a b c d y = rw (leaves.cost p n (ltb-true n D e))
  effect_same m (Extreme kind over n back) e a b c d y =
      let within = first (series_within K over) (ltb (back + (n - 1)) D) e in
      let near = ltb-true (back + (n - 1)) D (second (series_within K over) (ltb (back + (n - 1)) D) e) in
      rw (leaves.look kind over n back within near)
  effect_same m (Arith k) e a b c d y = refl
  effect_same m (Compare k) e a b c d y = refl
  effect_same m (Cross k) e a b c d y = refl
  effect_same m Between e a b c d y = refl
  effect_same m (Answer v) e a b c d y = refl
  effect_same m Turn e a b c d y = refl
  effect_same m (InPosition v) e a b c d y = refl
  effect_same m (BarsSinceEntry p k) e a b c d y = refl
  effect_same m (JumpIf v n) e a b c d y = refl
  effect_same m Unknown e a b c d y = refl

  does_same : (m : ℕ) (x : Op) → bounded K D m x ≡ true → (v : Values) → does w s x v ≡ does h s x v
  unfolding does
  does_same m x e v = effect_same m x e _ _ _ _ v.answer

  run_same : (xs : List Op) → Bounded K D xs → (k : ℕ) (v : Values) → run w s xs k v ≡ run h s xs k v
  unfolding run Bounded
  run_same [] g k v = refl
  run_same (x ∷ xs) g (suc k) v = run_same xs g.1 k v
  run_same (x ∷ xs) g zero v = rw (does_same (length xs) x g.0 v) (run_same xs g.1 (does h s x v).skip (after_step (does h s x v) v))

  counts_same : (xs : List Op) → Bounded K D xs → (k : ℕ) (v : Values) → visit_count w s xs k v ≡ visit_count h s xs k v
  unfolding visit_count Bounded
  counts_same [] g k v = refl
  counts_same (x ∷ xs) g (suc k) v = counts_same xs g.1 k v
  counts_same (x ∷ xs) g zero v =
      rw (does_same (length xs) x g.0 v)
      (ap (λ (n : ℕ). (does h s x v).visits + n) (counts_same xs g.1 (does h s x v).skip (after_step (does h s x v) v)))

  ran_same : (xs : List Op) → Bounded K D xs → ran_over w s xs ≡ ran_over h s xs
  ran_same xs g =
      let said : (ran_over w s xs).answer ≡ (ran_over h s xs).answer = ap (λ (v : Values). v.answer) (run_same xs g 0 start) in
      let seen : (ran_over w s xs).visits ≡ (ran_over h s xs).visits = counts_same xs g 0 start in
      rw (said, seen)

-- ---- a leaf less than D rows back, over the last D rows

module _ (K D : ℕ) (ws : List ℕ) where
  h : History
  h = history_of K ws

  w : History
  w = history_of K (last_rows K D ws)

  gone : ℕ
  gone = (history_of K ws).rows - D

  part : Without h w gone
  unfolding h w gone last_rows history_of
  part = without_first K ((history_of K ws).rows - D) ws (omega arith)

  -- all rows are among the last D, or D are left
  all_left : h.rows ≤ D → w ≡ h
  unfolding h w last_rows history_of
  all_left l =
      let none : length ws / width K - D ≡ 0 = omega arith in
      rw (none, zero-mul)

  leaf_left : (a : Operand) (n : ℕ) → n + reach a < D → D < h.rows → ago w a n ≡ ago h a n
  unfolding ago newest
  leaf_left a n near l =
      let left : w.rows ≡ D = unfold gone h in omega (arith, part.count) in
      let at : h.rows - 1 - n ≡ gone + (w.rows - 1 - n) = omega (arith, part.count) in
      rw (lt-ltb n w.rows (omega arith), lt-ltb n h.rows (omega arith), at)
      (sym (operand_same h w gone part a (w.rows - 1 - n) (omega arith)))

  leaf_same : (a : Operand) (n : ℕ) → n + reach a < D → ago w a n ≡ ago h a n
  leaf_same a n near = ⊎_elim (leaf_left a n near) (λ all. ap (λ (x : History). ago x a n) (all_left all)) (less_or_not D h.rows)

  last_same : LeavesSame K D w h
  unfolding reach
  last_same =
      record {
        constant = λ bits n near. leaf_same (const bits) n (omega arith);
        slot = λ k n below near. leaf_same (ref k) n (omega arith);
        cost = λ p n near. leaf_same (price p) n (omega arith);
        look = λ kind over n back within near. leaf_same (extreme kind over n) back near;
      }

-- ---- rows from a row on, and the rows turned

-- words that agree below the width give the same price, and the same slot below K
price_alike : (K p : ℕ) (f g : ℕ → ℕ) → ((j : ℕ) → j < width K → f j ≡ g j) → price_of f p ≡ price_of g p
unfolding price_of
price_alike K p f g same =
    ⊎_elim (λ (one : p < 5). rw (lt-ltb p 5 one, same (p + 1) (omega arith)))
    (λ (more : 5 ≤ p). rw (le-ltb p 5 more, same 1 (omega arith), same 2 (omega arith), same 3 (omega arith), same 4 (omega arith)))
    (less_or_not p 5)

slot_alike : (K k : ℕ) (f g : ℕ → ℕ) → ((j : ℕ) → j < width K → f j ≡ g j) → k < K → slot_of f k ≡ slot_of g k
unfolding slot_of
slot_alike K k f g same below = rw (same 6 (omega arith), same (7 + k) (omega arith))

module _ (K D : ℕ) (w h : History) (alike : SameRows K w h) where
  series_alike : (over : Series) (i : ℕ) → series_within K over ≡ true → i < w.rows → series_at w over i ≡ series_at h over i
  unfolding series_at there series_within
  series_alike (Over.Price p) i e l =
      rw (← alike.count, price_alike K p (w.word i) (h.word i) (λ j m. alike.words i j l m))
  series_alike (Over.Slot k) i e l =
      rw (← alike.count, slot_alike K k (w.word i) (h.word i) (λ j m. alike.words i j l m) (ltb-true k K e))

  extreme_alike : (kind : ℕ) (over : Series) (oldest m : ℕ) → series_within K over ≡ true → oldest + m < w.rows
      → extreme_over w kind over oldest m ≡ extreme_over h kind over oldest m
  unfolding extreme_over
  extreme_alike kind over oldest zero e l = series_alike over oldest e (omega arith)
  extreme_alike kind over oldest (suc m) e l =
      rw (extreme_alike kind over oldest m e (omega arith), series_alike over (oldest + suc m) e l)

  extreme_at_alike : (kind : ℕ) (over : Series) (n i : ℕ) → series_within K over ≡ true → i < w.rows
      → extreme_at w kind over n i ≡ extreme_at h kind over n i
  unfolding extreme_at
  extreme_at_alike kind over n i e l =
      ⊎_elim (λ (few : i < n - 1). rw (lt-ltb i (n - 1) few))
      (λ (many : n - 1 ≤ i). rw (le-ltb i (n - 1) many) (extreme_alike kind over (i - (n - 1)) (n - 1) e (omega arith))) (less_or_not i (n - 1))

  alike_same : LeavesSame K D w h
  unfolding ago value there newest
  alike_same =
      let count = alike.count in
      record {
        constant = λ bits n near. rw count;
        slot = λ k n below near.
            ⊎_elim
            (λ (held : n < w.rows).
            let i = w.rows - 1 - n in
            rw (← count, slot_alike K k (w.word i) (h.word i) (λ j l. alike.words i j (omega arith) l) below))
            (λ (late : w.rows ≤ n). rw (← count, le-ltb n w.rows late)) (less_or_not n w.rows);
        cost = λ p n near.
            ⊎_elim
            (λ (held : n < w.rows).
            let i = w.rows - 1 - n in
            rw (← count, price_alike K p (w.word i) (h.word i) (λ j l. alike.words i j (omega arith) l)))
            (λ (late : w.rows ≤ n). rw (← count, le-ltb n w.rows late)) (less_or_not n w.rows);
        look = λ kind over n back within near.
            ⊎_elim (λ (held : back < w.rows). rw (extreme_at_alike kind over n (w.rows - 1 - back) within (omega arith), count))
            (λ (late : w.rows ≤ back). rw (← count, le-ltb back w.rows late)) (less_or_not back w.rows);
      }

-- ---- the theorems

-- THE WINDOW of any list: well formed for D, it gives over the last D rows the answer and the visits that it gives over all.
pub window_any : (K D : ℕ) (ws bs : List ℕ) (s : PositionState) → formed K D bs ≡ Ok tt
    → ran_over (history_of K (last_rows K D ws)) s (ops_of bs) ≡ ran_over (history_of K ws) s (ops_of bs)
unfolding h w
window_any K D ws bs s well = ran_same K D (w K D ws) (h K D ws) (last_same K D ws) s (ops_of bs) (bounded_ops K D bs well)

-- THE RING of any list: well formed for D, it gives over rows from row `start` on what it gives over the last D of the turned rows.
pub ring_any : (K D start : ℕ) (ws bs : List ℕ) (s : PositionState) → formed K D bs ≡ Ok tt
    → ran_over (ring_of K start ws) s (ops_of bs) ≡ ran_over (history_of K (last_rows K D (turned (width K) start ws))) s (ops_of bs)
ring_any K D start ws bs s well =
    let T = history_of K (turned (width K) start ws) in
    ran_same K D (ring_of K start ws) T (alike_same K D (ring_of K start ws) T (ring_turned K start ws)) s (ops_of bs) (bounded_ops K D bs well)
    ∙ sym (window_any K D (turned (width K) start ws) bs s well)
