-- A run taken one step further, whatever keeps its values.
use Rattle.std.specs.Prelude.{Float, None, Option}
use Rattle.words.specs.Prelude.{ℕ, zero, suc, ◌+◌, ◌-◌, ◌≤◌, ◌<◌, min, ◌≡◌, refl, ◌∙◌, Bool, true, false, List, [], ◌∷◌, arith, sub-one, ltb, drop, ltb-true}
use Rattle.words.specs.Prelude.{ltb-false}
use Rattle.rows.specs.{History.History}
use Rattle.rules.specs.{declared.position.PositionState.PositionState, Values.compared}
use Rattle.rules.specs.{Values.crossed}
use Rattle.steps.specs.{declared.step.Op.Op, declared.step.Step.Step, Bytes.op_of, Bytes.step_at, Bytes.ops_from, Bytes.is_comparison, Machine.Values}
use Rattle.steps.specs.{Machine.Effect, Machine.nth, Machine.given, Machine.giving, Machine.saying, Machine.passing, Machine.effect, Machine.does}
use Rattle.steps.specs.{Machine.after_step, Machine.run, Machine.visit_count, Machine.ran_over, Places.holding, Places.Came, Places.Gives, Places.Tests}
use Rattle.steps.proofs.{Said.does_compare, Said.does_cross}

-- ---- jumps

module _ (h : History) (s : PositionState) (bs : List ℕ) where
  -- what is passed over is dropped from the list
  run_drop : (xs : List Op) (k : ℕ) (v : Values) → run h s xs k v ≡ run h s (drop k xs) 0 v
  unfolding run
  run_drop xs zero v = refl
  run_drop [] (suc k) v = refl
  run_drop (x ∷ xs) (suc k) v = run_drop xs k v

  count_drop : (xs : List Op) (k : ℕ) (v : Values) → visit_count h s xs k v ≡ visit_count h s (drop k xs) 0 v
  unfolding visit_count
  count_drop xs zero v = refl
  count_drop [] (suc k) v = refl
  count_drop (x ∷ xs) (suc k) v = count_drop xs k v

  ops_drop : (m p k : ℕ) → drop k (ops_from bs p m) ≡ ops_from bs (p + k) (m - k)
  unfolding ops_from
  ops_drop m p zero = let a : p + 0 ≡ p = omega arith in let b : m - 0 ≡ m = omega arith in rw (a, b)
  ops_drop zero p (suc k) = let b : 0 - suc k ≡ 0 = omega arith in rw b
  ops_drop (suc m) p (suc k) =
      let a : p + suc k ≡ p + 1 + k = omega arith in
      let b : suc m - suc k ≡ m - k = omega arith in
      rw (a, b) (ops_drop m (p + 1) k)

  none_left : (p m : ℕ) → m ≡ 0 → ops_from bs p m ≡ []
  unfolding ops_from
  none_left p m e = rw e

  one_more : (p m : ℕ) → 0 < m → ops_from bs p m ≡ op_of (step_at bs p) ∷ ops_from bs (p + 1) (m - 1)
  unfolding ops_from
  one_more p zero l = absurd (omega arith)
  one_more p (suc m) l = rw (sub-one (suc m))

  -- a jump past the end lands at the end
  landed : (n q : ℕ) → ops_from bs q (n - q) ≡ ops_from bs (min n q) (n - min n q)
  landed n q = go (ltb n q) refl
    where
      go : (t : Bool) → ltb n q ≡ t → ops_from bs q (n - q) ≡ ops_from bs (min n q) (n - min n q)
      go true e =
          let past : n < q = ltb-true n q e in
          rw (none_left q (n - q) (omega arith), none_left (min n q) (n - min n q) (omega arith))
      go false e = let at : min n q ≡ q = omega (arith, ltb-false n q e) in rw at

  run_cons : (xs : List Op) (x : Op) (v : Values) → run h s (x ∷ xs) 0 v ≡ run h s xs (does h s x v).skip (after_step (does h s x v) v)
  unfolding run
  run_cons xs x v = refl

  count_cons : (xs : List Op) (x : Op) (v : Values)
      → visit_count h s (x ∷ xs) 0 v ≡ (does h s x v).visits + visit_count h s xs (does h s x v).skip (after_step (does h s x v) v)
  unfolding visit_count
  count_cons xs x v = refl

-- ---- a step further

module _ (h : History) (s : PositionState) (bs : List ℕ) (n : ℕ) where
  pub came_start : Came h s bs n [] false 0 0
  came_start =
      let z : n - 0 ≡ n = omega arith in
      record { seen = omega arith; on = omega arith; same = rw z; count = rw z (omega arith) }

  module _ (vs : List (Option Float)) (y : Bool) (visits p : ℕ) (g : Came h s bs n vs y visits p) where
    -- what the step at p does
    abbrev done : Effect
    done = effect h s (op_of (step_at bs p)) (nth vs 0) (nth vs 1) (nth vs 2) (nth vs 3) y

    pub came_end : n ≤ p → record { answer = y; visits = visits } ≡ ran_over h s (ops_from bs 0 n)
    unfolding run visit_count
    came_end le =
        let none : ops_from bs p (n - p) ≡ [] = none_left h s bs p (n - p) (omega arith) in
        let said : y ≡ (ran_over h s (ops_from bs 0 n)).answer = rw (g.same, none) in
        let seen : visits ≡ (ran_over h s (ops_from bs 0 n)).visits = rw (g.count, none) (omega arith) in
        rw (said, seen)

    module _ (more : p < n) where
      module _ (e : Effect) (is : done ≡ e) (few : e.visits ≤ 65536) where
        left : Values
        left = holding e.answer (given e.gives e.value (drop e.take vs))

        did : does h s (op_of (step_at bs p)) (holding y vs) ≡ e
        unfolding does
        did = is

        after_it : after_step e (holding y vs) ≡ left
        unfolding after_step left
        after_it = refl

        q : ℕ
        q = p + 1 + e.skip

        -- the steps behind it, and those behind its jump
        these : ops_from bs p (n - p) ≡ op_of (step_at bs p) ∷ ops_from bs (p + 1) (n - p - 1)
        these = one_more h s bs p (n - p) (omega arith)

        those : drop e.skip (ops_from bs (p + 1) (n - p - 1)) ≡ ops_from bs (min n q) (n - min n q)
        unfolding q
        those =
            let rest : n - p - 1 - e.skip ≡ n - (p + 1 + e.skip) = omega arith in
            rw (ops_drop h s bs (n - p - 1) (p + 1) e.skip, rest) (landed h s bs n (p + 1 + e.skip))

        run_next : run h s (ops_from bs p (n - p)) 0 (holding y vs) ≡ run h s (ops_from bs (min n q) (n - min n q)) 0 left
        run_next =
            let behind : List Op = ops_from bs (p + 1) (n - p - 1) in
            rw (these, run_cons h s bs behind (op_of (step_at bs p)) (holding y vs), did, after_it, run_drop h s bs behind e.skip left, those)

        count_next : visit_count h s (ops_from bs p (n - p)) 0 (holding y vs)
            ≡ e.visits + visit_count h s (ops_from bs (min n q) (n - min n q)) 0 left
        count_next =
            let behind : List Op = ops_from bs (p + 1) (n - p - 1) in
            rw (these, count_cons h s bs behind (op_of (step_at bs p)) (holding y vs), did, after_it, count_drop h s bs behind e.skip left, those)

        pub came_on : Came h s bs n (given e.gives e.value (drop e.take vs)) e.answer (visits + e.visits) (min n (p + 1 + e.skip))
        unfolding left q
        came_on =
            record {
              seen = omega (arith, g.seen, few, more);
              on = omega arith;
              same = g.same ∙ run_next;
              count = g.count ∙ rw count_next (omega arith);
            }

      next : min n (p + 1 + 0) ≡ p + 1
      next = omega (arith, more)

      -- a leaf
      came_leaf : (v : Option Float) → Gives h bs p v → Came h s bs n (v ∷ vs) y (visits + 1) (p + 1)
      came_leaf v is = rw next at (came_on (giving 0 v y) (is s (nth vs 0) (nth vs 1) (nth vs 2) (nth vs 3) y) (omega arith))

      -- a step that takes m values and answers
      pub came_say : (m : ℕ) (w : Bool) → done ≡ saying m w → Came h s bs n (drop m vs) w (visits + 1) (p + 1)
      came_say m w is = rw next at (came_on (saying m w) is (omega arith))

      -- a step that passes over k others
      pub came_pass : (k : ℕ) → done ≡ passing k y → Came h s bs n vs y (visits + 1) (min n (p + 1 + k))
      came_pass k is = came_on (passing k y) is (omega arith)

      -- a jump that is not taken
      pub came_stay : done ≡ passing 0 y → Came h s bs n vs y (visits + 1) (p + 1)
      came_stay is = rw next at (came_pass 0 is)

-- ---- a test with its leaves

module _ (h : History) (bs : List ℕ) (n p : ℕ) (a b : Option Float) (first : Gives h bs p a) (second : Gives h bs (p + 1) b) where
  -- two leaves further
  two : (s : PositionState) (y : Bool) (visits : ℕ) → p + 2 ≤ n → Came h s bs n [] y visits p → Came h s bs n (b ∷ a ∷ []) y (visits + 2) (p + 2)
  two s y visits more g =
      let place : p + 1 + 1 ≡ p + 2 = omega arith in
      let seen : visits + 1 + 1 ≡ visits + 2 = omega arith in
      let one = came_leaf h s bs n [] y visits p g (omega arith) a first in
      rw (place, seen) at (came_leaf h s bs n (a ∷ []) y (visits + 1) (p + 1) one (omega arith) b second)

  pub compare_tests : p + 3 ≤ n → (x : Step) → x ≡ step_at bs (p + 2) → is_comparison x.kind ≡ true → Tests h bs n p 3 (compared x.kind a b)
  compare_tests more x is class some s y visits g =
      let place : p + 2 + 1 ≡ p + 3 = omega arith in
      let seen : visits + 2 + 1 ≡ visits + 3 = omega arith in
      rw (place, seen) at (came_say h s bs n (b ∷ a ∷ []) y (visits + 2) (p + 2) (two s y visits (omega arith) g) (omega arith) 2 (compared x.kind a b)
      (rw (← is) (does_compare x h s b a None None y class)))

  module _ (c d : Option Float) (third : Gives h bs (p + 2) c) (fourth : Gives h bs (p + 3) d) where
    -- four leaves further
    four : (s : PositionState) (y : Bool) (visits : ℕ) → p + 4 ≤ n → Came h s bs n [] y visits p
        → Came h s bs n (d ∷ c ∷ b ∷ a ∷ []) y (visits + 4) (p + 4)
    four s y visits more g =
        let third-place : p + 2 + 1 ≡ p + 3 = omega arith in
        let place : p + 3 + 1 ≡ p + 4 = omega arith in
        let seen : visits + 2 + 1 + 1 ≡ visits + 4 = omega arith in
        let three = came_leaf h s bs n (b ∷ a ∷ []) y (visits + 2) (p + 2) (two s y visits (omega arith) g) (omega arith) c third in
        rw (place, seen) at (came_leaf h s bs n (c ∷ b ∷ a ∷ []) y (visits + 2 + 1) (p + 3) (rw third-place at three) (omega arith) d fourth)

    pub cross_tests : p + 5 ≤ n → (x : Step) → x ≡ step_at bs (p + 4) → 22 ≤ x.kind → x.kind < 24 → Tests h bs n p 5 (crossed x.kind a b c d)
    cross_tests more x is le l some s y visits g =
        let place : p + 4 + 1 ≡ p + 5 = omega arith in
        let seen : visits + 4 + 1 ≡ visits + 5 = omega arith in
        rw (place, seen) at (came_say h s bs n (d ∷ c ∷ b ∷ a ∷ []) y (visits + 4) (p + 4) (four s y visits (omega arith) g) (omega arith) 4
        (crossed x.kind a b c d) (rw (← is) (does_cross x h s d c b a y le l)))
