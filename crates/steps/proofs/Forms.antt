-- What is said of a list's steps from a place on, by those that are good.
use Rattle.std.specs.Prelude.{Err, Ok}
use Rattle.words.specs.Prelude.{ℕ, suc, ◌+◌, ◌-◌, ◌*◌, ◌<◌, ◌≤◌, ◌≡◌, ◌∙◌, true, cond, List, arith, sub-one, lt-ltb}
use Rattle.steps.specs.{Bytes.read_step, Bytes.step_at}
use Rattle.steps.specs.{Bytes.steps_in, WellFormed.good_step, WellFormed.formed_from}

module _ (K D : ℕ) (bs : List ℕ) (n : ℕ) where
  -- the step at p decides, or those after it do
  pub one_more : (p : ℕ) → n ≡ steps_in bs → p < n → formed_from K D bs p (n - p)
      ≡ cond (good_step K D (n - p - 1) (read_step bs (16 * p))) (formed_from K D bs (p + 1) (n - (p + 1))) (Err p)
  unfolding formed_from step_at
  one_more p all l =
      let m : ℕ = n - p - 1 in
      let e : n - p ≡ suc m = omega arith in
      let f : n - (p + 1) ≡ m = omega arith in
      rw (e, f, sub-one (suc m), lt-ltb p (steps_in bs) (omega arith))

  -- a good step is passed
  pub one_good : (p : ℕ) → n ≡ steps_in bs → p < n → good_step K D (n - p - 1) (read_step bs (16 * p)) ≡ true
      → formed_from K D bs p (n - p) ≡ formed_from K D bs (p + 1) (n - (p + 1))
  one_good p all l good = one_more p all l ∙ rw good

  -- and four of them
  pub four_good : (p : ℕ) → n ≡ steps_in bs → p + 4 ≤ n
      → ((after : ℕ) → good_step K D after (read_step bs (16 * p)) ≡ true)
      → ((after : ℕ) → good_step K D after (read_step bs (16 * p + 16)) ≡ true)
      → ((after : ℕ) → good_step K D after (read_step bs (16 * p + 32)) ≡ true)
      → good_step K D (n - p - 4) (read_step bs (16 * p + 48)) ≡ true
      → formed_from K D bs p (n - p) ≡ formed_from K D bs (p + 4) (n - (p + 4))
  four_good p all l first second third fourth =
      let second-place : 16 * p + 16 ≡ 16 * (p + 1) = omega arith in
      let third-place : 16 * p + 32 ≡ 16 * (p + 2) = omega arith in
      let fourth-place : 16 * p + 48 ≡ 16 * (p + 3) = omega arith in
      let after : n - p - 4 ≡ n - (p + 3) - 1 = omega arith in
      let two : p + 1 + 1 ≡ p + 2 = omega arith in
      let three : p + 2 + 1 ≡ p + 3 = omega arith in
      let four : p + 3 + 1 ≡ p + 4 = omega arith in
      one_good p all (omega arith) (first (n - p - 1))
      ∙ rw two at (one_good (p + 1) all (omega arith) (rw second-place at (second (n - (p + 1) - 1))))
      ∙ rw three at (one_good (p + 2) all (omega arith) (rw third-place at (third (n - (p + 2) - 1))))
      ∙ rw four at (one_good (p + 3) all (omega arith) (rw (after, fourth-place) at fourth))

  -- past the last nothing is left to be bad
  pub none_left : (p : ℕ) → n ≤ p → formed_from K D bs p (n - p) ≡ Ok tt
  unfolding formed_from
  none_left p l = let e : n - p ≡ 0 = omega arith in rw e
