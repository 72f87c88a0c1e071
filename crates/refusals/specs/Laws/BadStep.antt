-- A bad step of a list is one of its at most 1,024.
use Rattle.std.specs.Prelude.{ℕ, zero, suc, ◌+◌, ◌<◌, ◌%◌, ◌≡◌, refl, Bool, true, false, cond, List, length, eqb, ltb, Err}
use Rattle.words.specs.Prelude.{arith, ltb-false}
use Rattle.words.specs.{Limits.most_steps}
use Rattle.steps.specs.{Bytes.step_at, Bytes.steps_in, WellFormed.good_step, WellFormed.formed_from, WellFormed.formed}

-- one of the m steps from place p on
among : (K D : ℕ) (bs : List ℕ) (p m q : ℕ) → formed_from K D bs p m ≡ Err q → q < p + m
unfolding formed_from
among K D bs p zero q e = absurd (let z : ◌≡◌ {A = ℕ} 0 1 = cc in omega arith)
among K D bs p (suc m) q e = go (good_step K D m (step_at bs p)) (among K D bs (p + 1) m q) e
  where
    go : (b : Bool) → (formed_from K D bs (p + 1) m ≡ Err q → q < p + 1 + m) → cond b (formed_from K D bs (p + 1) m) (Err p) ≡ Err q → q < p + suc m
    go true ih h = omega (arith, ih h)
    go false ih h = let z : p ≡ q = cc in omega arith

pub bad_below : (K D : ℕ) (bs : List ℕ) (q : ℕ) → formed K D bs ≡ Err q → q < most_steps
unfolding formed
bad_below K D bs q e = go (eqb (length bs % 16) 0) (ltb most_steps (steps_in bs)) refl e
  where
    go : (a b : Bool) → ltb most_steps (steps_in bs) ≡ b → cond a (cond b (Err 0) (formed_from K D bs 0 (steps_in bs))) (Err 0) ≡ Err q → q < most_steps
    go false b d h = let z : 0 ≡ q = cc in omega arith
    go true true d h = let z : 0 ≡ q = cc in omega arith
    go true false d h = omega (arith, among K D bs 0 (steps_in bs) q h, ltb-false most_steps (steps_in bs) d)
