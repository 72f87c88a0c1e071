-- A test of each number below n.
use Rattle.std.specs.Prelude.{ℕ, zero, suc, ◌+◌, ◌<◌, ◌≡◌, refl, Bool, true, false, ◌&&◌}
use Rattle.words.specs.Prelude.{sym, ap, ◌∙◌, ⊎_elim, eq-or-lt_of_le, add-one, arith}
use Rattle.refusals.specs.{Bar.every}

-- of none
pub every_none : (f : ℕ → Bool) → every 0 f ≡ true
unfolding every
every_none f = refl

-- one number more
pub every_more : (f : ℕ → Bool) (n : ℕ) → every n f ≡ true → f n ≡ true → every (n + 1) f ≡ true
unfolding every
every_more f n a b = rw add-one (simp (a, b))

and_no : (b : Bool) → (b && false) ≡ false
and_no true = refl
and_no false = refl

-- where it is not so of k, it is not so of each number below n
pub every_no : (f : ℕ → Bool) (k : ℕ) → f k ≡ false → (n : ℕ) → k < n → every n f ≡ false
unfolding every
every_no f k e zero l = absurd (omega arith)
every_no f k e (suc n) l = ⊎_elim
    (λ (h : k ≡ n). ap (λ (b : Bool). every n f && b) (ap f (sym h) ∙ e) ∙ and_no (every n f))
    (λ (h : k < n). ap (λ (b : Bool). b && f n) (every_no f k e n h))
    (eq-or-lt_of_le {n = k} {m = n} (omega arith))
