-- Laws of a list by a rule for its places.
-- Assumes nothing.
use Rattle.std.specs.Prelude.{◌≡◌, refl, List, ◌∷◌, ◌++◌, ℕ, zero, suc, ◌+◌, ◌<◌, length, get_or}
use Rattle.words.specs.Prelude.{◌∙◌, ap, arith, zero-add, suc-add, add-zero, ext_get_or}
use Rattle.table.specs.{Ends.from}

module _ {A : Type 0} (f : ℕ → A) where
  pub from_long : (m i : ℕ) → length (from f m i) ≡ m
  unfolding from
  from_long zero i = refl
  from_long (suc m) i = ap suc (from_long m (i + 1))

  pub from_at : (d : A) (m i k : ℕ) → k < m → get_or (from f m i) k d ≡ f (i + k)
  unfolding from
  from_at d zero i k h = absurd (never h)
    where
      never : k < 0 → ⊥
      never h' = omega arith
  from_at d (suc m) i zero h = ap f (omega arith)
  from_at d (suc m) i (suc k) h = from_at d m (i + 1) k (omega arith) ∙ ap f (omega arith)

  pub from_two : (m k i : ℕ) → from f (m + k) i ≡ from f m i ++ from f k (i + m)
  unfolding from
  from_two zero k i = rw (zero-add k, add-zero i)
  from_two (suc m) k i =
      let place : i + 1 + m ≡ i + suc m = omega arith in
      rw (suc-add m k) (ap (λ (l : List A). f i ∷ l) (from_two m k (i + 1) ∙ ap (λ (j : ℕ). from f m (i + 1) ++ from f k j) place))

-- a list is its own elements
pub from_all : (t : List ℕ) → from (λ i. get_or t i 0) (length t) 0 ≡ t
from_all t =
    ext_get_or 0 (from (λ i. get_or t i 0) (length t) 0) t (from_long (λ i. get_or t i 0) (length t) 0)
    (λ j h. from_at (λ i. get_or t i 0) 0 (length t) 0 j (small j h) ∙ ap (λ (k : ℕ). get_or t k 0) (zero-add j))
  where
    small : (j : ℕ) → j < length (from (λ i. get_or t i 0) (length t) 0) → j < length t
    small j h = omega (arith, from_long (λ i. get_or t i 0) (length t) 0)
