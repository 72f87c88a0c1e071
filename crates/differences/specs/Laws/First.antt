-- The first point that differs: it does, those before it do not, and no other is the first. Assumes nothing.
use Rattle.std.specs.Prelude.{ℕ, zero, suc, ◌+◌, ◌<◌, ◌≤◌, ◌≡◌, refl, Bool, true, false, List, ◌⊎◌, eqb}
use Rattle.words.specs.Prelude.{sym, subst, ◌∙◌, inl, inr, ⊎_elim, arith, eq-eqb, ne_eqb}
use Rattle.words.specs.Prelude.{eqb-true, eqb-false}
use Rattle.differences.specs.{Lines.equity_at, Lines.first_point}

-- equal or not
pub same_or : (x y : ℕ) → (x ≡ y) ⊎ (x ≡ y → ⊥)
same_or x y = go (eqb x y) refl
  where
    go : (t : Bool) → eqb x y ≡ t → (x ≡ y) ⊎ (x ≡ y → ⊥)
    go true e = inl (eqb-true x y e)
    go false e = inr (eqb-false x y e)

further : (x y : ℕ) → x ≤ y → (x ≡ y → ⊥) → suc x ≤ y
further x y h d = omega arith

-- one of y and one more that is not the last
pub not_last : (x y : ℕ) → x < suc y → (x ≡ y → ⊥) → x < y
not_last x y h d = omega arith

module _ (a b : List ℕ) where
  on : (i n : ℕ) → equity_at a i ≡ equity_at b i → first_point a b i (suc n) ≡ first_point a b (suc i) n
  unfolding first_point
  on i n e = rw (eq-eqb (equity_at a i) (equity_at b i) e) refl

  stop : (i n : ℕ) → (equity_at a i ≡ equity_at b i → ⊥) → first_point a b i (suc n) ≡ i
  unfolding first_point
  stop i n d = rw (ne_eqb (equity_at a i) (equity_at b i) d) refl

  end : (i : ℕ) → first_point a b i zero ≡ i
  unfolding first_point
  end i = refl

  pub before_equal : (n i j : ℕ) → i ≤ j → j < first_point a b i n → equity_at a j ≡ equity_at b j
  before_equal zero i j h l = absurd (omega (arith, end i))
  before_equal (suc n) i j h l = ⊎_elim
      (λ (e : equity_at a i ≡ equity_at b i). ⊎_elim
      (λ (s : i ≡ j). subst (λ (x : ℕ). equity_at a x ≡ equity_at b x) s e)
      (λ (d : i ≡ j → ⊥). before_equal n (suc i) j (further i j h d) (subst (λ (x : ℕ). j < x) (on i n e) l))
      (same_or i j))
      (λ (d : equity_at a i ≡ equity_at b i → ⊥). absurd (omega (arith, stop i n d)))
      (same_or (equity_at a i) (equity_at b i))

  pub first_differs : (n i : ℕ) → first_point a b i n < i + n → equity_at a (first_point a b i n) ≡ equity_at b (first_point a b i n) → ⊥
  first_differs zero i l = absurd (omega (arith, end i))
  first_differs (suc n) i l = ⊎_elim
      (λ (e : equity_at a i ≡ equity_at b i).
      subst (λ (x : ℕ). equity_at a x ≡ equity_at b x → ⊥) (sym (on i n e)) (first_differs n (suc i) (less _ _ i n (on i n e) l)))
      (λ (d : equity_at a i ≡ equity_at b i → ⊥). subst (λ (x : ℕ). equity_at a x ≡ equity_at b x → ⊥) (sym (stop i n d)) d)
      (same_or (equity_at a i) (equity_at b i))
    where
      less : (x y i n : ℕ) → x ≡ y → x < i + suc n → y < suc i + n
      less x y i n e l = omega arith

  pub first_is : (n i k : ℕ) → i ≤ k → k < i + n → (equity_at a k ≡ equity_at b k → ⊥) → ((j : ℕ) → i ≤ j → j < k → equity_at a j ≡ equity_at b j)
      → first_point a b i n ≡ k
  first_is zero i k h l d u = absurd (omega arith)
  first_is (suc n) i k h l d u = ⊎_elim
      (λ (e : equity_at a i ≡ equity_at b i). on i n e ∙ first_is n (suc i) k
      (further i k h (λ (s : i ≡ k). d (subst (λ (x : ℕ). equity_at a x ≡ equity_at b x) s e))) (less i n k l) d (λ j p q. u j (under i j p) q))
      (λ (v : equity_at a i ≡ equity_at b i → ⊥). stop i n v ∙ ⊎_elim (λ (s : i ≡ k). s)
      (λ (w : i ≡ k → ⊥). absurd (v (u i (least i) (further i k h w)))) (same_or i k))
      (same_or (equity_at a i) (equity_at b i))
    where
      less : (i n k : ℕ) → k < i + suc n → k < suc i + n
      less i n k l = omega arith

      under : (i j : ℕ) → suc i ≤ j → i ≤ j
      under i j l = omega arith

      least : (i : ℕ) → i ≤ i
      least i = omega arith

-- the same point, whichever run is named first
pub first_exchanged : (a b : List ℕ) (n i : ℕ) → first_point b a i n ≡ first_point a b i n
first_exchanged a b zero i = end b a i ∙ sym (end a b i)
first_exchanged a b (suc n) i = ⊎_elim
    (λ (e : equity_at a i ≡ equity_at b i). on b a i n (sym e) ∙ first_exchanged a b n (suc i) ∙ sym (on a b i n e))
    (λ (d : equity_at a i ≡ equity_at b i → ⊥). stop b a i n (λ s. d (sym s)) ∙ sym (stop a b i n d))
    (same_or (equity_at a i) (equity_at b i))
