-- What a bit more of a root leaves over, and the number nearest to a root. Assumes nothing.
use Rattle.words.specs.Prelude.{◌≡◌, refl, sym, ap, subst, ◌∙◌, ◌⊎◌, inl, inr, ℕ, suc, ◌+◌, ◌-◌, ◌*◌, ◌/◌, ◌%◌, ◌^◌, ◌≤◌, ◌<◌, mul-le-mul, lt_of_not-le}
use Rattle.words.specs.Prelude.{not-le_of_lt, lt_of_lt_of_le, le_trans, eq-zero-or-pos, arith}
use Rattle.floats.specs.{Root.Goes, Root.WholeRoot, Root.Sized, Root.NearestRoot}

-- s is twice the root of n but for its bits below r, and y times r is left over
pub record Found (n s y r : ℕ) : Type 0 where
  pub made : s * s + 4 * (y * r) ≡ 4 * n
  pub rest : y < s + r
  pub even : s % 2 ≡ 0

-- k bits more: the weight is divided by 2 ^ k, and what was found holds
pub goes : (n s y r s' y' r' : ℕ) → Found n s y r → Goes s y r s' y' r' → Found n s' y' r'
goes n s y r s' y' r' f g = record { made = g.made ∙ f.made; rest = g.rest; even = g.even ∙ f.even }

pub bit_one : (s y b u : ℕ) → y < s + 2 * b → u + (s + b) ≡ 2 * y → Goes s y (2 * b) (s + b + b) u b
bit_one s y b u h e = record { made = omega (arith, ap (λ (z : ℕ). z * b) e); rest = omega arith; even = parity s b; fits = omega arith }
  where
    parity : (x z : ℕ) → (x + z + z) % 2 ≡ x % 2
    parity x z = omega arith

pub bit_none : (s y b : ℕ) → 2 * y < s + b → Goes s y (2 * b) s (2 * y) b
bit_none s y b h = record { made = omega arith; rest = h; even = refl; fits = omega arith }

pub goes_on : (s y r s' y' r' s'' y'' r'' : ℕ) → Goes s y r s' y' r' → Goes s' y' r' s'' y'' r'' → Goes s y r s'' y'' r''
goes_on s y r s' y' r' s'' y'' r'' f g = record { made = g.made ∙ f.made; rest = g.rest; even = g.even ∙ f.even; fits = le_trans g.fits f.fits }

pub all_found : (n s y : ℕ) → Found n s y 1 → WholeRoot n (s / 2) y
all_found n s y f =
    let twice : s ≡ 2 * (s / 2) = halved s f.even in
    let square : s * s ≡ 4 * (s / 2 * (s / 2)) = ap (λ (z : ℕ). z * z) twice ∙ out (s / 2) in
    record { made = omega (arith, f.made); rest = omega (arith, f.rest) }
  where
    halved : (x : ℕ) → x % 2 ≡ 0 → x ≡ 2 * (x / 2)
    halved x e = omega arith

    out : (x : ℕ) → 2 * x * (2 * x) ≡ 4 * (x * x)
    out x = omega arith

-- ---- the nearest number

-- squares keep the order
less : (a b : ℕ) → a * a < b * b → a < b
less a b h = lt_of_not-le (λ (g : b ≤ a). not-le_of_lt h (mul-le-mul g g))

-- half the whole root of 4 M, rounded up: h is that half and p is 0 or 1, 2 h = q + p
module _ (M q y h p : ℕ) (f : WholeRoot (4 * M) q y) (e : 2 * h ≡ q + p) where
  below_next : 4 * M < (q + 1) * (q + 1)
  below_next = omega (arith, f.made, f.rest)

  -- an odd square is not 4 M
  odd : p ≡ 1 → 1 ≤ h → (2 * h - 1) * (2 * h - 1) < 4 * M
  odd o l =
      let root : 2 * h - 1 ≡ q = omega arith in
      subst (λ (z : ℕ). z * z < 4 * M) (sym root) (strict (h - 1) (omega arith))
    where
      strict : (k : ℕ) → q ≡ 2 * k + 1 → q * q < 4 * M
      strict k g =
          let square : q * q ≡ 4 * (k * k + k) + 1 = ap (λ (z : ℕ). z * z) g ∙ out k in
          omega (arith, f.made)
        where
          out : (x : ℕ) → (2 * x + 1) * (2 * x + 1) ≡ 4 * (x * x + x) + 1
          out x = omega arith

  even : p ≡ 0 → 1 ≤ h → (2 * h - 1) * (2 * h - 1) < 4 * M
  even o l = step (2 * h - 1) (omega arith)
    where
      step : (k : ℕ) → k + 1 ≡ q → k * k < 4 * M
      step k g =
          let square : q * q ≡ k * k + 2 * k + 1 = ap (λ (z : ℕ). z * z) (sym g) ∙ out k in
          omega (arith, f.made)
        where
          out : (x : ℕ) → (x + 1) * (x + 1) ≡ x * x + 2 * x + 1
          out x = omega arith

  over : 4 * M < (2 * h + 1) * (2 * h + 1)
  over = lt_of_lt_of_le below_next (mul-le-mul {n₁ = q + 1} {m₁ = q + 1} (omega arith) (omega arith))

-- the whole root has 54 bits, and not all of them are 1
pub root_most : (M q y : ℕ) → Sized M → WholeRoot (4 * M) q y → q < 2 ^ 54 - 1
root_most M q y m f = less q (2 ^ 54 - 1) (near M (q * q) (omega (arith, f.made)) m.most)
  where
    near : (a x : ℕ) → x ≤ 4 * a → a ≤ 2 ^ 106 - 2 ^ 53 → x < (2 ^ 54 - 1) * (2 ^ 54 - 1)
    near a x l k = omega arith

-- THE NEAREST: half of the whole root of 4 M, rounded up.
pub nearest : (M q y : ℕ) → Sized M → WholeRoot (4 * M) q y → NearestRoot M ((q + 1) / 2)
nearest M q y m f = record {
  s_least = half_least q
      (lt_of_not-le (λ (g : suc q ≤ 2 ^ 53). not-le_of_lt (below_next M q y ((q + 1) / 2) (2 * ((q + 1) / 2) - q) f (parts q)) (far M q g m.least)));
  s_most = half_most q (root_most M q y m f);
  above = under (eq-zero-or-pos (2 * ((q + 1) / 2) - q));
  below = over M q y ((q + 1) / 2) (2 * ((q + 1) / 2) - q) f (parts q);
}
  where
    parts : (x : ℕ) → 2 * ((x + 1) / 2) ≡ x + (2 * ((x + 1) / 2) - x)
    parts x = omega arith

    half_least : (x : ℕ) → 2 ^ 53 < suc x → 2 ^ 52 ≤ (x + 1) / 2
    half_least x l = omega arith

    half_most : (x : ℕ) → x < 2 ^ 54 - 1 → (x + 1) / 2 < 2 ^ 53
    half_most x l = omega arith

    far : (a x : ℕ) → suc x ≤ 2 ^ 53 → 2 ^ 104 ≤ a → (x + 1) * (x + 1) ≤ 4 * a
    far a x l k = le_trans (mul-le-mul {n₁ = x + 1} {m₁ = x + 1} {n₂ = 2 ^ 53} {m₂ = 2 ^ 53} (up x l) (up x l)) (four a k)
      where
        up : (z : ℕ) → suc z ≤ 2 ^ 53 → z + 1 ≤ 2 ^ 53
        up z h = omega arith

        four : (z : ℕ) → 2 ^ 104 ≤ z → 2 ^ 53 * 2 ^ 53 ≤ 4 * z
        four z h = omega arith

    some : 1 ≤ (q + 1) / 2
    some = go q
        (lt_of_not-le (λ (g : suc q ≤ 2 ^ 53). not-le_of_lt (below_next M q y ((q + 1) / 2) (2 * ((q + 1) / 2) - q) f (parts q)) (far M q g m.least)))
      where
        go : (x : ℕ) → 2 ^ 53 < suc x → 1 ≤ (x + 1) / 2
        go x l = omega arith

    under : (2 * ((q + 1) / 2) - q ≡ 0) ⊎ (0 < 2 * ((q + 1) / 2) - q) → (2 * ((q + 1) / 2) - 1) * (2 * ((q + 1) / 2) - 1) < 4 * M
    under (inl e) = even M q y ((q + 1) / 2) (2 * ((q + 1) / 2) - q) f (parts q) e some
    under (inr l) = odd M q y ((q + 1) / 2) (2 * ((q + 1) / 2) - q) f (parts q) (only q l) some
      where
        only : (x : ℕ) → 0 < 2 * ((x + 1) / 2) - x → 2 * ((x + 1) / 2) - x ≡ 1
        only x l = omega arith
