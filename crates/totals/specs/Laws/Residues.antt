-- Two's complement: numbers that are the same but for multiples of m, and the sums of whole numbers. Assumes nothing.
use Rattle.std.specs.Prelude.{◌≡◌, refl, Bool, true, false, cond, ℕ, zero, suc, ◌+◌, ◌-◌, ◌*◌, ◌/◌, ◌%◌, ◌≤◌, ◌<◌, ltb, ℤ, pos, negsuc, ◌+ℤ◌}
use Rattle.words.specs.Prelude.{sym, ap, ◌∙◌, add-mul, one-mul, zero-mul}
use Rattle.words.specs.Prelude.{mod-lt, mod-eq_of_lt, add-mul-mod_self_right, div-add-mod', arith, ltb-true, ltb-false, lt-ltb, le-ltb}
use Rattle.words.specs.Prelude.{sub_ℕ}
use Rattle.totals.specs.{Number.shifted, Exact.residue, Exact.signed, Exact.step}

pub record Same (m u v : ℕ) : Type 0 where
  pub k : ℕ
  pub l : ℕ
  pub equal : u + k * m ≡ v + l * m

-- n stands for z in two's complement
abbrev Stands : ℕ → ℕ → ℤ → Type 0
Stands m n (pos a) = Same m n a
Stands m n (negsuc a) = Same m (n + suc a) 0

module _ {m : ℕ} where
  pub same_as : {u v : ℕ} → u ≡ v → Same m u v
  same_as e = record { k = 0; l = 0; equal = ap (λ (z : ℕ). z + 0 * m) e }

  pub same_sym : {u v : ℕ} → Same m u v → Same m v u
  same_sym s = record { k = s.l; l = s.k; equal = sym s.equal }

  pub same_trans : {u v w : ℕ} → Same m u v → Same m v w → Same m u w
  same_trans {u} {v} {w} s t = record {
    k = s.k + t.k;
    l = s.l + t.l;
    equal = omega (arith, s.equal, t.equal, add-mul s.k t.k m, add-mul s.l t.l m);
  }

  pub same_add : {u v : ℕ} (x : ℕ) → Same m u v → Same m (u + x) (v + x)
  same_add {u} {v} x s = record { k = s.k; l = s.l; equal = omega (arith, s.equal) }

  pub same_cancel : {u v : ℕ} (x : ℕ) → Same m (u + x) (v + x) → Same m u v
  same_cancel {u = u} {v = v} x s = record { k = s.k; l = s.l; equal = omega (arith, s.equal) }

  pub same_only : {u v : ℕ} → u < m → v < m → Same m u v → u ≡ v
  same_only {u} {v} p q s =
      sym (mod-eq_of_lt p) ∙ sym (add-mul-mod_self_right u s.k m) ∙ ap (λ (z : ℕ). z % m) s.equal ∙ add-mul-mod_self_right v s.l m
      ∙ mod-eq_of_lt q

  pub same_mod : (u : ℕ) → Same m (u % m) u
  same_mod u = record { k = u / m; l = 0; equal = omega (arith, div-add-mod' u m, zero-mul m) }

  -- a multiple of m
  same_more : (u q : ℕ) → Same m (u + q * m) u
  same_more u q = record { k = 0; l = q; equal = omega (arith, zero-mul m) }

  -- what is `shifted`
  pub shifted_below : (down : Bool) (a x : ℕ) → 0 < m → shifted down m a x < m
  unfolding shifted
  shifted_below false a x p = mod-lt (a + x) p
  shifted_below true a x p = mod-lt (a + (m - x % m)) p

  pub shifted_up : (a x : ℕ) → Same m (shifted false m a x) (a + x)
  unfolding shifted
  shifted_up a x = same_mod (a + x)

  pub shifted_down : (a x : ℕ) → 0 < m → Same m (shifted true m a x + x) a
  unfolding shifted
  shifted_down a x p =
      let parts : x / m * m + x % m ≡ x = div-add-mod' x m in
      let rest : x % m < m = mod-lt x p in
      let more : (x / m + 1) * m ≡ x / m * m + m = add-mul (x / m) 1 m ∙ ap (λ (z : ℕ). x / m * m + z) (one-mul m) in
      let whole : a + (m - x % m) + x ≡ a + (x / m + 1) * m = omega arith in
      same_trans (same_add x (same_mod (a + (m - x % m)))) (same_trans (same_as whole) (same_more a (x / m + 1)))

  -- by nothing
  pub shifted_none : (down : Bool) (a : ℕ) → a < m → shifted down m a 0 ≡ a
  shifted_none false a h = same_only (shifted_below false a 0 (omega arith)) h (same_trans (shifted_up a 0) (same_as (omega arith)))
  shifted_none true a h =
      same_only (shifted_below true a 0 (omega arith)) h (same_trans (same_as (omega arith)) (shifted_down a 0 (omega arith)))

  -- twice
  pub shifted_twice : (down : Bool) (a x y : ℕ) → 0 < m → shifted down m (shifted down m a x) y ≡ shifted down m a (x + y)
  shifted_twice false a x y p =
      same_only (shifted_below false (shifted false m a x) y p) (shifted_below false a (x + y) p)
      (same_trans (shifted_up (shifted false m a x) y)
      (same_trans (same_add y (shifted_up a x)) (same_trans (same_as (omega arith)) (same_sym (shifted_up a (x + y))))))
  shifted_twice true a x y p =
      let s = shifted true m (shifted true m a x) y in
      let t = shifted true m a (x + y) in
      same_only (shifted_below true (shifted true m a x) y p) (shifted_below true a (x + y) p)
      (same_cancel {u = s} {v = t} (x + y)
      (same_trans (same_as {u = s + (x + y)} {v = s + y + x} (omega arith))
      (same_trans (same_add x (shifted_down (shifted true m a x) y p)) (same_trans (shifted_down a x p) (same_sym (shifted_down a (x + y) p))))))

  -- ---- whole numbers

  stands_only : (n n' : ℕ) (z : ℤ) → n < m → n' < m → Stands m n z → Stands m n' z → n ≡ n'
  stands_only n n' (pos a) h l s t = same_only h l (same_trans s (same_sym t))
  stands_only n n' (negsuc a) h l s t = same_only h l (same_cancel {u = n} {v = n'} (suc a) (same_trans s (same_sym t)))

  pub residue_below : (z : ℤ) → 0 < m → residue m z < m
  unfolding residue
  residue_below (pos a) p = mod-lt a p
  residue_below (negsuc a) p = omega arith

  residue_stands : (z : ℤ) → 0 < m → Stands m (residue m z) z
  unfolding residue
  residue_stands (pos a) p = same_mod a
  residue_stands (negsuc a) p =
      let parts : a / m * m + a % m ≡ a = div-add-mod' a m in
      let rest : a % m < m = mod-lt a p in
      let more : (a / m + 1) * m ≡ a / m * m + m = add-mul (a / m) 1 m ∙ ap (λ (z : ℕ). a / m * m + z) (one-mul m) in
      let whole : m - 1 - a % m + suc a ≡ 0 + (a / m + 1) * m = omega arith in
      same_trans (same_as whole) (same_more 0 (a / m + 1))

  -- a difference
  stands_less : (s p q : ℕ) → Same m (s + suc p) q → Stands m s (sub_ℕ q (suc p))
  stands_less s p q h = go (ltb q (suc p)) refl
    where
      go : (t : Bool) → ltb q (suc p) ≡ t → Stands m s (cond t (negsuc (suc p - suc q)) (pos (q - suc p)))
      go true e =
          let below : q < suc p = ltb-true _ _ e in
          same_cancel {u = s + suc (suc p - suc q)} {v = 0} q (same_trans (same_as (omega arith)) (same_trans h (same_as (omega arith))))
      go false e =
          let above : suc p ≤ q = ltb-false _ _ e in
          same_cancel {u = s} {v = q - suc p} (suc p) (same_trans h (same_as (omega arith)))

  stands_on : (down : Bool) (n x : ℕ) (z : ℤ) → 0 < m → Stands m n z → Stands m (shifted down m n x) (z +ℤ step down x)
  stands_on false n x (pos a) p s = same_trans (shifted_up n x) (same_add x s)
  stands_on false n x (negsuc a) p s =
      stands_less (shifted false m n x) a x
      (same_trans (same_add (suc a) (shifted_up n x))
      (same_trans (same_as {u = n + x + suc a} {v = n + suc a + x} (omega arith)) (same_trans (same_add x s) (same_as (omega arith)))))
  stands_on true n zero (pos a) p s = same_trans (same_as (omega arith)) (same_trans (shifted_down n 0 p) (same_trans s (same_as (omega arith))))
  stands_on true n (suc y) (pos a) p s = stands_less (shifted true m n (suc y)) y a (same_trans (shifted_down n (suc y) p) s)
  stands_on true n zero (negsuc a) p s =
      stands_less (shifted true m n 0) a 0 (same_trans (same_add (suc a) (same_trans (same_as (omega arith)) (shifted_down n 0 p))) s)
  stands_on true n (suc y) (negsuc a) p s =
      let t = shifted true m n (suc y) in
      same_trans (same_as {u = t + suc (suc (a + y))} {v = t + suc y + suc a} (omega arith)) (same_trans (same_add (suc a) (shifted_down n (suc y) p)) s)

  -- TWO'S COMPLEMENT ADDS: a number more or less is the two's complement of the sum.
  pub residue_on : (down : Bool) (x : ℕ) (z : ℤ) → 0 < m → shifted down m (residue m z) x ≡ residue m (z +ℤ step down x)
  residue_on down x z p =
      stands_only _ _ (z +ℤ step down x) (shifted_below down (residue m z) x p) (residue_below (z +ℤ step down x) p)
      (stands_on down (residue m z) x z p (residue_stands z p)) (residue_stands (z +ℤ step down x) p)

  stands_join : (n k : ℕ) (x y : ℤ) → 0 < m → Stands m n x → Stands m k y → Stands m (shifted false m n k) (x +ℤ y)
  stands_join n k (pos a) (pos b) p s t =
      same_trans (shifted_up n k) (same_trans (same_add k s) (same_trans (same_as {u = a + k} {v = k + a} (omega arith)) (same_trans (same_add a t) (same_as
      (omega arith)))))
  stands_join n k (pos a) (negsuc b) p s t =
      stands_less (shifted false m n k) b a
      (same_trans (same_add (suc b) (shifted_up n k)) (same_trans (same_as {u = n + k + suc b} {v = k + suc b + n} (omega arith))
      (same_trans (same_add n t) (same_trans (same_as (omega arith)) s))))
  stands_join n k (negsuc a) (pos b) p s t =
      stands_less (shifted false m n k) a b
      (same_trans (same_add (suc a) (shifted_up n k)) (same_trans (same_as {u = n + k + suc a} {v = n + suc a + k} (omega arith))
      (same_trans (same_add k s) (same_trans (same_as (omega arith)) t))))
  stands_join n k (negsuc a) (negsuc b) p s t =
      let r = shifted false m n k in
      same_trans (same_as {u = r + suc (suc (a + b))} {v = r + (suc a + suc b)} (omega arith))
      (same_trans (same_add (suc a + suc b) (shifted_up n k)) (same_trans (same_as {u = n + k + (suc a + suc b)} {v = n + suc a + (k + suc b)} (omega arith))
      (same_trans (same_add (k + suc b) s) (same_trans (same_as (omega arith)) t))))

  -- TWO TOTALS JOINED are the two's complement of the sum of both.
  pub residue_join : (x y : ℤ) → 0 < m → shifted false m (residue m x) (residue m y) ≡ residue m (x +ℤ y)
  residue_join x y p =
      stands_only _ _ (x +ℤ y) (shifted_below false (residue m x) (residue m y) p) (residue_below (x +ℤ y) p)
      (stands_join (residue m x) (residue m y) x y p (residue_stands x p) (residue_stands y p)) (residue_stands (x +ℤ y) p)

  -- Where it is no more than half of m either way, it is that number that is read back.
  pub signed_up : (a : ℕ) → a + a < m → signed m (residue m (pos a)) ≡ pos a
  unfolding signed residue
  signed_up a h =
      let small : a % m ≡ a = mod-eq_of_lt (omega arith) in
      rw (small, lt-ltb (a + a) m h) refl

  pub signed_down : (a : ℕ) → a + a + 2 ≤ m → signed m (residue m (negsuc a)) ≡ negsuc a
  unfolding signed residue
  signed_down a h =
      let small : a % m ≡ a = mod-eq_of_lt (omega arith) in
      let back : m - 1 - (m - 1 - a) ≡ a = omega arith in
      rw (small, le-ltb (m - 1 - a + (m - 1 - a)) m (omega arith), back) refl

  -- What a number stands for has it as its two's complement ..
  pub residue-signed : (n : ℕ) → n < m → residue m (signed m n) ≡ n
  unfolding signed residue
  residue-signed n h = go (ltb (n + n) m)
    where
      go : (t : Bool) → residue m (cond t (pos n) (negsuc (m - 1 - n))) ≡ n
      go true = mod-eq_of_lt h
      go false =
          let small : (m - 1 - n) % m ≡ m - 1 - n = mod-eq_of_lt (omega arith) in
          rw small (omega arith)

  -- .. so that a sum may be cut down at every step.
  pub residue_cut : (x y : ℤ) → 0 < m → residue m (signed m (residue m x) +ℤ y) ≡ residue m (x +ℤ y)
  residue_cut x y p =
      sym (residue_join (signed m (residue m x)) y p)
      ∙ ap (λ (n : ℕ). shifted false m n (residue m y)) (residue-signed (residue m x) (residue_below x p)) ∙ residue_join x y p
