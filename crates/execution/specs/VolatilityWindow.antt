-- The window is long enough for `realized_vol`: kept rows that are the last ones of a run give the volatility of the run.
-- Assumes nothing.
use Rattle.std.specs.Prelude.{◌≡◌, refl, ℕ, zero, suc, ◌+◌, ◌-◌, ◌≤◌, ◌<◌}
use Rattle.words.specs.Prelude.{add-zero, lt_of_not-le, dec_le, arith, lt-ltb, le-ltb}
use Rattle.rows.specs.{History.History, History.field}
use Rattle.execution.specs.{Volatility.close_at, Volatility.closes, Volatility.realized_vol}

-- rows that close alike, one for one
pub closes_alike : (g h : History) (i k n : ℕ) → ((j : ℕ) → j < n → close_at g (i + j) ≡ close_at h (k + j)) → closes g i n ≡ closes h k n
unfolding closes
closes_alike g h i k zero e = refl
closes_alike g h i k (suc n) e =
    let first : close_at g i ≡ close_at h k = simp add-zero at (e 0 (omega arith)) in
    let later : closes g (suc i) n ≡ closes h (suc k) n = closes_alike g h (suc i) (suc k) n (λ j l. next j l) in
    rw (first, later)
  where
    next : (j : ℕ) → j < n → close_at g (suc i + j) ≡ close_at h (suc k + j)
    next j l =
        let p : i + suc j ≡ suc i + j = omega arith in
        let q : k + suc j ≡ suc k + j = omega arith in
        rw (p, q) at (e (suc j) (omega arith))

-- w is what is left of h without its first s rows. Where that is not all of h, it has at least the lookback's rows.
module _ (h w : History) (s : ℕ) (count : h.rows ≡ s + w.rows) (same : (i : ℕ) → h.word (s + i) ≡ w.word i)
    (lookback : ℕ) (enough : 0 < s → lookback ≤ w.rows) where
  one_row : lookback ≤ w.rows → (j : ℕ) → j < lookback → close_at w (w.rows - lookback + j) ≡ close_at h (h.rows - lookback + j)
  unfolding field
  one_row fits j l =
      let at : h.rows - lookback + j ≡ s + (w.rows - lookback + j) = omega arith in
      rw (at, same (w.rows - lookback + j))

  all_left : (lookback ≤ w.rows → ⊥) → s ≤ 0
  all_left short = go (dec_le s 0)
    where
      go : Dec (s ≤ 0) → s ≤ 0
      go (yes e) = e
      go (no f) = absurd (short (enough (lt_of_not-le f)))

  pub same_volatility : realized_vol w lookback ≡ realized_vol h lookback
  unfolding realized_vol
  same_volatility = go (dec_le lookback w.rows)
    where
      go : Dec (lookback ≤ w.rows) → realized_vol w lookback ≡ realized_vol h lookback
      go (yes fits) =
          let there : lookback ≤ h.rows = omega arith in
          simp (le-ltb _ _ fits, le-ltb _ _ there, closes_alike w h (w.rows - lookback) (h.rows - lookback) lookback (one_row fits))
      go (no short) =
          let here : w.rows < lookback = lt_of_not-le short in
          let there : h.rows < lookback = omega (arith, all_left short) in
          simp (lt-ltb _ _ here, lt-ltb _ _ there)
