-- Ten words and K more: compared without a sum, which could wrap. Assumes nothing.
use Rattle.words.specs.Prelude.{ℕ, ◌+◌, ◌-◌, ◌≤◌, ◌≡◌, refl, sym, Bool, true, false, arith, eq-eqb, ne_eqb, eqb-true, eqb-false, eqb, length}
use Rattle.records.proofs.bar.is_whole.Goals as goal

moved : (n k : ℕ) → 10 ≤ n → eqb (n - 10) k ≡ eqb n (10 + k)
moved n k h = go (eqb (n - 10) k) refl
  where
    go : (b : Bool) → eqb (n - 10) k ≡ b → b ≡ eqb n (10 + k)
    go true e = sym (eq-eqb n (10 + k) (omega (arith, eqb-true (n - 10) k e)))
    go false e = sym (ne_eqb n (10 + k) (λ d. eqb-false (n - 10) k e (omega arith)))

pub returns-then-bar-lt-BAR_FIXED : goal.returns-then-bar-lt-BAR_FIXED
returns-then-bar-lt-BAR_FIXED c =
    let a = c.args in
    sym (ne_eqb (length a.bar.now) (10 + a.slots) (λ (e : length a.bar.now ≡ 10 + a.slots). omega (arith, c.if-bar-lt-BAR_FIXED.true)))

pub returns : goal.returns
returns c = moved _ _ c.if-bar-lt-BAR_FIXED.false
