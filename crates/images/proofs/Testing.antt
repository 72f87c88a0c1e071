-- Tests on what a call gave, said of what it means.
use Rattle.words.specs.Prelude.{ℕ, ◌-◌, ◌≡◌, sym, ◌∙◌, Bool, true, false, List, eq-eqb, ne_eqb, eqb, length}
use Rattle.images.specs.{Reading.slots_in, Reading.rows_in, Reading.row_place, Refused.zero_at, Refused.each_fine, Refused.rows_fine}

module _ {r v n : ℕ} (e : r ≡ v) where
  pub equal : r ≡ n → eqb v n ≡ true
  equal h = eq-eqb v n (sym e ∙ h)

  pub other : (r ≡ n → ⊥) → eqb v n ≡ false
  other h = ne_eqb v n (λ f. h (e ∙ f))

-- ---- rows

pub each_as : (x : List ℕ) {r : Bool} {a b n m : ℕ} → r ≡ each_fine x a n → a ≡ b → n ≡ m → r ≡ each_fine x b m
each_as x e f g = rw (← f, ← g) e

module _ (x : List ℕ) {r : Bool} {end : ℕ} (each : r ≡ each_fine x (slots_in x) (rows_in x)) (place : end ≡ row_place (slots_in x) (rows_in x)) where
  -- what is behind them decides
  pub rows_rest : {b : Bool} → r ≡ true → b ≡ zero_at x end (length x - end) → b ≡ rows_fine x
  unfolding rows_fine
  rows_rest held e = rw (← each, held, ← place) e

pub rows_bad : (x : List ℕ) {r : Bool} → r ≡ each_fine x (slots_in x) (rows_in x) → r ≡ false → false ≡ rows_fine x
unfolding rows_fine
rows_bad x each bad = rw (← each, bad)
