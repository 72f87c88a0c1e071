-- Returns: one less than points, from the first point on. Assumes nothing.
use Rattle.words.specs.Prelude.{◌≡◌, refl, ap, ◌∙◌, List, [], ◌∷◌, ℕ, suc, ◌-◌, arith, length, get_or, drop, Float}
use Rattle.metrics.specs.{Returns.returns_from, Returns.bar_returns}
use Rattle.floats.specs.Floats as Floats

-- As many returns as points after the first.
length_from : (e : Float) (es : List Float) → length (returns_from e es) ≡ length es
unfolding returns_from
length_from e [] = refl
length_from e (x ∷ es) = ap suc (length_from x es)

-- One less than points, and none of none.
pub length_returns : (es : List Float) → length (bar_returns es) ≡ length es - 1
unfolding bar_returns
length_returns [] = refl
length_returns (e ∷ es) = length_from e es ∙ less (length es)
  where
    less : (x : ℕ) → x ≡ suc x - 1
    less x = omega arith

-- A walk over the points starts with the first as the one before, and the second as the next.
pub returns_first : (es : List Float) → returns_from (get_or es 0 Floats.zero) (drop 1 es) ≡ bar_returns es
unfolding returns_from bar_returns
returns_first [] = refl
returns_first (e ∷ es) = refl
