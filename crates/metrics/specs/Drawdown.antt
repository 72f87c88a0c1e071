-- `max_drawdown_pct` of metrics.rs. Definitions only.
use Rattle.std.specs.Prelude.{List, [], ◌∷◌, cond, Float}
use Rattle.floats.specs.{Floats.◌⊖◌, Floats.◌⊗◌, Floats.◌⊘◌, Floats.◌≺◌, Floats.float_of, Floats.zero, Floats.hundred}

-- `if e > peak { peak = e; }`
unfoldable pub peak_at : Float → Float → Float
peak_at peak e = cond (peak ≺ e) e peak

-- `(peak - e) / peak * 100.0`
unfoldable pub fall_pct : Float → Float → Float
fall_pct peak e = (peak ⊖ e) ⊘ peak ⊗ hundred

-- The deepest fall once e is seen; only a peak above 0 counts.
unfoldable pub deepest_at : Float → Float → Float → Float
deepest_at peak deepest e = cond (zero ≺ peak) (cond (deepest ≺ fall_pct peak e) (fall_pct peak e) deepest) deepest

unfoldable pub drawdown_from : Float → Float → List Float → Float
drawdown_from peak deepest [] = deepest
drawdown_from peak deepest (e ∷ later) = drawdown_from (peak_at peak e) (deepest_at (peak_at peak e) deepest e) later

-- `f64::NEG_INFINITY`
abbrev pub minus_infinity : Float
minus_infinity = float_of 0xfff0_0000_0000_0000

-- The peak starts below every point, not at the capital.
unfoldable pub max_drawdown_pct : List Float → Float
max_drawdown_pct equity = drawdown_from minus_infinity zero equity
