-- Quotients as metrics.rs forms them. Definitions only.
use Rattle.std.specs.Prelude.{cond, Float}
use Rattle.floats.specs.{Floats.◌⊘◌, Floats.◌≺◌, Floats.float_of, Floats.abs, Floats.eps, Floats.zero}

-- `f64::INFINITY`
abbrev pub infinity : Float
infinity = float_of 0x7ff0_0000_0000_0000

-- The last lines of `sharpe_ratio` and `sortino_ratio`: a mean over a deviation, and 0 where there is none.
unfoldable pub mean_over : Float → Float → Float
mean_over mean deviation = cond (abs deviation ≺ eps) zero (mean ⊘ deviation)

-- `calmar` and `profit_factor`: a gain over a loss; where there is none, a gain is infinite and anything else is 0.
unfoldable pub gain_over : Float → Float → Float
gain_over gain loss = cond (abs loss ≺ eps) (cond (zero ≺ gain) infinity zero) (gain ⊘ loss)
