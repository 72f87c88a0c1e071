-- `bar_returns`, `sharpe_ratio` and `sortino_ratio` of metrics.rs. Definitions only.
use Rattle.std.specs.Prelude.{List, [], ◌∷◌, map, cond, ltb, length, Float}
use Rattle.floats.specs.{Floats.◌⊖◌, Floats.◌⊘◌, Floats.◌≺◌, Floats.abs, Floats.min, Floats.eps, Floats.zero, Floats.one, Sums.sum, Sums.counted, Sums.square}
use Rattle.floats.specs.{Sqrt.sqrt}
use Rattle.metrics.specs.{Quotients.mean_over}

-- `bar_returns`: of each two neighbours, 0 where the first is next to nothing
unfoldable pub bar_return : Float → Float → Float
bar_return before now = cond (abs before ≺ eps) zero (now ⊘ before ⊖ one)

unfoldable pub returns_from : Float → List Float → List Float
returns_from before [] = []
returns_from before (now ∷ later) = bar_return before now ∷ returns_from now later

unfoldable pub bar_returns : List Float → List Float
bar_returns [] = []
bar_returns (first ∷ later) = returns_from first later

-- ---- what is summed of a return: itself, `(r - mean).powi(2)`, or `r.min(0.0).powi(2)`

abbrev pub itself : Float → Float
itself r = r

abbrev pub away : Float → Float → Float
away mean r = square (r ⊖ mean)

abbrev pub below_zero : Float → Float
below_zero r = square (min r zero)

-- That sum over n: `mean`, `var` and `downside`.
unfoldable pub mean_of : (Float → Float) → List Float → Float
mean_of part returns = sum (map part returns) ⊘ counted (length returns)

-- `sharpe_ratio`
unfoldable pub sharpe_ratio : List Float → Float
sharpe_ratio equity =
    cond (ltb (length equity) 2) zero
    (let returns = bar_returns equity in
    let mean = mean_of itself returns in
    mean_over mean (sqrt (mean_of (away mean) returns)))

-- `sortino_ratio`
unfoldable pub sortino_ratio : List Float → Float
sortino_ratio equity =
    cond (ltb (length equity) 2) zero
    (let returns = bar_returns equity in
    mean_over (mean_of itself returns) (sqrt (mean_of below_zero returns)))
