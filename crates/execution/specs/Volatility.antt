-- `realized_vol`: the standard deviation of the close-to-close returns of the last rows. Definitions only, each under what
-- the Rust writes.
use Rattle.std.specs.Prelude.{cond, List, [], ◌∷◌, map, ℕ, zero, suc, ◌-◌, ltb, eqb, length, Float, None, Option, Some}
use Rattle.floats.specs.{Floats.◌⊖◌, Floats.◌⊘◌, Floats.◌≺◌, Floats.abs, Floats.eps, Sums.sum, Sums.counted, Sums.square, Sqrt.sqrt}
use Rattle.rows.specs.{History.History, History.field}
use Rattle.floats.specs.Floats as Floats

-- `row.candle.close`
abbrev pub close_at : History → ℕ → Float
close_at h i = field h i 4

-- `history[..].iter().map(|row| row.candle.close)`: of n rows, the first of them row i
unfoldable pub closes : History → ℕ → ℕ → List Float
closes h i zero = []
closes h i (suc n) = close_at h i ∷ closes h (suc i) n

-- `.filter(|w| w[0].abs() > f64::EPSILON).map(|w| (w[1] - w[0]) / w[0])` of one pair
unfoldable pub simple_return : Float → Float → Option Float
simple_return before now = cond (eps ≺ abs before) (Some ((now ⊖ before) ⊘ before)) None

unfoldable pub kept : Option Float → List Float → List Float
kept None later = later
kept (Some r) later = r ∷ later

-- `closes.windows(2)`, filtered and mapped: `rets`
unfoldable pub returns : List Float → List Float
returns [] = []
returns (c ∷ []) = []
returns (c ∷ d ∷ cs) = kept (simple_return c d) (returns (d ∷ cs))

-- `let mean = rets.iter().sum::<f64>() / rets.len() as f64;`
unfoldable pub mean_of : List Float → Float
mean_of rets = sum rets ⊘ counted (length rets)

-- `(r - mean).powi(2)`
unfoldable pub square_from : Float → Float → Float
square_from mean r = square (r ⊖ mean)

-- `let var = rets.iter().map(|r| (r - mean).powi(2)).sum::<f64>() / rets.len() as f64;  let sd = var.sqrt();`
unfoldable pub deviation : List Float → Float
deviation rets = sqrt (sum (map (square_from (mean_of rets)) rets) ⊘ counted (length rets))

-- `(sd > 0.0).then_some(sd)`
unfoldable pub if_positive : Float → Option Float
if_positive sd = cond (Floats.zero ≺ sd) (Some sd) None

-- `if rets.is_empty() { return None; }`
unfoldable pub spread : List Float → Option Float
spread rets = cond (eqb (length rets) 0) None (if_positive (deviation rets))

-- `realized_vol`: `if lookback < 2 || history.len() < lookback { return None; }`, then the last `lookback` rows.
-- "Realized volatility reads the rows before this bar": those of h.
unfoldable pub realized_vol : History → ℕ → Option Float
realized_vol h lookback =
    cond (ltb lookback 2) None
    (cond (ltb h.rows lookback) None
    (spread (returns (closes h (h.rows - lookback) lookback))))
