-- Win rate and profit factor of metrics.rs, over the trades' pnl. Definitions only.
use Rattle.std.specs.Prelude.{List, [], ◌∷◌, Bool, cond, eqb, length, Float}
use Rattle.floats.specs.{Floats.◌⊗◌, Floats.◌⊘◌, Floats.◌≺◌, Floats.zero, Floats.hundred, Sums.sum, Sums.counted}
use Rattle.metrics.specs.{declared.trades.WinOrLoss.WinOrLoss, declared.trades.WinOrLoss.TheVariants.Wins, declared.trades.WinOrLoss.TheVariants.Losses}
use Rattle.metrics.specs.{Quotients.gain_over}
use Rattle.std.specs.Float.Ieee as Ieee

-- `filter(|t| t.pnl > 0.0)`, and `filter(|t| t.pnl < 0.0)`
abbrev pub is_on : WinOrLoss → Float → Bool
is_on Wins pnl = zero ≺ pnl
is_on Losses pnl = pnl ≺ zero

-- `map(|t| t.pnl)`, and `map(|t| -t.pnl)`
abbrev pub size_of : WinOrLoss → Float → Float
size_of Wins pnl = pnl
size_of Losses pnl = Ieee.neg pnl

-- the trades of a side, each with its size
unfoldable pub sizes_on : WinOrLoss → List Float → List Float
sizes_on side [] = []
sizes_on side (pnl ∷ later) = cond (is_on side pnl) (size_of side pnl ∷ sizes_on side later) (sizes_on side later)

-- `win_rate`
unfoldable pub win_rate : List Float → Float
win_rate pnls = cond (eqb (length pnls) 0) zero (counted (length (sizes_on Wins pnls)) ⊘ counted (length pnls) ⊗ hundred)

-- `gross_profit` and `gross_loss`
unfoldable pub gross : WinOrLoss → List Float → Float
gross side pnls = sum (sizes_on side pnls)

-- `profit_factor`
unfoldable pub profit_factor : List Float → Float
profit_factor pnls = gain_over (gross Wins pnls) (gross Losses pnls)
