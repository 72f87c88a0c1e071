-- One pass over the returns, as `realized_vol` goes: how many there are, and a sum over them. Definitions only.
use Rattle.std.specs.Prelude.{List, map, ℕ, ◌+◌, length, Float}
use Rattle.floats.specs.{Sums.sum_from}
use Rattle.execution.specs.{Volatility.square_from, declared.volatility.Tally.Tally, declared.volatility.Term.Term}
use Rattle.execution.specs.{declared.volatility.Term.TheVariants.Itself, declared.volatility.Term.TheVariants.Squared}

-- what a pass adds of a return
unfoldable pub term_of : Term → Float → Float
term_of Itself r = r
term_of (Squared mean) r = square_from mean r

-- a pass that has counted and summed so far, over the returns to come
unfoldable pub tally_from : Term → ℕ → Float → List Float → Tally
tally_from k count total rs = record { count = count + length rs; total = sum_from total (map (term_of k) rs) }
