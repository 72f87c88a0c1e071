-- Edges of the definitions, worked out.
use Rattle.std.specs.Prelude.{◌≡◌, refl, [], ◌∷◌, ℕ, ℤ, pos, negsuc, Float}
use Rattle.words.specs.Prelude.{binary64}
use Rattle.words.specs.{Outcome.refuses}
use Rattle.floats.specs.{Sums.sum_from}
use Rattle.metrics.specs.{Records.whole, Quotients.infinity, Quotients.gain_over, Returns.bar_return, Returns.returns_from, Returns.bar_returns}
use Rattle.metrics.specs.{Drawdown.peak_at, Drawdown.fall_pct, Drawdown.deepest_at, Drawdown.drawdown_from, Drawdown.max_drawdown_pct, Trades.sizes_on}
use Rattle.metrics.specs.{Trades.win_rate, Trades.gross, Trades.profit_factor, Figures.not_whole, Figures.computed}
use Rattle.std.specs.Float.Ieee as Ieee
use Rattle.floats.specs.Floats as Floats

abbrev num : ℤ → Float
num n = Ieee.of_int binary64 n

-- Points 100 and 50 are a fall of half, whatever the capital was.
pub from_the_points : max_drawdown_pct (num (pos 100) ∷ num (pos 50) ∷ []) ≡ num (pos 50)
unfolding max_drawdown_pct drawdown_from peak_at deepest_at fall_pct Ieee.of_int Ieee.of_bits Ieee.lt Ieee.sub Ieee.div Ieee.mul
from_the_points = refl

-- Points that never rise above 0 have no peak to fall from.
pub no_peak : max_drawdown_pct (num (negsuc 0) ∷ num (negsuc 1) ∷ []) ≡ Floats.zero
unfolding max_drawdown_pct drawdown_from peak_at deepest_at fall_pct Ieee.of_int Ieee.of_bits Ieee.lt Ieee.sub Ieee.div Ieee.mul
no_peak = refl

-- A return from nothing is 0, so points 100, 0, 50 return -1 and 0.
pub from_nothing : bar_returns (num (pos 100) ∷ num (pos 0) ∷ num (pos 50) ∷ []) ≡ num (negsuc 0) ∷ num (pos 0) ∷ []
unfolding bar_returns returns_from bar_return Floats.abs Ieee.of_int Ieee.of_bits Ieee.lt Ieee.sub Ieee.div
from_nothing = refl

-- One loss and no win: the sum of no win is +0.0, and so is its quotient.
pub losses_only : profit_factor (num (negsuc 0) ∷ []) ≡ Floats.zero
unfolding profit_factor gain_over gross sizes_on sum_from Floats.abs Ieee.of_int Ieee.of_bits Ieee.lt Ieee.neg Ieee.add Ieee.div
losses_only = refl

-- One win and no loss: infinite. No trade at all: 0.
pub wins_only : profit_factor (num (pos 1) ∷ []) ≡ infinity
unfolding profit_factor gain_over gross sizes_on sum_from Floats.abs Ieee.of_int Ieee.of_bits Ieee.lt Ieee.neg Ieee.add Ieee.div
wins_only = refl

pub no_trade : (profit_factor [] ≡ Floats.zero) × (win_rate [] ≡ Floats.zero)
unfolding profit_factor gain_over gross sizes_on sum_from win_rate Floats.abs Ieee.of_bits Ieee.lt Ieee.add Ieee.div
no_trade = (refl, refl)

-- A point and a half, and seven words of a trade: refused.
pub not_whole_lem : (initial : Float) (t e : ℕ)
    → (computed initial (t ∷ e ∷ t ∷ []) [] ≡ refuses not_whole)
    × (computed initial [] (t ∷ e ∷ t ∷ e ∷ t ∷ e ∷ t ∷ []) ≡ refuses not_whole)
unfolding computed whole
not_whole_lem initial t e = (refl, refl)
