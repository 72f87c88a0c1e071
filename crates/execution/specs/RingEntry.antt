-- Rows that are read from a row on give the volatility, and the entry, of the rows turned so that it stands first.
use Rattle.std.specs.Prelude.{◌≡◌, refl, List, ℕ, ◌+◌, ◌-◌, ◌≤◌, ◌<◌, Float}
use Rattle.words.specs.Prelude.{ap, ⊎_elim, arith, lt-ltb, le-ltb}
use Rattle.words.specs.{Laws.Numbers.less_or_not}
use Rattle.floats.specs.{Floats.float_of}
use Rattle.rows.specs.{History.History, History.history_of, History.field, History.width, Ring.ring_of, Ring.turned, Laws.Ring.SameRows, Laws.Ring.ring_turned}
use Rattle.portfolio.specs.{declared.Candle.Candle, declared.Portfolio.Portfolio}
use Rattle.execution.specs.{declared.level.Side.Side, declared.terms.Sizing.Sizing, declared.terms.Sizing.TheVariants.FixedFraction}
use Rattle.execution.specs.{declared.terms.Sizing.TheVariants.FixedQty, declared.terms.Sizing.TheVariants.FixedCash}
use Rattle.execution.specs.{declared.terms.Sizing.TheVariants.VolTarget, declared.terms.Sizing.TheVariants.RiskPerTrade}
use Rattle.execution.specs.{declared.terms.Sizing.TheVariants.Unknown, declared.terms.Terms.Terms, Volatility.close_at, Volatility.realized_vol}
use Rattle.execution.specs.{VolatilityWindow.closes_alike, Fills.volatility_for, Fills.execute_entry}

-- histories whose rows are alike
module _ (K : ℕ) (g h : History) (alike : SameRows K g h) where
  close_alike : (lookback : ℕ) → lookback ≤ g.rows → (j : ℕ) → j < lookback → close_at g (g.rows - lookback + j) ≡ close_at h (h.rows - lookback + j)
  unfolding field
  close_alike lookback fits j l =
      let i = g.rows - lookback + j in
      rw (← alike.count) (ap float_of (alike.words i 4 (omega arith) (omega arith)))

  volatility_alike : (lookback : ℕ) → realized_vol g lookback ≡ realized_vol h lookback
  unfolding realized_vol
  volatility_alike lookback =
      let same = alike.count in
      ⊎_elim (λ (short : g.rows < lookback). let also : h.rows < lookback = omega arith in simp (lt-ltb _ _ short, lt-ltb _ _ also))
      (λ (fits : lookback ≤ g.rows).
      let also : lookback ≤ h.rows = omega arith in
      simp (le-ltb _ _ fits, le-ltb _ _ also, closes_alike g h (g.rows - lookback) (h.rows - lookback) lookback (close_alike lookback fits)))
      (less_or_not g.rows lookback)

  sized_alike : (sizing : Sizing) → volatility_for sizing g ≡ volatility_for sizing h
  unfolding volatility_for
  sized_alike (VolTarget target lookback) = volatility_alike lookback
  sized_alike (FixedFraction fraction) = refl
  sized_alike (FixedQty qty) = refl
  sized_alike (FixedCash cash) = refl
  sized_alike (RiskPerTrade pct) = refl
  sized_alike Unknown = refl

-- THE RING of an entry: over rows from row `start` on it is what it is over the turned rows.
pub entry_turned : (K start : ℕ) (ws : List ℕ) (side : Side) (raw bps : Float) (terms : Terms) (k : Candle) (p : Portfolio)
    → execute_entry side raw bps terms k p (ring_of K start ws) ≡ execute_entry side raw bps terms k p (history_of K (turned (width K) start ws))
unfolding execute_entry
entry_turned K start ws side raw bps terms k p =
    rw (sized_alike K (ring_of K start ws) (history_of K (turned (width K) start ws)) (ring_turned K start ws) terms.sizing)
