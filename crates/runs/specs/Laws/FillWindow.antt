-- A step depends on no row older than the last D of the rows that it is given: a fill reads the closes of fewer, and the
-- decision is over the last D by its definition.
use Rattle.std.specs.Prelude.{ℕ, ◌-◌, ◌<◌, ◌≡◌, refl, List, Float}
use Rattle.words.specs.Prelude.{arith}
use Rattle.rows.specs.{History.history_of, History.last_rows}
use Rattle.rules.specs.{Window.Without, Window.without_first}
use Rattle.portfolio.specs.{declared.Candle.Candle, declared.Portfolio.Portfolio}
use Rattle.execution.specs.{declared.level.Side.Side, declared.terms.Sizing.Sizing, declared.terms.Sizing.TheVariants.FixedFraction}
use Rattle.execution.specs.{declared.terms.Sizing.TheVariants.FixedQty, declared.terms.Sizing.TheVariants.FixedCash}
use Rattle.execution.specs.{declared.terms.Sizing.TheVariants.VolTarget, declared.terms.Sizing.TheVariants.RiskPerTrade}
use Rattle.execution.specs.{declared.terms.Sizing.TheVariants.Unknown, declared.terms.Terms.Terms, Fills.volatility_for, Fills.execute_entry}
use Rattle.execution.specs.{Volatility.realized_vol, VolatilityWindow.same_volatility}
use Rattle.records.specs.{declared.state.Order.Order, declared.state.Position.Position, declared.settings.Settings.Settings}
use Rattle.refusals.specs.{Settings.lookback}
use Rattle.engine.specs.{declared.account.Due.Due, declared.account.Due.TheVariants.Waits, declared.account.Due.TheVariants.Enters}
use Rattle.engine.specs.{declared.account.Due.TheVariants.Leaves, Account.entry_filled, Account.due_of, Account.done_of, Account.filled}

module _ (K D : ℕ) (rows : List ℕ) where
  older : Without (history_of K rows) (history_of K (last_rows K D rows)) ((history_of K rows).rows - D)
  unfolding last_rows history_of
  older = without_first K ((history_of K rows).rows - D) rows (omega arith)

  volatility_over_last : (n : ℕ) → n < D → realized_vol (history_of K (last_rows K D rows)) n ≡ realized_vol (history_of K rows) n
  volatility_over_last n h =
      same_volatility (history_of K rows) (history_of K (last_rows K D rows)) ((history_of K rows).rows - D) older.count older.same n
      (λ l. omega (arith, older.count))

  sizing_over_last : (z : Sizing) → lookback z < D → volatility_for z (history_of K (last_rows K D rows)) ≡ volatility_for z (history_of K rows)
  unfolding volatility_for
  sizing_over_last (VolTarget x n) h = volatility_over_last n h
  sizing_over_last (FixedFraction x) h = refl
  sizing_over_last (FixedQty x) h = refl
  sizing_over_last (FixedCash x) h = refl
  sizing_over_last (RiskPerTrade x) h = refl
  sizing_over_last Unknown h = refl

  entry_over_last : (side : Side) (raw bps : Float) (terms : Terms) (k : Candle) (p : Portfolio) → lookback terms.sizing < D
      → execute_entry side raw bps terms k p (history_of K (last_rows K D rows)) ≡ execute_entry side raw bps terms k p (history_of K rows)
  unfolding execute_entry
  entry_over_last side raw bps terms k p h = rw (sizing_over_last terms.sizing h)

  done_over_last : (due : Due) (s : Settings) (p : Position) (k : Candle) (number : ℕ) → lookback s.terms.sizing < D
      → done_of due s p k (history_of K (last_rows K D rows)) number ≡ done_of due s p k (history_of K rows) number
  unfolding done_of entry_filled
  done_over_last (Waits o) s p k number h = refl
  done_over_last (Enters side kind price) s p k number h = rw (entry_over_last side price _ s.terms k p.portfolio h)
  done_over_last Leaves s p k number h = refl

  -- a fill over the last D rows is the fill over all
  pub fill_over_last : (s : Settings) (o : Order) (p : Position) (k : Candle) (number : ℕ) → lookback s.terms.sizing < D
      → filled s o p k (history_of K (last_rows K D rows)) number ≡ filled s o p k (history_of K rows) number
  unfolding filled
  fill_over_last s o p k number h = done_over_last (due_of o k) s p k number h
