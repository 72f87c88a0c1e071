-- An entry that the bar does not reach works on unchanged, and nothing is decided while an order works.
use Rattle.std.specs.Prelude.{ℕ, ◌≡◌, List, None}
use Rattle.rows.specs.{History.History}
use Rattle.portfolio.specs.{declared.Candle.Candle}
use Rattle.execution.specs.{declared.level.Side.TheVariants.Long, declared.level.Side.TheVariants.Short}
use Rattle.execution.specs.{declared.level.OrderKind.OrderKind, Level.level_fill}
use Rattle.records.specs.{declared.state.Order.TheVariants.EnterLong, declared.state.Order.TheVariants.EnterShort, declared.state.Position.Position}
use Rattle.records.specs.{declared.settings.Settings.Settings, declared.state.State.State, Bar.candle_of, Lent.Lists, Lent.Rooms}
use Rattle.engine.specs.{Account.waiting, Account.due_if_reached, Account.due_of, Account.done_of, Account.filled, Decide.order_after, Decide.decided, Step.stepped}

module _ (s : Settings) (p : Position) (k : Candle) (before : History) (number : ℕ) (kind : OrderKind) where
  -- not reached: the fill leaves the order and the position as they were, and closes no trade
  pub long_not_reached : level_fill Long kind k ≡ None → filled s (EnterLong 0 kind) p k before number ≡ waiting (EnterLong 0 kind) p
  unfolding filled due_of done_of due_if_reached
  long_not_reached h = simp (h)

  pub short_not_reached : level_fill Short kind k ≡ None → filled s (EnterShort 0 kind) p k before number ≡ waiting (EnterShort 0 kind) p
  unfolding filled due_of done_of due_if_reached
  short_not_reached h = simp (h)

module _ (s : Settings) (t : State) (bar : List ℕ) (m : Rooms) (ls : Lists) (kind : OrderKind) where
  -- and after the bar the same order works: with its kind, level and limit, whatever the settings are by then
  pub long_works_on : t.order ≡ EnterLong 0 kind → level_fill Long kind (candle_of bar) ≡ None
      → (stepped s t bar m ls).result.order ≡ EnterLong 0 kind
  unfolding stepped decided order_after
  long_works_on o h = rw (o, long_not_reached s t.position (candle_of bar) _ t.counts.bars_seen kind h)

  pub short_works_on : t.order ≡ EnterShort 0 kind → level_fill Short kind (candle_of bar) ≡ None
      → (stepped s t bar m ls).result.order ≡ EnterShort 0 kind
  unfolding stepped decided order_after
  short_works_on o h = rw (o, short_not_reached s t.position (candle_of bar) _ t.counts.bars_seen kind h)
