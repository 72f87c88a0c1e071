-- What holds of an order before a bar, and of every order that the bar can make of it, holds after the bar. Assumes nothing.
use Rattle.std.specs.Prelude.{ℕ, ◌-◌, Bool, true, false, cond, ltb, Float, None, Option, Some}
use Rattle.rows.specs.{History.History}
use Rattle.portfolio.specs.{declared.Candle.Candle, declared.Portfolio.Portfolio, Portfolio.in_position, Portfolio.is_long}
use Rattle.execution.specs.{declared.level.OrderKind.OrderKind, declared.level.Side.Side, declared.level.Side.TheVariants.Long}
use Rattle.execution.specs.{declared.level.Side.TheVariants.Short}
use Rattle.execution.specs.{Level.entry_trigger, Level.level_fill}
use Rattle.records.specs.{declared.settings.Settings.Settings, declared.state.Order.Order, declared.state.Order.TheVariants.Idle}
use Rattle.records.specs.{declared.state.Order.TheVariants.EnterLong, declared.state.Order.TheVariants.EnterShort}
use Rattle.records.specs.{declared.state.Order.TheVariants.Exit as ExitOrder, declared.state.Position.Position}
use Rattle.engine.specs.{declared.account.Due.Due, declared.account.Due.TheVariants.Waits, declared.account.Due.TheVariants.Leaves, Account.due_if_reached}
use Rattle.engine.specs.{Account.due_of, Account.done_of, Account.filled, Account.entry_filled, Account.exit_filled, Decide.Answers, Decide.ordered}
use Rattle.engine.specs.{Decide.opening_order, Decide.closing_order, Decide.order_after}

module _ (P : Order → Type 0) where
  either : (b : Bool) (x y : Order) → P x → P y → P (cond b x y)
  either true x y h i = h
  either false x y h i = i

  -- an order that the rules ask for, or none
  pub ordered_keeps : (delay : ℕ) (kind : OrderKind) (p : Portfolio) (a : Answers)
      → P Idle → P (EnterLong delay kind) → P (EnterShort delay kind) → P (ExitOrder delay) → P (ordered delay kind p a)
  unfolding ordered opening_order closing_order
  ordered_keeps delay kind p a none long short exit =
      either (in_position p) _ _
      (either (is_long p) _ _ (either a.«exit» _ _ exit none) (either a.short_exit _ _ exit none))
      (either a.entry _ _ long (either a.short_entry _ _ short none))

  -- the decision: an order that works stays, and else the rules are asked
  pub decided_keeps : (s : Settings) (o : Order) (p : Position) (number : ℕ) (close : Float) (a : Answers)
      → P (ordered s.delay (entry_trigger s.entries close) p.portfolio a) → P o → P (order_after s o p number close a)
  unfolding order_after
  decided_keeps s (EnterLong n kind) p number close a g h = h
  decided_keeps s (EnterShort n kind) p number close a g h = h
  decided_keeps s (ExitOrder n) p number close a g h = h
  decided_keeps s Idle p number close a g h = either (ltb number s.warmup) Idle _ h g

  -- the fill: a bar less to wait, the same order where its level is not reached, or none
  module _
      (none : P Idle) (long : (n : ℕ) (kind : OrderKind) → P (EnterLong n kind) → P (EnterLong (n - 1) kind))
      (short : (n : ℕ) (kind : OrderKind) → P (EnterShort n kind) → P (EnterShort (n - 1) kind)) (exit : (n : ℕ) → P (ExitOrder n) → P (ExitOrder (n - 1)))
      (s : Settings) (p : Position) (k : Candle) (before : History) (number : ℕ) where
    abbrev Done : Due → Type 0
    Done due = P (done_of due s p k before number).order

    due_either : (b : Bool) (x y : Due) → Done x → Done y → Done (cond b x y)
    due_either true x y h i = h
    due_either false x y h i = i

    reached : (side : Side) (kind : OrderKind) (o : Order) (x : Option Float) → P o → Done (due_if_reached side kind o x)
    unfolding due_if_reached done_of entry_filled
    reached side kind o None h = h
    reached side kind o (Some price) h = none

    pub filled_keeps : (o : Order) → P o → P (filled s o p k before number).order
    unfolding filled due_of done_of exit_filled
    filled_keeps Idle h = h
    filled_keeps (EnterLong n kind) h =
        due_either (ltb 0 n) (Waits (EnterLong (n - 1) kind)) _ (long n kind h) (reached Long kind (EnterLong n kind) (level_fill Long kind k) h)
    filled_keeps (EnterShort n kind) h =
        due_either (ltb 0 n) (Waits (EnterShort (n - 1) kind)) _ (short n kind h) (reached Short kind (EnterShort n kind) (level_fill Short kind k) h)
    filled_keeps (ExitOrder n) h = due_either (ltb 0 n) (Waits (ExitOrder (n - 1))) Leaves (exit n h) none
