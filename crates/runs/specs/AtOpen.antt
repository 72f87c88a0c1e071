-- MARKET ORDERS BEHAVE AS BEFORE: a run whose order kind is market is the run of the engine that knew no other orders.
use Rattle.std.specs.Prelude.{ℕ, ◌-◌, ◌≡◌, refl, Bool, true, false, cond, List, [], ◌∷◌, ◌++◌, ltb, Float, None}
use Rattle.rows.specs.{History.History, History.history_of}
use Rattle.portfolio.specs.{declared.Candle.Candle}
use Rattle.execution.specs.{declared.level.Side.Side, declared.level.Side.TheVariants.Long}
use Rattle.execution.specs.{declared.level.Side.TheVariants.Short, declared.level.OrderKind.TheVariants.Market}
use Rattle.execution.specs.{declared.level.OrderType.TheVariants.Market as MarketType, Fills.execute_entry, Fills.is_turned_away, Level.entry_trigger}
use Rattle.execution.specs.{Level.fee_bps, Level.long_fill, Level.short_fill, Level.level_fill}
use Rattle.records.specs.{declared.state.Order.Order, declared.state.Order.TheVariants.Idle, declared.state.Order.TheVariants.EnterLong}
use Rattle.records.specs.{declared.state.Order.TheVariants.EnterShort, declared.state.Order.TheVariants.Exit as ExitOrder, declared.state.Position.Position}
use Rattle.records.specs.{declared.settings.Settings.Settings, Bar.candle_of, State.fresh_state, StateWords.waits_for}
use Rattle.engine.specs.{declared.account.Due.Due, declared.account.Filled.Filled, Account.entering, Account.waiting, Account.entry_filled, Account.exit_filled}
use Rattle.engine.specs.{Account.due_if_reached, Account.due_of, Account.done_of, Account.filled, Decide.Answers}
use Rattle.engine.specs.{Decide.order_after, Record.row_of, Whole.Account, Whole.Asked, Whole.account_of, Whole.taken_by, Whole.taken}
use Rattle.engine.specs.{Whole.whole_run_by, Whole.whole_run}
use Rattle.runs.specs.{Laws.Orders.ordered_keeps, Laws.Orders.decided_keeps}

-- ---- document 01's fill

-- "at the open, with the rate of `slippage_rate`", and the taker fee
unfoldable pub entered_at_open : Side → Settings → Position → Candle → History → ℕ → Filled
entered_at_open side s p k before number =
    let e = execute_entry side k.«open» s.terms.taker_bps s.terms k p.portfolio before in
    record { order = Idle; position = entering p e number; «exit» = None; turned_away = is_turned_away e }

-- "Fill: a delay above 0 counts down by 1; otherwise at the open"
unfoldable pub filled_at_open : Settings → Order → Position → Candle → History → ℕ → Filled
filled_at_open s Idle p k before number = waiting Idle p
filled_at_open s (EnterLong n kind) p k before number = cond (ltb 0 n) (waiting (EnterLong (n - 1) kind) p) (entered_at_open Long s p k before number)
filled_at_open s (EnterShort n kind) p k before number = cond (ltb 0 n) (waiting (EnterShort (n - 1) kind) p) (entered_at_open Short s p k before number)
filled_at_open s (ExitOrder n) p k before number = cond (ltb 0 n) (waiting (ExitOrder (n - 1)) p) (exit_filled s p k)

-- ---- a market order's fill is that one

module _ (s : Settings) (p : Position) (k : Candle) (before : History) (number : ℕ) where
  done_either : (b : Bool) (x y : Due) → done_of (cond b x y) s p k before number ≡ cond b (done_of x s p k before number) (done_of y s p k before number)
  done_either true x y = refl
  done_either false x y = refl

  pub market_fills : (o : Order) → waits_for o ≡ Market → filled s o p k before number ≡ filled_at_open s o p k before number
  unfolding waits_for filled filled_at_open entered_at_open entry_filled due_of done_of due_if_reached level_fill long_fill short_fill fee_bps
  market_fills Idle h = refl
  market_fills (EnterLong n kind) h = rw h (done_either (ltb 0 n) _ _)
  market_fills (EnterShort n kind) h = rw h (done_either (ltb 0 n) _ _)
  market_fills (ExitOrder n) h = done_either (ltb 0 n) _ _

-- ---- and it stays a market order

either_filled : (b : Bool) (x y : Filled) → waits_for x.order ≡ Market → waits_for y.order ≡ Market → waits_for (cond b x y).order ≡ Market
either_filled true x y h k = h
either_filled false x y h k = k

fill_stays : (s : Settings) (o : Order) (p : Position) (k : Candle) (before : History) (number : ℕ) → waits_for o ≡ Market
    → waits_for (filled_at_open s o p k before number).order ≡ Market
unfolding waits_for filled_at_open entered_at_open exit_filled
fill_stays s Idle p k before number h = refl
fill_stays s (EnterLong n kind) p k before number h = either_filled (ltb 0 n) _ _ h refl
fill_stays s (EnterShort n kind) p k before number h = either_filled (ltb 0 n) _ _ h refl
fill_stays s (ExitOrder n) p k before number h = either_filled (ltb 0 n) _ _ refl refl

module _ (s : Settings) (market : s.entries.order_type ≡ MarketType) where
  trigger_market : (close : Float) → entry_trigger s.entries close ≡ Market
  unfolding entry_trigger
  trigger_market close = rw market

  decides_market : (o : Order) (p : Position) (number : ℕ) (close : Float) (a : Answers) → waits_for o ≡ Market
      → waits_for (order_after s o p number close a) ≡ Market
  unfolding waits_for
  decides_market o p number close a =
      decided_keeps (λ x. waits_for x ≡ Market) s o p number close a
      (ordered_keeps (λ x. waits_for x ≡ Market) s.delay _ p.portfolio a refl (trigger_market close) (trigger_market close) refl)

  module _ (asked : Asked) (a : Account) (h : waits_for a.order ≡ Market) (rows bar : List ℕ) where
    bar_at_open : taken s asked a rows bar ≡ taken_by filled_at_open s asked a rows bar
    unfolding taken_by
    bar_at_open = rw (market_fills s a.position (candle_of bar) (history_of s.slots rows) a.seen a.order h)

    bar_stays : waits_for (taken_by filled_at_open s asked a rows bar).account.order ≡ Market
    unfolding taken_by
    bar_stays = decides_market _ _ _ _ _ (fill_stays s a.order a.position (candle_of bar) (history_of s.slots rows) a.seen h)

  -- THE RUN AS BEFORE: over any bars, however its rules are asked, from an account whose order is a market order
  pub market_run : (asked : Asked) (a : Account) (rows : List ℕ) (bars : List (List ℕ)) → waits_for a.order ≡ Market
      → whole_run s asked a rows bars ≡ whole_run_by filled_at_open s asked a rows bars
  unfolding whole_run_by
  market_run asked a rows [] h = refl
  market_run asked a rows (bar ∷ bars) h =
      rw (
        bar_at_open asked a h rows bar,
        market_run asked (taken_by filled_at_open s asked a rows bar).account (rows ++ row_of s.slots bar) bars (bar_stays asked a h rows bar),
      )

  -- as every run does that starts from a fresh state
  pub market_from_fresh : (asked : Asked) (bars : List (List ℕ))
      → whole_run s asked (account_of (fresh_state s)) [] bars ≡ whole_run_by filled_at_open s asked (account_of (fresh_state s)) [] bars
  unfolding fresh_state waits_for
  market_from_fresh asked bars = market_run asked (account_of (fresh_state s)) [] bars refl
