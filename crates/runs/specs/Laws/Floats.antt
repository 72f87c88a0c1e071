-- Every float of a state is an f64: it was one in the state before, it is a word of the bar, or an operation of IEEE 754 gave it. So what the
-- round trip of a state's words asks (records, Laws/RoundTrip) holds after every bar and after a finish.
use Rattle.std.specs.Prelude.{ℕ, ◌≡◌, refl, Bool, true, false, cond, List, T, Float, None, Option, Some}
use Rattle.words.specs.Prelude.{binary64, fits, of_bits-fits, cond-fits, mul-fits}
use Rattle.floats.specs.{Floats.◌⊗◌, Floats.◌≺◌, Floats.min, Floats.max, Floats.eps}
use Rattle.rows.specs.{History.History, History.history_of}
use Rattle.portfolio.specs.{declared.Candle.Candle, declared.Closed.Closed, declared.Portfolio.Portfolio, Portfolio.in_position, Portfolio.is_long}
use Rattle.portfolio.specs.{Portfolio.funded, Portfolio.worse, Portfolio.worsened, Portfolio.entered, Portfolio.exited, Trade.signal, Trade.end}
use Rattle.execution.specs.{declared.fills.Entry.Entry, declared.fills.Entry.TheVariants.NoEntry, declared.fills.Entry.TheVariants.TooLarge}
use Rattle.execution.specs.{declared.fills.Entry.TheVariants.Entered}
use Rattle.execution.specs.{declared.costs.Funding.Funding}
use Rattle.execution.specs.{declared.lots.Quantity.Quantity, declared.lots.Quantity.TheVariants.Nothing, declared.lots.Quantity.TheVariants.Of}
use Rattle.execution.specs.{declared.level.Entries.Entries, declared.level.OrderKind.OrderKind, declared.level.OrderType.OrderType}
use Rattle.execution.specs.{declared.level.OrderType.TheVariants.Market as MarketType, declared.level.OrderType.TheVariants.Limit as LimitType}
use Rattle.execution.specs.{declared.level.OrderType.TheVariants.Stop as StopType, declared.level.OrderType.TheVariants.StopLimit as StopLimitType}
use Rattle.execution.specs.{declared.level.OrderType.TheVariants.Unknown as UnknownType, declared.level.Side.Side, declared.terms.Terms.Terms}
use Rattle.execution.specs.{Costs.slippage_rate, Costs.fill_price}
use Rattle.execution.specs.{Costs.fee_rate, Costs.closed, Costs.with_funding, Costs.charge_funding, Fills.direction, Fills.volatility_for, Fills.quantity}
use Rattle.execution.specs.{Fills.probe_qty, Fills.within_volume, Fills.entry_with, Fills.execute_entry, Fills.execute_exit, Level.level_from}
use Rattle.execution.specs.{Level.entry_trigger, Level.fee_bps, Lots.is_too_large, Lots.or_zero, Intrabar.favourable, Intrabar.extreme_with}
use Rattle.execution.specs.{Intrabar.apply_intrabar_exits}
use Rattle.records.specs.{declared.settings.Settings.Settings, declared.state.Order.Order}
use Rattle.records.specs.{declared.state.Position.Position, declared.state.State.State, Bar.candle_of}
use Rattle.records.specs.{Bar.funding_of, Lent.Lists, Lent.Rooms, StateWords.waits_for, Laws.RoundTrip.KindFits, Laws.RoundTrip.Floats64}
use Rattle.refusals.specs.{Rooms.to_close}
use Rattle.engine.specs.{declared.account.Due.Due, declared.account.Due.TheVariants.Waits, declared.account.Due.TheVariants.Enters}
use Rattle.engine.specs.{declared.account.Due.TheVariants.Leaves, declared.account.Filled.Filled, Account.leaving, Account.facing, Account.entering}
use Rattle.engine.specs.{Account.due_of, Account.done_of, Account.filled, Account.intrabar, Account.charged, Decide.Answers}
use Rattle.engine.specs.{Decide.order_after, Decide.decided, Finish.last_exit, Finish.end_state, Laws.Runs.run_keeps, Record.held_rows, Run.run_over, Step.stepped}
use Rattle.runs.specs.{Laws.Exits.LeftWith, Laws.Exits.left, Laws.Exits.exit_if, Laws.Exits.executed_leaves, Laws.Exits.inside_leaves}
use Rattle.runs.specs.{Laws.Orders.filled_keeps, Laws.Orders.ordered_keeps, Laws.Orders.decided_keeps}
use Rattle.std.specs.Float.Ieee as Ieee
use Rattle.std.specs.Float.Ieee.Fits.{add-fits, sub-fits}
use Rattle.engine.specs.Account as Account

abbrev Is64 : Float → Type 0
Is64 x = T (fits binary64 x)

-- the floats of a portfolio
pub record Account64 (p : Portfolio) : Type 0 where
  pub cash : Is64 p.cash
  pub qty : Is64 p.qty
  pub entry_price : Is64 p.entry_price
  pub entry_fee : Is64 p.entry_fee
  pub fees_paid : Is64 p.fees_paid
  pub funding : Is64 p.funding
  pub worst : Is64 p.worst

-- and of a position
pub record Position64 (p : Position) : Type 0 where
  pub account : Account64 p.portfolio
  pub extreme : Is64 p.extreme

-- ---- a position that takes a bar

max_64 : (x y : Float) → Is64 x → Is64 y → Is64 (max x y)
unfolding max
max_64 x y h i = cond-fits binary64 (Ieee.is_nan x) y (cond (x ≺ y) y x) i (cond-fits binary64 (x ≺ y) y x i h)

min_64 : (x y : Float) → Is64 x → Is64 y → Is64 (min x y)
unfolding min
min_64 x y h i = cond-fits binary64 (Ieee.is_nan x) y (cond (y ≺ x) y x) i (cond-fits binary64 (y ≺ x) y x i h)

account_either : (b : Bool) (p q : Portfolio) → Account64 p → Account64 q → Account64 (cond b p q)
account_either true p q h i = h
account_either false p q h i = i

worsened_64 : (p : Portfolio) (k : Candle) → Is64 k.high → Is64 k.low → Account64 p → Account64 (worsened p k)
unfolding worsened worse
worsened_64 p k high low a = account_either (in_position p) _ p (record {
  cash = a.cash;
  qty = a.qty;
  entry_price = a.entry_price;
  entry_fee = a.entry_fee;
  fees_paid = a.fees_paid;
  funding = a.funding;
  worst =
      cond-fits binary64 (is_long p) (min p.worst k.low) (max p.worst k.high)
      (min_64 p.worst k.low a.worst low) (max_64 p.worst k.high a.worst high);
}) a

facing_64 : (p : Position) (k : Candle) → Is64 k.high → Is64 k.low → Position64 p → Position64 (facing p k)
unfolding facing
facing_64 p k high low h = record { account = worsened_64 p.portfolio k high low h.account; extreme = h.extreme }

-- ---- a position that is left

abbrev Exit64 : Option Closed → Type 0
Exit64 = LeftWith Account64

closed_64 : (p : Portfolio) (price : Float) (time : ℕ) (bps : Float) (reason : ℕ) → Account64 p → Account64 (closed p price time bps reason).portfolio
unfolding closed exited
closed_64 p price time bps reason a = record {
  cash = add-fits binary64 _ _;
  qty = of_bits-fits binary64 0;
  entry_price = a.entry_price;
  entry_fee = of_bits-fits binary64 0;
  fees_paid = add-fits binary64 _ _;
  funding = a.funding;
  worst = a.worst;
}

leaving_64 : (p : Position) (x : Option Closed) → Position64 p → Exit64 x → Position64 (leaving p x)
unfolding leaving
leaving_64 p None h e = h
leaving_64 p (Some c) h (left _ a) = record { account = a; extreme = h.extreme }

-- ---- the fill

data Entry64 : Entry → Type 0 where
  none : Entry64 NoEntry
  large : Entry64 TooLarge
  one : (p : Portfolio) (fill : Float) → Account64 p → Is64 fill → Entry64 (Entered p fill)

booked_64 : (b : Bool) (p : Portfolio) (qty fill : Float) (time : ℕ) (fee : Float) → Is64 qty → Is64 fill → Is64 fee
    → Entry64 (cond b (Entered (entered p qty fill time fee) fill) NoEntry)
unfolding entered
booked_64 true p qty fill time fee q f e = one (entered p qty fill time fee) fill (record {
  cash = sub-fits binary64 _ _;
  qty = q;
  entry_price = f;
  entry_fee = e;
  fees_paid = add-fits binary64 _ _;
  funding = of_bits-fits binary64 0;
  worst = f;
}) f
booked_64 false p qty fill time fee q f e = none

ordered_64 : (q : Quantity) (dir fill bps : Float) (k : Candle) (p : Portfolio) → Is64 fill → Entry64 (entry_with dir q fill bps k p)
unfolding entry_with
ordered_64 Nothing dir fill bps k p f = none
ordered_64 Quantity.TooLarge dir fill bps k p f = large
ordered_64 (Of base) dir fill bps k p f =
    booked_64 (eps ≺ base) p (dir ⊗ base) fill k.time (base ⊗ fill ⊗ fee_rate bps) (mul-fits binary64 _ _) f (mul-fits binary64 _ _)

entry_either : (b : Bool) (x : Entry) → Entry64 x → Entry64 (cond b TooLarge x)
entry_either true x h = large
entry_either false x h = h

entry_64 : (side : Side) (raw bps : Float) (terms : Terms) (k : Candle) (p : Portfolio) (h : History) → Entry64 (execute_entry side raw bps terms k p h)
unfolding execute_entry
entry_64 side raw bps terms k p h =
    let rv : Option Float = volatility_for terms.sizing h in
    let probe : Quantity = probe_qty terms.slippage terms p.cash raw rv in
    let fill : Float = fill_price raw (direction side) (slippage_rate terms.slippage (or_zero probe) k.volume) in
    entry_either (is_too_large probe) (entry_with (direction side) (within_volume terms (quantity terms p.cash fill rv) k.volume) fill bps k p)
    (ordered_64 (within_volume terms (quantity terms p.cash fill rv) k.volume) (direction side) fill bps k p (mul-fits binary64 _ _))

entering_64 : (p : Position) (x : Entry) (number : ℕ) → Position64 p → Entry64 x → Position64 (entering p x number)
unfolding entering
entering_64 p NoEntry number h e = h
entering_64 p TooLarge number h e = h
entering_64 p (Entered account fill) number h (one _ _ a f) = record { account = a; extreme = f }

module _ (s : Settings) (p : Position) (k : Candle) (before : History) (number : ℕ) (high : Is64 k.high) (low : Is64 k.low) (h : Position64 p) where
  entered_64 : (side : Side) (kind : OrderKind) (price : Float) → Position64 (Account.entry_filled side kind price s p k before number).position
  unfolding Account.entry_filled
  entered_64 side kind price =
      let bps : Float = fee_bps kind s.entries.maker_bps s.terms.taker_bps in
      entering_64 p (execute_entry side price bps s.terms k p.portfolio before) number h (entry_64 side price bps s.terms k p.portfolio before)

  left_64 : Position64 (Account.exit_filled s p k).position
  unfolding Account.exit_filled
  left_64 =
      let q : Position = facing p k in
      let held : Position64 q = facing_64 p k high low h in
      leaving_64 q (execute_exit signal k.«open» s.terms k q.portfolio) held
      (executed_leaves Account64 closed_64 signal k.«open» s.terms k q.portfolio held.account)

  done_64 : (due : Due) → Position64 (done_of due s p k before number).position
  unfolding done_of
  done_64 (Waits order) = h
  done_64 (Enters side kind price) = entered_64 side kind price
  done_64 Leaves = left_64

  filled_64 : (o : Order) → Position64 (filled s o p k before number).position
  unfolding filled
  filled_64 o = done_64 (due_of o k)

-- ---- the levels of an order

abbrev Order64 : Order → Type 0
Order64 o = KindFits (waits_for o)

waits_64 : (s : Settings) (p : Position) (k : Candle) (before : History) (number : ℕ) (o : Order) → Order64 o → Order64 (filled s o p k before number).order
unfolding waits_for KindFits
waits_64 = filled_keeps Order64 tt (λ n kind h. h) (λ n kind h. h) (λ n h. tt)

trigger_64 : (e : Entries) (close : Float) → KindFits (entry_trigger e close)
unfolding entry_trigger level_from KindFits
trigger_64 e close = go e.order_type refl
  where
    go : (t : OrderType) → e.order_type ≡ t → KindFits (entry_trigger e close)
    go MarketType h = rw h tt
    go LimitType h = rw h (mul-fits binary64 _ _)
    go StopType h = rw h (mul-fits binary64 _ _)
    go StopLimitType h = rw h (mul-fits binary64 _ _, mul-fits binary64 _ _)
    go UnknownType h = rw h tt

decided_64 : (s : Settings) (o : Order) (p : Position) (number : ℕ) (close : Float) (a : Answers) → Order64 o → Order64 (order_after s o p number close a)
unfolding waits_for KindFits
decided_64 s o p number close a =
    let kind = trigger_64 s.entries close in
    decided_keeps Order64 s o p number close a (ordered_keeps Order64 s.delay _ p.portfolio a tt kind kind tt)

-- ---- exits inside the bar

extreme_64 : (k : Candle) (p : Portfolio) (x : Float) → Is64 k.high → Is64 k.low → Is64 x → Is64 (extreme_with k p x)
unfolding extreme_with favourable
extreme_64 k p x high low e =
    cond-fits binary64 (in_position p) (cond (is_long p) (max x k.high) (min x k.low)) x
    (cond-fits binary64 (is_long p) (max x k.high) (min x k.low) (max_64 x k.high e high) (min_64 x k.low e low)) e

intrabar_64 : (s : Settings) (p : Position) (k : Candle) → Is64 k.high → Is64 k.low → Position64 p → Position64 (intrabar s p k).position
unfolding intrabar
intrabar_64 s p k high low h =
    let q : Position = facing p k in
    let held : Position64 q = facing_64 p k high low h in
    let extreme : Float = extreme_with k q.portfolio q.extreme in
    leaving_64 (record { portfolio = q.portfolio; entered = q.entered; extreme = extreme }) (apply_intrabar_exits k s.terms q.portfolio extreme)
    (record { account = held.account; extreme = extreme_64 k q.portfolio q.extreme high low held.extreme })
    (inside_leaves Account64 closed_64 k s.terms q.portfolio extreme held.account)

-- ---- funding

funding_64 : (f : Option Funding) (p : Portfolio) → Account64 p → Account64 (with_funding f p)
unfolding with_funding funded
funding_64 None p a = a
funding_64 (Some funding) p a = record {
  cash = sub-fits binary64 _ _;
  qty = a.qty;
  entry_price = a.entry_price;
  entry_fee = a.entry_fee;
  fees_paid = add-fits binary64 _ _;
  funding = add-fits binary64 _ _;
  worst = a.worst;
}

charged_64 : (s : Settings) (p : Position) (bar : List ℕ) → Position64 p → Position64 (charged s p bar)
unfolding charged charge_funding
charged_64 s p bar h =
    let a : Portfolio = p.portfolio in
    let f : Option Funding = funding_of s.slots bar in
    record {
      account =
          account_either s.funding (cond (in_position a) (with_funding f a) a) a
          (account_either (in_position a) (with_funding f a) a (funding_64 f a h.account) h.account) h.account;
      extreme = h.extreme;
    }

-- ---- a state

position_of : {t : State} → Floats64 t → Position64 t.position
position_of h = record {
  account = record {
    cash = h.cash;
    qty = h.qty;
    entry_price = h.entry_price;
    entry_fee = h.entry_fee;
    fees_paid = h.fees_paid;
    funding = h.funding;
    worst = h.worst;
  };
  extreme = h.extreme;
}

with_last : (t : State) → Position64 t.position → Order64 t.order → Is64 t.last.close → Floats64 t
with_last t h order close = record {
  cash = h.account.cash;
  qty = h.account.qty;
  entry_price = h.account.entry_price;
  entry_fee = h.account.entry_fee;
  fees_paid = h.account.fees_paid;
  funding = h.account.funding;
  worst = h.account.worst;
  extreme = h.extreme;
  close = close;
  order = order;
}

-- a bar's prices are words
high_64 : (bar : List ℕ) → Is64 (candle_of bar).high
unfolding candle_of
high_64 bar = of_bits-fits binary64 _

low_64 : (bar : List ℕ) → Is64 (candle_of bar).low
unfolding candle_of
low_64 bar = of_bits-fits binary64 _

close_64 : (bar : List ℕ) → Is64 (candle_of bar).close
unfolding candle_of
close_64 bar = of_bits-fits binary64 _

last_64 : (s : Settings) (t : State) → Account64 t.position.portfolio → Exit64 (last_exit s t)
unfolding last_exit
last_64 s t a =
    let x : Closed = closed t.position.portfolio t.last.close t.last.time s.terms.taker_bps end in
    exit_if Account64 (to_close t) (Some x) (left x (closed_64 t.position.portfolio t.last.close t.last.time s.terms.taker_bps end a))

-- AFTER A BAR
pub step_floats : (s : Settings) (t : State) (bar : List ℕ) (m : Rooms) (ls : Lists) → Floats64 t → Floats64 (stepped s t bar m ls).result
unfolding stepped
step_floats s t bar m ls h =
    let k : Candle = candle_of bar in
    let before : History = history_of s.slots (held_rows s.slots t.counts.rows_held m.rows) in
    let f : Filled = filled s t.order t.position k before t.counts.bars_seen in
    let filled-fits : Position64 f.position =
    filled_64 s t.position k before t.counts.bars_seen (high_64 bar) (low_64 bar) (position_of h) t.order in
    let left-fits : Position64 (intrabar s f.position k).position = intrabar_64 s f.position k (high_64 bar) (low_64 bar) filled-fits in
    with_last (stepped s t bar m ls).result (charged_64 s (intrabar s f.position k).position bar left-fits)
    (unfold decided in decided_64 s f.order _ _ _ _ (waits_64 s t.position k before t.counts.bars_seen t.order h.order)) (close_64 bar)

-- AFTER A FINISH, however many trades are counted then
pub end_floats : (s : Settings) (t : State) (trades : ℕ) → Floats64 t → Floats64 (end_state t (last_exit s t) trades)
unfolding end_state
end_floats s t trades h =
    with_last (end_state t (last_exit s t) trades)
    (leaving_64 t.position (last_exit s t) (position_of h) (last_64 s t (position_of h).account)) h.order h.close

-- AFTER ANY BARS
pub run_floats : (s : Settings) (ls : Lists) (bars : List (List ℕ)) (t : State) (m : Rooms) → Floats64 t → Floats64 (run_over s ls t m bars).state
run_floats s ls = run_keeps s ls (λ t m. Floats64 t) (λ t m bar fine h. step_floats s t bar m ls h)
