-- The time of the last entry and the delay of an order stay below 2^64, where the bar's time and the delay setting are.
use Rattle.std.specs.Prelude.{ℕ, ◌<◌, Bool, true, false, cond, List, Float, None, Option, Some}
use Rattle.words.specs.Prelude.{arith}
use Rattle.floats.specs.{Floats.◌⊗◌, Floats.◌≺◌, Floats.eps}
use Rattle.rows.specs.{History.History}
use Rattle.portfolio.specs.{declared.Candle.Candle, declared.Portfolio.Portfolio, Portfolio.in_position}
use Rattle.portfolio.specs.{Portfolio.funded, Portfolio.worsened, Portfolio.entered, Portfolio.exited}
use Rattle.execution.specs.{declared.fills.Entry.Entry, declared.fills.Entry.TheVariants.NoEntry, declared.fills.Entry.TheVariants.TooLarge}
use Rattle.execution.specs.{declared.fills.Entry.TheVariants.Entered}
use Rattle.execution.specs.{declared.costs.Funding.Funding}
use Rattle.execution.specs.{declared.lots.Quantity.Quantity, declared.lots.Quantity.TheVariants.Nothing, declared.lots.Quantity.TheVariants.Of}
use Rattle.execution.specs.{declared.level.Side.Side, declared.terms.Terms.Terms, Costs.slippage_rate, Costs.fill_price}
use Rattle.execution.specs.{Costs.closed, Costs.with_funding, Costs.charge_funding, Fills.direction, Fills.volatility_for, Fills.quantity, Fills.probe_qty}
use Rattle.execution.specs.{Fills.within_volume, Fills.entry_with, Fills.execute_entry, Lots.is_too_large, Lots.or_zero}
use Rattle.records.specs.{declared.settings.Settings.Settings, declared.state.Order.Order}
use Rattle.records.specs.{declared.state.Position.Position, declared.state.State.State, Bar.candle_of, Lent.Lists, Lent.Rooms, StateWords.order_delay}
use Rattle.engine.specs.{declared.account.Due.Due, declared.account.Due.TheVariants.Waits, declared.account.Due.TheVariants.Enters}
use Rattle.engine.specs.{declared.account.Due.TheVariants.Leaves, Account.leaving, Account.facing, Account.entering, Account.due_of}
use Rattle.engine.specs.{Account.done_of, Account.filled, Account.intrabar, Account.charged, Decide.Answers, Decide.order_after, Decide.decided, Step.stepped}
use Rattle.runs.specs.{Laws.Exits.LeftWith, Laws.Exits.left, Laws.Exits.executed_leaves, Laws.Exits.inside_leaves}
use Rattle.runs.specs.{Laws.Orders.filled_keeps, Laws.Orders.ordered_keeps, Laws.Orders.decided_keeps}
use Rattle.engine.specs.Account as Account
use Rattle.portfolio.specs.{declared.Closed.Closed}

-- what a 64-bit word holds
abbrev pub Word64 : ℕ → Type 0
Word64 w = w < 18446744073709551616

-- ---- the time of the last entry

abbrev Timed : Portfolio → Type 0
Timed p = Word64 p.entry_time

timed_either : (b : Bool) (p q : Portfolio) → Timed p → Timed q → Timed (cond b p q)
timed_either true p q h i = h
timed_either false p q h i = i

facing_timed : (p : Position) (k : Candle) → Timed p.portfolio → Timed (facing p k).portfolio
unfolding facing worsened
facing_timed p k h = timed_either (in_position p.portfolio) _ p.portfolio h h

closed_timed : (p : Portfolio) (price : Float) (time : ℕ) (bps : Float) (reason : ℕ) → Timed p → Timed (closed p price time bps reason).portfolio
unfolding closed exited
closed_timed p price time bps reason h = h

leaving_timed : (p : Position) (x : Option Closed) → Timed p.portfolio → LeftWith Timed x → Timed (leaving p x).portfolio
unfolding leaving
leaving_timed p None h e = h
leaving_timed p (Some c) h (left _ i) = i

data TimedEntry : Entry → Type 0 where
  none : TimedEntry NoEntry
  large : TimedEntry TooLarge
  one : (p : Portfolio) (fill : Float) → Timed p → TimedEntry (Entered p fill)

booked_timed : (b : Bool) (p : Portfolio) (qty fill : Float) (time : ℕ) (fee : Float) → Word64 time
    → TimedEntry (cond b (Entered (entered p qty fill time fee) fill) NoEntry)
unfolding entered
booked_timed true p qty fill time fee h = one (entered p qty fill time fee) fill h
booked_timed false p qty fill time fee h = none

ordered_timed : (q : Quantity) (dir fill bps : Float) (k : Candle) (p : Portfolio) → Word64 k.time → TimedEntry (entry_with dir q fill bps k p)
unfolding entry_with
ordered_timed Nothing dir fill bps k p h = none
ordered_timed Quantity.TooLarge dir fill bps k p h = large
ordered_timed (Of base) dir fill bps k p h = booked_timed (eps ≺ base) p (dir ⊗ base) fill k.time _ h

entry_either : (b : Bool) (x : Entry) → TimedEntry x → TimedEntry (cond b TooLarge x)
entry_either true x h = large
entry_either false x h = h

entry_timed : (side : Side) (raw bps : Float) (terms : Terms) (k : Candle) (p : Portfolio) (h : History) → Word64 k.time
    → TimedEntry (execute_entry side raw bps terms k p h)
unfolding execute_entry
entry_timed side raw bps terms k p h t =
    let rv : Option Float = volatility_for terms.sizing h in
    let probe : Quantity = probe_qty terms.slippage terms p.cash raw rv in
    let fill : Float = fill_price raw (direction side) (slippage_rate terms.slippage (or_zero probe) k.volume) in
    let q : Quantity = within_volume terms (quantity terms p.cash fill rv) k.volume in
    entry_either (is_too_large probe) (entry_with (direction side) q fill bps k p) (ordered_timed q (direction side) fill bps k p t)

entering_timed : (p : Position) (x : Entry) (number : ℕ) → Timed p.portfolio → TimedEntry x → Timed (entering p x number).portfolio
unfolding entering
entering_timed p NoEntry number h e = h
entering_timed p TooLarge number h e = h
entering_timed p (Entered account fill) number h (one _ _ a) = a

filled_timed : (due : Due) (s : Settings) (p : Position) (k : Candle) (before : History) (n : ℕ) → Word64 k.time → Timed p.portfolio
    → Timed (done_of due s p k before n).position.portfolio
unfolding done_of Account.entry_filled Account.exit_filled
filled_timed (Waits order) s p k before n t h = h
filled_timed (Enters side kind price) s p k before n t h = entering_timed p _ n h (entry_timed side price _ s.terms k p.portfolio before t)
filled_timed Leaves s p k before n t h =
    leaving_timed (facing p k) _ (facing_timed p k h)
    (executed_leaves Timed closed_timed _ k.«open» s.terms k (facing p k).portfolio (facing_timed p k h))

intrabar_timed : (s : Settings) (p : Position) (k : Candle) → Timed p.portfolio → Timed (intrabar s p k).position.portfolio
unfolding intrabar
intrabar_timed s p k h =
    let q : Portfolio = (facing p k).portfolio in
    let held : Timed q = facing_timed p k h in
    leaving_timed (record { portfolio = q; entered = _; extreme = _ }) _ held (inside_leaves Timed closed_timed k s.terms q _ held)

funding_timed : (f : Option Funding) (p : Portfolio) → Timed p → Timed (with_funding f p)
unfolding with_funding funded
funding_timed None p h = h
funding_timed (Some funding) p h = h

charged_timed : (s : Settings) (p : Position) (bar : List ℕ) → Timed p.portfolio → Timed (charged s p bar).portfolio
unfolding charged charge_funding
charged_timed s p bar h =
    let a : Portfolio = p.portfolio in
    timed_either s.funding (cond (in_position a) (with_funding _ a) a) a (timed_either (in_position a) (with_funding _ a) a (funding_timed _ a h) h) h

-- ---- the delay of an order

abbrev Delayed : Order → Type 0
Delayed o = Word64 (order_delay o)

waits_delayed : (s : Settings) (p : Position) (k : Candle) (before : History) (number : ℕ) (o : Order) → Delayed o
    → Delayed (filled s o p k before number).order
unfolding order_delay
waits_delayed = filled_keeps Delayed (omega arith) (λ n kind h. omega arith) (λ n kind h. omega arith) (λ n h. omega arith)

decided_delayed : (s : Settings) (o : Order) (p : Position) (number : ℕ) (close : Float) (a : Answers) → Word64 s.delay → Delayed o
    → Delayed (order_after s o p number close a)
unfolding order_delay
decided_delayed s o p number close a d =
    decided_keeps Delayed s o p number close a (ordered_keeps Delayed s.delay _ p.portfolio a (omega arith) d d d)

-- ---- a bar

module _ (s : Settings) (t : State) (bar : List ℕ) (m : Rooms) (ls : Lists) where
  pub step_timed : Word64 (candle_of bar).time → Timed t.position.portfolio → Timed (stepped s t bar m ls).result.position.portfolio
  unfolding stepped filled
  step_timed b h =
      charged_timed s _ bar (intrabar_timed s _ _ (filled_timed (due_of t.order _) s t.position (candle_of bar) _ t.counts.bars_seen b h))

  pub step_delayed : Word64 s.delay → Delayed t.order → Delayed (stepped s t bar m ls).result.order
  unfolding stepped decided
  step_delayed d h =
      decided_delayed s _ _ t.counts.bars_seen _ _ d (waits_delayed s t.position (candle_of bar) _ t.counts.bars_seen t.order h)
