-- No dust (request 7): a box that a run leaves is in a position, with an entry bar, or holds nothing: its quantity is 0 and it has no entry bar.
use Rattle.std.specs.Prelude.{ℕ, ◌≡◌, refl, Bool, true, false, cond, List, T, Float, None, Option, Some}
use Rattle.words.specs.Prelude.{◌∙◌, binary64, fits, cond-fits, mul-fits}
use Rattle.floats.specs.{Floats.◌⊗◌, Floats.◌⊘◌, Floats.◌≺◌, Floats.◌≼◌, Floats.min, Floats.eps, Floats.zero, Floats.one, Floor.two_to53}
use Rattle.rows.specs.{History.History}
use Rattle.portfolio.specs.{declared.Candle.Candle, declared.Portfolio.Portfolio, Portfolio.fresh, Portfolio.in_position}
use Rattle.portfolio.specs.{Portfolio.funded, Portfolio.worsened, Portfolio.entered, Portfolio.exited}
use Rattle.execution.specs.{declared.fills.Entry.Entry}
use Rattle.execution.specs.{declared.costs.Funding.Funding}
use Rattle.execution.specs.{declared.lots.Quantity.Quantity}
use Rattle.execution.specs.{declared.level.Side.Side, declared.terms.Risk.Risk, declared.terms.Terms.Terms}
use Rattle.execution.specs.{declared.intrabar.Trigger.Trigger}
use Rattle.execution.specs.{Costs.slippage_rate, Costs.fill_price, Costs.closed, Costs.with_funding, Costs.charge_funding, Size.size, Size.capped_qty}
use Rattle.execution.specs.{Lots.whole_lots, Lots.in_lots, Lots.size_in_lots, Lots.is_too_large, Lots.or_zero, Fills.direction, Fills.volatility_for, Fills.quantity}
use Rattle.execution.specs.{Fills.probe_qty, Fills.within_volume, Fills.entry_with, Fills.execute_entry, Fills.execute_exit, Intrabar.closed_by}
use Rattle.execution.specs.{Intrabar.apply_intrabar_exits}
use Rattle.records.specs.{declared.settings.Settings.Settings, declared.state.Position.Position, declared.state.State.State}
use Rattle.records.specs.{Bar.candle_of, Bar.funding_of, Lent.Lists, Lent.Rooms, State.fresh_state}
use Rattle.refusals.specs.{Rooms.to_close}
use Rattle.engine.specs.{declared.account.Due.Due, declared.account.Due.TheVariants.Waits, declared.account.Due.TheVariants.Enters}
use Rattle.engine.specs.{declared.account.Due.TheVariants.Leaves, Account.leaving, Account.facing, Account.entering, Account.due_of, Account.done_of}
use Rattle.engine.specs.{Account.filled, Account.intrabar, Account.charged, Finish.last_exit, Finish.end_state, Laws.Runs.run_keeps, Run.run_over, Step.stepped}
use Rattle.trades.specs.{Times.directed}
use Rattle.std.specs.Float.Ieee as Ieee
use Rattle.std.specs.Float.Ieee.Fits.{div-fits}
use Rattle.engine.specs.Account as Account
use Rattle.portfolio.specs.{declared.Closed.Closed}

-- In a position, entered at a bar; or nothing is held, and no bar was entered at.
pub data OpenOrEmpty (p : Position) : Type 0 where
  is_open : (bar : ℕ) → p.entered ≡ Some bar → in_position p.portfolio ≡ true → OpenOrEmpty p
  is_empty : p.portfolio.qty ≡ zero → p.entered ≡ None → OpenOrEmpty p

-- ---- what an entry orders is a binary64: an operation gave it

abbrev Sized64 : Option Float → Type 0
Sized64 None = Unit {0}
Sized64 (Some q) = T (fits binary64 q)

abbrev Quantity64 : Quantity → Type 0
Quantity64 Quantity.Nothing = Unit {0}
Quantity64 Quantity.TooLarge = Unit {0}
Quantity64 (Quantity.Of q) = T (fits binary64 q)

sized_if : (b : Bool) (x : Option Float) → Sized64 x → Sized64 (cond b None x)
sized_if true x h = tt
sized_if false x h = h

quantity_either : (b : Bool) (x y : Quantity) → Quantity64 x → Quantity64 y → Quantity64 (cond b x y)
quantity_either true x y h i = h
quantity_either false x y h i = i

ordered_64 : (wanted : Option Float) (r : Risk) (equity price : Float) → Sized64 (capped_qty wanted r equity price)
unfolding capped_qty
ordered_64 None r equity price = tt
ordered_64 (Some qty) r equity price = sized_if (qty ≼ zero) _ (div-fits binary64 _ price)

lots_64 : (lot qty : Float) → T (fits binary64 qty) → Quantity64 (in_lots lot qty)
unfolding in_lots whole_lots
lots_64 lot qty h =
    quantity_either (Ieee.eq lot zero) (Quantity.Of qty) _ h
    (quantity_either (two_to53 ≼ (qty ⊘ lot)) Quantity.TooLarge _ tt
    (quantity_either (one ≼ (qty ⊘ lot)) (Quantity.Of _) Quantity.Nothing (mul-fits binary64 _ lot) tt))

size_64 : (lot : Float) (sized : Option Float) → Sized64 sized → Quantity64 (size_in_lots lot sized)
unfolding size_in_lots
size_64 lot None h = tt
size_64 lot (Some qty) h = lots_64 lot qty h

quantity_64 : (terms : Terms) (cash price : Float) (rv : Option Float) → Quantity64 (quantity terms cash price rv)
unfolding quantity size
quantity_64 terms cash price rv =
    size_64 terms.lot _ (sized_if (price ≼ zero) _ (sized_if (cash ≼ zero) _ (ordered_64 _ terms.risk cash price)))

within_64 : (terms : Terms) (x : Quantity) (volume : Float) → Quantity64 x → Quantity64 (within_volume terms x volume)
unfolding within_volume min
within_64 terms Quantity.Nothing volume h = tt
within_64 terms Quantity.TooLarge volume h = tt
within_64 terms (Quantity.Of base) volume h =
    let share : Float = terms.max_participation ⊗ volume in
    let fine : T (fits binary64 share) = mul-fits binary64 terms.max_participation volume in
    quantity_either terms.partial_fills (in_lots terms.lot (min base share)) (Quantity.Of base)
    (lots_64 terms.lot (min base share) (cond-fits binary64 (Ieee.is_nan base) share _ fine (cond-fits binary64 (share ≺ base) share base fine h))) h

-- ---- an entry opens a position

abbrev Opens : Entry → Type 0
Opens Entry.NoEntry = Unit {0}
Opens Entry.TooLarge = Unit {0}
Opens (Entry.Entered q fill) = in_position q ≡ true

opens_if : (b : Bool) (x : Entry) → (b ≡ true → Opens x) → Opens (cond b x Entry.NoEntry)
opens_if true x h = h refl
opens_if false x h = tt

opens_unless : (b : Bool) (x : Entry) → Opens x → Opens (cond b Entry.TooLarge x)
opens_unless true x h = tt
opens_unless false x h = h

booked_opens : (side : Side) (x : Quantity) (fill bps : Float) (k : Candle) (p : Portfolio) → Quantity64 x → Opens (entry_with (direction side) x fill bps k p)
unfolding entry_with entered in_position
booked_opens side Quantity.Nothing fill bps k p h = tt
booked_opens side Quantity.TooLarge fill bps k p h = tt
booked_opens side (Quantity.Of base) fill bps k p h = opens_if (eps ≺ base) _ (λ e. directed side base h e)

entry_opens : (side : Side) (raw bps : Float) (terms : Terms) (k : Candle) (p : Portfolio) (h : History) → Opens (execute_entry side raw bps terms k p h)
unfolding execute_entry
entry_opens side raw bps terms k p h =
    let rv : Option Float = volatility_for terms.sizing h in
    let probe : Quantity = probe_qty terms.slippage terms p.cash raw rv in
    let fill : Float = fill_price raw (direction side) (slippage_rate terms.slippage (or_zero probe) k.volume) in
    let sized : Quantity = quantity terms p.cash fill rv in
    let base : Quantity = within_volume terms sized k.volume in
    opens_unless (is_too_large probe) (entry_with (direction side) base fill bps k p)
    (booked_opens side base fill bps k p (within_64 terms sized k.volume (quantity_64 terms p.cash fill rv)))

-- ---- an exit empties it

abbrev Empties : Option Closed → Type 0
Empties None = Unit {0}
Empties (Some c) = c.portfolio.qty ≡ zero

empties_if : (b : Bool) (x : Option Closed) → Empties x → Empties (cond b x None)
empties_if true x h = h
empties_if false x h = tt

closed_empties : (p : Portfolio) (price : Float) (time : ℕ) (bps : Float) (reason : ℕ) → Empties (Some (closed p price time bps reason))
unfolding closed exited
closed_empties p price time bps reason = refl

trigger_empties : (t : Option Trigger) (k : Candle) (terms : Terms) (p : Portfolio) → Empties (closed_by t k terms p)
unfolding closed_by
trigger_empties None k terms p = tt
trigger_empties (Some trigger) k terms p = closed_empties p trigger.price k.time terms.taker_bps trigger.reason

exit_empties : (reason : ℕ) (raw : Float) (terms : Terms) (k : Candle) (p : Portfolio) → Empties (execute_exit reason raw terms k p)
unfolding execute_exit
exit_empties reason raw terms k p = empties_if (in_position p) _ (closed_empties p _ k.time terms.taker_bps reason)

stop_empties : (k : Candle) (terms : Terms) (p : Portfolio) (extreme : Float) → Empties (apply_intrabar_exits k terms p extreme)
unfolding apply_intrabar_exits
stop_empties k terms p extreme = empties_if (in_position p) _ (trigger_empties _ k terms p)

last_empties : (s : Settings) (t : State) → Empties (last_exit s t)
unfolding last_exit
last_empties s t = empties_if (to_close t) _ (closed_empties t.position.portfolio _ _ _ _)

-- ---- a bar

-- with the same quantity and entry bar
kept : (p q : Position) → q.portfolio.qty ≡ p.portfolio.qty → q.entered ≡ p.entered → OpenOrEmpty p → OpenOrEmpty q
unfolding in_position
kept p q same bar (is_open n e h) = is_open n (bar ∙ e) (rw same h)
kept p q same bar (is_empty z e) = is_empty (same ∙ z) (bar ∙ e)

left : (p : Position) (x : Option Closed) → Empties x → OpenOrEmpty p → OpenOrEmpty (leaving p x)
unfolding leaving
left p None e h = h
left p (Some c) e h = is_empty e refl

pub worsened_keeps : (p : Portfolio) (k : Candle) → (worsened p k).qty ≡ p.qty
worsened_keeps p k = go (in_position p) refl
  where
    go : (b : Bool) → in_position p ≡ b → (worsened p k).qty ≡ p.qty
    go true e = unfold worsened in rw e
    go false e = unfold worsened in rw e

faced : (p : Position) (k : Candle) → OpenOrEmpty p → OpenOrEmpty (facing p k)
unfolding facing
faced p k h = kept p (facing p k) (worsened_keeps p.portfolio k) refl h

entering_opens : (p : Position) (e : Entry) (number : ℕ) → Opens e → OpenOrEmpty p → OpenOrEmpty (entering p e number)
unfolding entering
entering_opens p Entry.NoEntry number o h = h
entering_opens p Entry.TooLarge number o h = h
entering_opens p (Entry.Entered q fill) number o h = is_open number refl o

done_keeps : (due : Due) (s : Settings) (p : Position) (k : Candle) (h : History) (number : ℕ)
    → OpenOrEmpty p → OpenOrEmpty (done_of due s p k h number).position
unfolding done_of Account.entry_filled Account.exit_filled
done_keeps (Waits o) s p k h number i = i
done_keeps (Enters side kind price) s p k h number i = entering_opens p _ number (entry_opens side price _ s.terms k p.portfolio h) i
done_keeps Leaves s p k h number i = left (facing p k) _ (exit_empties _ _ s.terms k _) (faced p k i)

inside_keeps : (s : Settings) (p : Position) (k : Candle) → OpenOrEmpty p → OpenOrEmpty (intrabar s p k).position
unfolding intrabar
inside_keeps s p k h = left _ _ (stop_empties k s.terms _ _) (kept (facing p k) _ refl refl (faced p k h))

pub charge_keeps : (on : Bool) (f : Option Funding) (p : Portfolio) → (charge_funding on f p).qty ≡ p.qty
unfolding charge_funding
charge_keeps on f p = go on (in_position p) f
  where
    go : (on b : Bool) (f : Option Funding) → (cond on (cond b (with_funding f p) p) p).qty ≡ p.qty
    go true true None = unfold with_funding in refl
    go true true (Some funding) = unfold with_funding funded in refl
    go true false f = refl
    go false b f = refl

step_keeps : (s : Settings) (t : State) (bar : List ℕ) (m : Rooms) (ls : Lists) → OpenOrEmpty t.position
    → OpenOrEmpty (stepped s t bar m ls).result.position
unfolding stepped filled charged
step_keeps s t bar m ls h =
    kept _ _ (charge_keeps s.funding (funding_of s.slots bar) _) refl
    (inside_keeps s _ (candle_of bar) (done_keeps (due_of t.order (candle_of bar)) s t.position (candle_of bar) _ _ h))

fresh_empty : (s : Settings) → OpenOrEmpty (fresh_state s).position
unfolding fresh_state fresh
fresh_empty s = is_empty refl refl

-- NO DUST: after any bars from a fresh state
pub no_dust : (s : Settings) (ls : Lists) (m : Rooms) (bars : List (List ℕ)) → OpenOrEmpty (run_over s ls (fresh_state s) m bars).state.position
no_dust s ls m bars =
    run_keeps s ls (λ t n. OpenOrEmpty t.position) (λ t n bar fine h. step_keeps s t bar n ls h) bars (fresh_state s) m (fresh_empty s)

-- and after a finish
pub no_dust_at_end : (s : Settings) (ls : Lists) (m : Rooms) (bars : List (List ℕ)) (trades : ℕ)
    → let t = (run_over s ls (fresh_state s) m bars).state in
    OpenOrEmpty (end_state t (last_exit s t) trades).position
unfolding end_state
no_dust_at_end s ls m bars trades =
    let t : State = (run_over s ls (fresh_state s) m bars).state in
    left t.position (last_exit s t) (last_empties s t) (no_dust s ls m bars)
