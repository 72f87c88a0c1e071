-- A flat account with no order: a bar adds a row, an equity point and its counts, and nothing else unless a rule says yes.
use Rattle.std.specs.Prelude.{ℕ, ◌≡◌, refl, Bool, true, false, cond, List, Float}
use Rattle.rows.specs.{History.history_of, History.last_rows}
use Rattle.portfolio.specs.{Portfolio.in_position}
use Rattle.execution.specs.{Costs.charge_funding, Intrabar.extreme_with, Intrabar.apply_intrabar_exits}
use Rattle.records.specs.{declared.state.Order.TheVariants.Idle, declared.state.Position.Position, declared.settings.Settings.Settings}
use Rattle.records.specs.{declared.state.State.State, Bar.candle_of, Lent.Lists, Lent.Rooms}
use Rattle.engine.specs.{Account.leaving, Account.due_of, Account.done_of, Account.filled, Account.intrabar, Account.charged, Books.booked, Decide.list_says}
use Rattle.engine.specs.{Decide.state_at, Decide.answers_of, Decide.ordered, Decide.opening_order, Decide.order_after, Decide.decided, Step.stepped}
use Rattle.runs.specs.{Laws.OneTrade.flat_faces}

same : {A : Type 0} (b : Bool) (x : A) → cond b x x ≡ x
same true x = refl
same false x = refl

pub record Quiet (s : Settings) (t : State) (bar : List ℕ) (m : Rooms) (ls : Lists) : Type 0 where
  pub position : (stepped s t bar m ls).result.position ≡ t.position
  pub count : (stepped s t bar m ls).result.counts.trades ≡ t.counts.trades
  pub trades : (stepped s t bar m ls).rooms.trades ≡ m.trades

pub quiet : (s : Settings) (t : State) (bar : List ℕ) (m : Rooms) (ls : Lists)
    → t.order ≡ Idle → in_position t.position.portfolio ≡ false → Quiet s t bar m ls
unfolding stepped filled due_of done_of intrabar charged booked leaving extreme_with apply_intrabar_exits charge_funding
quiet s t bar m ls o f =
    let met = flat_faces t.position (candle_of bar) f in
    record { position = simp (o, met, f, same); count = simp (o, met, f); trades = simp (o, met, f) }

-- no rule says yes: no order
pub no_rule_no_order : (s : Settings) (p : Position) (number : ℕ) (close : Float) (rows : List ℕ) (ls : Lists) → in_position p.portfolio ≡ false
    → list_says (history_of s.slots (last_rows s.slots s.depth rows)) (state_at p number) ls.entry ≡ false
    → list_says (history_of s.slots (last_rows s.slots s.depth rows)) (state_at p number) ls.short_entry ≡ false
    → decided s Idle p number close rows ls ≡ Idle
unfolding decided order_after answers_of ordered opening_order
no_rule_no_order s p number close rows ls f a b = simp (f, a, b, same)
