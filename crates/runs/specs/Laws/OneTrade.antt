-- "A step records at most one trade."
use Rattle.std.specs.Prelude.{ℕ, ◌+◌, ◌≤◌, ◌≡◌, refl, Bool, true, false, cond, List, ltb, Float, None, Option, Some}
use Rattle.words.specs.Prelude.{arith}
use Rattle.rows.specs.{History.History}
use Rattle.portfolio.specs.{declared.Candle.Candle, declared.Closed.Closed, declared.Portfolio.Portfolio, Portfolio.in_position, Portfolio.worsened}
use Rattle.portfolio.specs.{Portfolio.exited}
use Rattle.execution.specs.{Costs.closed}
use Rattle.execution.specs.{Fills.execute_exit, Intrabar.apply_intrabar_exits}
use Rattle.records.specs.{declared.state.Order.Order, declared.state.Position.Position, declared.settings.Settings.Settings, declared.state.State.State}
use Rattle.records.specs.{Bar.candle_of, Lent.Lists, Lent.Rooms, Lent.trade_places}
use Rattle.engine.specs.{declared.account.Due.Due, declared.account.Due.TheVariants.Waits, declared.account.Due.TheVariants.Enters}
use Rattle.engine.specs.{declared.account.Due.TheVariants.Leaves, declared.account.Filled.Filled, Account.leaving, Account.facing, Account.entry_filled}
use Rattle.engine.specs.{Account.due_of, Account.done_of, Account.filled, Account.intrabar, Books.Held, Books.booked, Step.stepped}
use Rattle.std.specs.Float.Ieee as Ieee
use Rattle.floats.specs.Floats as Floats
use Rattle.engine.specs.Account as Account

never : {A : Type 0} (c : Closed) → None ≡ Some c → A
never c e = absurd (let z : ◌≡◌ {A = ℕ} 0 1 = cc in omega arith)

-- a position that was closed is flat
pub closed_is_flat : (p : Portfolio) (price : Float) (time : ℕ) (bps : Float) (reason : ℕ) → in_position (closed p price time bps reason).portfolio ≡ false
unfolding closed exited in_position Floats.abs Ieee.lt Ieee.of_bits
closed_is_flat p price time bps reason = refl

-- where a fill closed a trade, what is left is flat
abbrev Flat : Filled → Type 0
Flat f = (c : Closed) → f.«exit» ≡ Some c → in_position f.position.portfolio ≡ false

left_flat : (b : Bool) (p : Position) (d : Closed) → in_position d.portfolio ≡ false → (c : Closed)
    → cond b (Some d) None ≡ Some c → in_position (leaving p (cond b (Some d) None)).portfolio ≡ false
unfolding leaving
left_flat true p d h c e = h
left_flat false p d h c e = never c e

exit_flat : (s : Settings) (p : Position) (k : Candle) → Flat (Account.exit_filled s p k)
unfolding Account.exit_filled execute_exit
exit_flat s p k c e = left_flat (in_position (facing p k).portfolio) (facing p k) _ (closed_is_flat _ _ _ _ _) c e

done_flat : (due : Due) (s : Settings) (p : Position) (k : Candle) (h : History) (number : ℕ) → Flat (done_of due s p k h number)
unfolding done_of entry_filled
done_flat (Waits o) s p k h number = never
done_flat (Enters side kind price) s p k h number = never
done_flat Leaves s p k h number = exit_flat s p k

fill_flat : (s : Settings) (o : Order) (p : Position) (k : Candle) (h : History) (number : ℕ) → Flat (filled s o p k h number)
unfolding filled
fill_flat s o p k h number = done_flat (due_of o k) s p k h number

-- a flat position takes no bar
pub flat_faces : (p : Position) (k : Candle) → in_position p.portfolio ≡ false → facing p k ≡ p
unfolding facing worsened
flat_faces p k h = rw h

-- and is not left inside the bar
stays_flat : (s : Settings) (p : Position) (k : Candle) → in_position p.portfolio ≡ false → (intrabar s p k).«exit» ≡ None
unfolding intrabar apply_intrabar_exits
stays_flat s p k h = rw (flat_faces p k h, h)

-- a room grows by one trade at most
books_one : (b : Bool) (n : ℕ) (x y : List ℕ) → (cond {A = Held} b (record { count = n + 1; room = x }) (record { count = n; room = y })).count ≤ n + 1
books_one true n x y = omega arith
books_one false n x y = omega arith

pub books : (room : List ℕ) (n : ℕ) (x : Option Closed) → (booked room n x).count ≤ n + 1
unfolding booked
books room n None = omega arith
books room n (Some c) = books_one (ltb n (trade_places room)) n _ _

-- two exits of which the second comes only where the first did not
at_most_one : (room : List ℕ) (n : ℕ) (x y : Option Closed) → ((c : Closed) → x ≡ Some c → y ≡ None)
    → (booked (booked room n x).room (booked room n x).count y).count ≤ n + 1
unfolding booked
at_most_one room n None y h = books room n y
at_most_one room n (Some c) y h = rw (h c refl) (books room n (Some c))

-- where the fill of a bar closed a trade, no exit inside it does
pub one_exit : (s : Settings) (o : Order) (p : Position) (k : Candle) (h : History) (number : ℕ) (c : Closed)
    → (filled s o p k h number).«exit» ≡ Some c → (intrabar s (filled s o p k h number).position k).«exit» ≡ None
one_exit s o p k h number c e = stays_flat s (filled s o p k h number).position k (fill_flat s o p k h number c e)

-- A step records at most one trade.
pub one_trade : (s : Settings) (t : State) (bar : List ℕ) (m : Rooms) (ls : Lists)
    → (stepped s t bar m ls).result.counts.trades ≤ t.counts.trades + 1
unfolding stepped
one_trade s t bar m ls =
    at_most_one m.trades t.counts.trades _ _ (one_exit s t.order t.position (candle_of bar) _ t.counts.bars_seen)
