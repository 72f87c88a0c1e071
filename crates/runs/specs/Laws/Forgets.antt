-- The funding paid and the least favourable price decide nothing: what a phase of a bar does, but for these two words, it does without them.
use Rattle.std.specs.Prelude.{ℕ, ◌≡◌, refl, Bool, true, false, cond, List, [], ◌∷◌, ◌++◌, Float, None, Option, Some}
use Rattle.words.specs.Prelude.{sym, ◌∙◌}
use Rattle.rows.specs.{History.History}
use Rattle.portfolio.specs.{declared.Candle.Candle, declared.Portfolio.Portfolio, declared.Trade.Trade, Portfolio.in_position, Portfolio.is_long}
use Rattle.portfolio.specs.{Portfolio.equity, Portfolio.funded, Portfolio.worsened, Portfolio.entered, Portfolio.notional, Portfolio.pnl, Portfolio.trade_of}
use Rattle.portfolio.specs.{Portfolio.exited, Trade.signal}
use Rattle.execution.specs.{declared.fills.Entry.Entry, declared.fills.Entry.TheVariants.NoEntry, declared.fills.Entry.TheVariants.Entered}
use Rattle.execution.specs.{declared.costs.Funding.Funding}
use Rattle.execution.specs.{declared.lots.Quantity.Quantity, declared.lots.Quantity.TheVariants.Nothing, declared.lots.Quantity.TheVariants.TooLarge}
use Rattle.execution.specs.{declared.lots.Quantity.TheVariants.Of, declared.level.Side.Side, declared.level.OrderKind.OrderKind, declared.terms.Terms.Terms}
use Rattle.execution.specs.{declared.terms.Risk.Risk, declared.intrabar.Trigger.Trigger}
use Rattle.execution.specs.{Costs.closed, Costs.with_funding, Costs.charge_funding, Fills.entry_with}
use Rattle.execution.specs.{Fills.execute_entry, Fills.exit_direction, Fills.execute_exit, Intrabar.favourable, Intrabar.extreme_with, Intrabar.bankruptcy_price}
use Rattle.execution.specs.{Intrabar.liquidated, Intrabar.or_liquidated, Intrabar.touched, Intrabar.closed_by, Intrabar.apply_intrabar_exits}
use Rattle.records.specs.{declared.settings.Settings.Settings, declared.state.Order.Order, declared.state.Order.TheVariants.Idle}
use Rattle.records.specs.{declared.state.Order.TheVariants.EnterLong, declared.state.Order.TheVariants.EnterShort}
use Rattle.records.specs.{declared.state.Order.TheVariants.Exit as ExitOrder, declared.state.Position.Position, Bar.funding_of}
use Rattle.engine.specs.{declared.account.Due.Due, declared.account.Due.TheVariants.Waits, declared.account.Due.TheVariants.Enters}
use Rattle.engine.specs.{declared.account.Due.TheVariants.Leaves, declared.account.Filled.Filled, Account.leaving, Account.facing, Account.entering}
use Rattle.engine.specs.{Account.due_of, Account.done_of, Account.filled, Account.intrabar, Account.charged, Books.point_of, Books.trades_of, Decide.Answers}
use Rattle.engine.specs.{Decide.state_at, Decide.ordered, Decide.order_after}
use Rattle.runs.specs.{Forgotten.forget, Forgotten.forget_trade, Forgotten.forget_exit, Forgotten.forget_position, Forgotten.forget_trades}
use Rattle.engine.specs.Account as Account
use Rattle.portfolio.specs.{declared.Closed.Closed}

-- ---- tests

portfolio_test : (b : Bool) (p q p' q' : Portfolio) → forget p ≡ forget p' → forget q ≡ forget q' → forget (cond b p q) ≡ forget (cond b p' q')
portfolio_test true p q p' q' e d = e
portfolio_test false p q p' q' e d = d

pub exit_test : (b : Bool) (x y : Option Closed) → forget_exit x ≡ forget_exit y → forget_exit (cond b x None) ≡ forget_exit (cond b y None)
exit_test true x y e = e
exit_test false x y e = refl

-- ---- the account's functions

pub forget_twice : (p : Portfolio) → forget p ≡ forget (forget p)
unfolding forget
forget_twice p = refl

-- a bar that the least favourable price takes changes nothing else
worse_test : (b : Bool) (p q : Portfolio) → forget p ≡ forget q → forget (cond b p q) ≡ forget q
worse_test true p q e = e
worse_test false p q e = refl

worse_forgets : (p : Portfolio) (k : Candle) → forget (worsened p k) ≡ forget p
unfolding worsened
worse_forgets p k = worse_test (in_position p) _ p (unfold forget in refl)

-- whether a position is open, and on which side it is left
in_forgets : (p : Portfolio) → in_position (forget p) ≡ in_position p
unfolding in_position forget
in_forgets p = refl

side_forgets : (p : Portfolio) → exit_direction (forget p) ≡ exit_direction p
unfolding exit_direction is_long forget
side_forgets p = refl

supplied_forgets : (f : Option Funding) (p : Portfolio) → forget (with_funding f p) ≡ forget (with_funding f (forget p))
unfolding with_funding funded forget
supplied_forgets None p = refl
supplied_forgets (Some funding) p = refl

funding_forgets : (on : Bool) (f : Option Funding) (p : Portfolio) → forget (charge_funding on f p) ≡ forget (charge_funding on f (forget p))
unfolding charge_funding
funding_forgets on f p =
    rw (in_forgets p)
    (portfolio_test on _ _ _ _ (portfolio_test (in_position p) _ _ _ _ (supplied_forgets f p) (forget_twice p)) (forget_twice p))

pub closed_forgets : (p : Portfolio) (price : Float) (time : ℕ) (bps : Float) (reason : ℕ)
    → forget_exit (Some (closed p price time bps reason)) ≡ forget_exit (Some (closed (forget p) price time bps reason))
unfolding forget_exit forget_trade closed exited trade_of pnl notional forget
closed_forgets p price time bps reason = refl

leave_forgets : (reason : ℕ) (raw : Float) (terms : Terms) (k : Candle) (p : Portfolio)
    → forget_exit (execute_exit reason raw terms k p) ≡ forget_exit (execute_exit reason raw terms k (forget p))
unfolding execute_exit
leave_forgets reason raw terms k p =
    rw (in_forgets p, side_forgets p) (exit_test (in_position p) _ _ (closed_forgets p _ _ _ _ ∙ (unfold forget in refl)))

or_forgets : (t : Option Trigger) (k : Candle) (r : Risk) (p : Portfolio) → or_liquidated t k r p ≡ or_liquidated t k r (forget p)
unfolding or_liquidated liquidated bankruptcy_price is_long forget
or_forgets (Some trigger) k r p = refl
or_forgets None k r p = refl

touched_forgets : (k : Candle) (r : Risk) (p : Portfolio) (e : Float) → touched k r p e ≡ touched k r (forget p) e
unfolding touched is_long forget
touched_forgets k r p e = or_forgets _ k r p

by_forgets : (t : Option Trigger) (k : Candle) (terms : Terms) (p : Portfolio) → forget_exit (closed_by t k terms p) ≡ forget_exit (closed_by t k terms (forget p))
unfolding closed_by
by_forgets None k terms p = refl
by_forgets (Some trigger) k terms p = closed_forgets p _ _ _ _

inside_forgets : (k : Candle) (terms : Terms) (p : Portfolio) (e : Float)
    → forget_exit (apply_intrabar_exits k terms p e) ≡ forget_exit (apply_intrabar_exits k terms (forget p) e)
unfolding apply_intrabar_exits
inside_forgets k terms p e =
    rw (in_forgets p)
    (exit_test (in_position p) _ _ (by_forgets (touched k terms.risk p e) k terms p ∙ rw (touched_forgets k terms.risk p e)))

extreme_forgets : (k : Candle) (p : Portfolio) (e : Float) → extreme_with k p e ≡ extreme_with k (forget p) e
unfolding extreme_with favourable in_position is_long forget
extreme_forgets k p e = refl

-- ---- the fill

entered_forgets : (q : Quantity) (dir fill bps : Float) (k : Candle) (p : Portfolio) → entry_with dir q fill bps k p ≡ entry_with dir q fill bps k (forget p)
unfolding entry_with entered forget
entered_forgets Nothing dir fill bps k p = refl
entered_forgets TooLarge dir fill bps k p = refl
entered_forgets (Of base) dir fill bps k p = refl

entry_forgets : (side : Side) (raw bps : Float) (terms : Terms) (k : Candle) (p : Portfolio) (h : History)
    → execute_entry side raw bps terms k p h ≡ execute_entry side raw bps terms k (forget p) h
unfolding execute_entry
entry_forgets side raw bps terms k p h = unfold forget in rw (entered_forgets _ _ _ bps k p)

-- fills that are the same but for the two words
pub record SameFill (f g : Filled) : Type 0 where
  pub order : f.order ≡ g.order
  pub position : forget_position f.position ≡ forget_position g.position
  pub «exit» : forget_exit f.«exit» ≡ forget_exit g.«exit»

wait_forgets : (o : Order) (p : Position) → SameFill (Account.waiting o p) (Account.waiting o (forget_position p))
unfolding forget_position forget
wait_forgets o p = record { order = refl; position = refl; «exit» = refl }

entering_forgets : (p : Position) (e : Entry) (number : ℕ) → forget_position (entering p e number) ≡ forget_position (entering (forget_position p) e number)
unfolding entering forget_position forget
entering_forgets p NoEntry number = refl
entering_forgets p Entry.TooLarge number = refl
entering_forgets p (Entered portfolio fill) number = refl

enter_forgets : (side : Side) (kind : OrderKind) (price : Float) (s : Settings) (p : Position) (k : Candle) (h : History) (number : ℕ)
    → SameFill (Account.entry_filled side kind price s p k h number) (Account.entry_filled side kind price s (forget_position p) k h number)
unfolding Account.entry_filled
enter_forgets side kind price s p k h number = record {
  order = refl;
  position = entering_forgets p _ number ∙ rw (entry_forgets side price _ s.terms k p.portfolio h) (unfold forget_position in refl);
  «exit» = refl;
}

pub leaving_forgets : (p : Position) (x : Option Closed) → forget_position (leaving p x) ≡ forget_position (leaving (forget_position p) (forget_exit x))
unfolding leaving forget_position forget_exit forget
leaving_forgets p None = refl
leaving_forgets p (Some c) = refl

-- an exit by order: over the position that has taken the bar, which is the same but for the two words
sell_exit : (s : Settings) (p : Position) (k : Candle)
    → forget_exit (Account.exit_filled s p k).«exit» ≡ forget_exit (execute_exit signal k.«open» s.terms k (forget p.portfolio))
unfolding Account.exit_filled facing
sell_exit s p k = leave_forgets _ _ _ k (worsened p.portfolio k) ∙ rw (worse_forgets p.portfolio k)

sell_position : (s : Settings) (p : Position) (k : Candle)
    → forget_position (Account.exit_filled s p k).position ≡ forget_position (leaving (forget_position p) (forget_exit (Account.exit_filled s p k).«exit»))
unfolding Account.exit_filled facing
sell_position s p k =
    leaving_forgets (facing p k) _ ∙ (unfold facing forget_position in rw (worse_forgets p.portfolio k))

sell_forgets : (s : Settings) (p : Position) (k : Candle) → SameFill (Account.exit_filled s p k) (Account.exit_filled s (forget_position p) k)
sell_forgets s p k =
    let same : forget_exit (Account.exit_filled s p k).«exit» ≡ forget_exit (Account.exit_filled s (forget_position p) k).«exit» =
    sell_exit s p k ∙ sym (sell_exit s (forget_position p) k ∙ (unfold forget_position forget in refl)) in
    record {
      order = unfold Account.exit_filled in refl;
      position = sell_position s p k ∙ rw same (sym (sell_position s (forget_position p) k ∙ (unfold forget_position forget in refl)));
      «exit» = same;
    }

due_forgets : (due : Due) (s : Settings) (p : Position) (k : Candle) (h : History) (number : ℕ)
    → SameFill (done_of due s p k h number) (done_of due s (forget_position p) k h number)
unfolding done_of
due_forgets (Waits o) s p k h number = wait_forgets o p
due_forgets (Enters side kind price) s p k h number = enter_forgets side kind price s p k h number
due_forgets Leaves s p k h number = sell_forgets s p k

-- THE FILL
pub fill_forgets : (s : Settings) (o : Order) (p : Position) (k : Candle) (h : History) (number : ℕ)
    → SameFill (filled s o p k h number) (filled s o (forget_position p) k h number)
unfolding filled
fill_forgets s o p k h number = due_forgets (due_of o k) s p k h number

-- ---- exits inside the bar

inside_exit : (s : Settings) (p : Position) (k : Candle)
    → forget_exit (intrabar s p k).«exit»
    ≡ forget_exit (apply_intrabar_exits k s.terms (forget p.portfolio) (extreme_with k (forget p.portfolio) p.extreme))
unfolding intrabar facing
inside_exit s p k =
    inside_forgets k s.terms (worsened p.portfolio k) _
    ∙ rw (extreme_forgets k (worsened p.portfolio k) p.extreme, worse_forgets p.portfolio k)

inside_position : (s : Settings) (p : Position) (k : Candle)
    → forget_position (intrabar s p k).position
    ≡ forget_position
    (leaving (record { portfolio = forget p.portfolio; entered = p.entered; extreme = extreme_with k (forget p.portfolio) p.extreme })
    (forget_exit (intrabar s p k).«exit»))
unfolding intrabar facing
inside_position s p k =
    leaving_forgets _ _
    ∙ (unfold forget_position in rw (extreme_forgets k (worsened p.portfolio k) p.extreme, worse_forgets p.portfolio k))

pub inside_same : (s : Settings) (p : Position) (k : Candle)
    → (forget_position (intrabar s p k).position ≡ forget_position (intrabar s (forget_position p) k).position)
    × (forget_exit (intrabar s p k).«exit» ≡ forget_exit (intrabar s (forget_position p) k).«exit»)
inside_same s p k =
    let same : forget_exit (intrabar s p k).«exit» ≡ forget_exit (intrabar s (forget_position p) k).«exit» =
    inside_exit s p k ∙ sym (inside_exit s (forget_position p) k ∙ (unfold forget_position forget in refl)) in
    (inside_position s p k ∙ rw same (sym (inside_position s (forget_position p) k ∙ (unfold forget_position forget in refl))), same)

-- ---- funding, the point, the decision

pub charge_forgets : (s : Settings) (p : Position) (bar : List ℕ) → forget_position (charged s p bar) ≡ forget_position (charged s (forget_position p) bar)
unfolding charged forget_position
charge_forgets s p bar = rw (funding_forgets s.funding (funding_of s.slots bar) p.portfolio)

pub point_forgets : (k : Candle) (p : Position) → point_of k p ≡ point_of k (forget_position p)
unfolding equity forget_position forget
point_forgets k p = refl

pub asked_forgets : (p : Position) (number : ℕ) → state_at p number ≡ state_at (forget_position p) number
unfolding state_at forget_position forget
asked_forgets p number = refl

pub order_forgets : (s : Settings) (o : Order) (p : Position) (number : ℕ) (close : Float) (a : Answers)
    → order_after s o p number close a ≡ order_after s o (forget_position p) number close a
unfolding order_after ordered in_position is_long forget_position forget
order_forgets s Idle p number close a = refl
order_forgets s (EnterLong n kind) p number close a = refl
order_forgets s (EnterShort n kind) p number close a = refl
order_forgets s (ExitOrder n) p number close a = refl

-- ---- trades

pub trades_append : (xs ys : List Trade) → forget_trades (xs ++ ys) ≡ forget_trades xs ++ forget_trades ys
unfolding forget_trades
trades_append [] ys = refl
trades_append (x ∷ xs) ys = rw (trades_append xs ys)

-- the trade of an exit
pub trade_forgets : (x : Option Closed) → forget_trades (trades_of x) ≡ trades_of (forget_exit x)
unfolding forget_trades trades_of forget_exit
trade_forgets None = refl
trade_forgets (Some c) = refl
