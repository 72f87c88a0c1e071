-- Entry orders work only while flat. So a position that a bar finds keeps its entry bar through the bar's fill, and one that the fill opens has this bar's.
use Rattle.std.specs.Prelude.{ℕ, ◌-◌, ◌≡◌, refl, Bool, true, false, cond, ltb, List, Float, None, Option, Some}
use Rattle.words.specs.Prelude.{sym, ◌∙◌, false≢true, arith}
use Rattle.rows.specs.{History.History}
use Rattle.portfolio.specs.{declared.Candle.Candle, declared.Portfolio.Portfolio, Portfolio.in_position, Portfolio.is_long, Portfolio.worsened}
use Rattle.execution.specs.{declared.fills.Entry.Entry}
use Rattle.execution.specs.{declared.level.Side.Side, declared.level.OrderKind.OrderKind, Intrabar.apply_intrabar_exits}
use Rattle.execution.specs.{Level.entry_trigger}
use Rattle.records.specs.{declared.settings.Settings.Settings, declared.state.Order.Order, declared.state.Order.TheVariants.Idle}
use Rattle.records.specs.{declared.state.Order.TheVariants.EnterLong, declared.state.Order.TheVariants.EnterShort}
use Rattle.records.specs.{declared.state.Order.TheVariants.Exit as ExitOrder, declared.state.Position.Position, declared.state.State.State, Bar.candle_of}
use Rattle.records.specs.{Bar.funding_of, Lent.Lists, Lent.Rooms, State.fresh_state}
use Rattle.engine.specs.{declared.account.Due.Due, declared.account.Due.TheVariants.Waits, declared.account.Due.TheVariants.Enters}
use Rattle.engine.specs.{declared.account.Due.TheVariants.Leaves, Account.leaving, Account.facing, Account.entering}
use Rattle.engine.specs.{Account.due_of, Account.done_of, Account.filled, Account.intrabar, Account.charged, Decide.Answers, Decide.opening_order}
use Rattle.engine.specs.{Decide.closing_order, Decide.ordered, Decide.order_after, Decide.decided, Laws.Runs.run_keeps, Run.run_over, Step.fill_of, Step.stepped}
use Rattle.trades.specs.{NoDust.worsened_keeps, NoDust.charge_keeps}
use Rattle.engine.specs.Account as Account
use Rattle.portfolio.specs.{declared.Closed.Closed}

unfoldable pub is_entry : Order → Bool
is_entry Idle = false
is_entry (EnterLong n kind) = true
is_entry (EnterShort n kind) = true
is_entry (ExitOrder n) = false

-- an entry order works only where nothing is held
pub record OnlyFlat (o : Order) (p : Position) : Type 0 where
  pub flat : is_entry o ≡ true → in_position p.portfolio ≡ false

none : {A : Type 0} → false ≡ true → A
none e = absurd (false≢true e)

-- ---- what a fill leaves of it

-- an order that waits is an entry only where it was one
waits_entry : (o : Order) (k : Candle) (later : Order) → due_of o k ≡ Waits later → is_entry later ≡ true → is_entry o ≡ true
unfolding is_entry due_of
waits_entry Idle k later e h = let same : Idle ≡ later = cc in rw (sym same) at h
waits_entry (EnterLong n kind) k later e h = refl
waits_entry (EnterShort n kind) k later e h = refl
waits_entry (ExitOrder n) k later e h = go (ltb 0 n) e
  where
    go : (b : Bool) → cond b (Waits (ExitOrder (n - 1))) Leaves ≡ Waits later → false ≡ true
    go true e = let same : ExitOrder (n - 1) ≡ later = cc in rw (sym same) at h
    go false e = absurd (let z : ◌≡◌ {A = ℕ} 0 1 = cc in omega arith)

-- an entry that is due is that of an entry order
enters_entry : (o : Order) (k : Candle) (side : Side) (kind : OrderKind) (price : Float) → due_of o k ≡ Enters side kind price → is_entry o ≡ true
unfolding is_entry due_of
enters_entry Idle k side kind price e = absurd (let z : ◌≡◌ {A = ℕ} 0 1 = cc in omega arith)
enters_entry (EnterLong n own) k side kind price e = refl
enters_entry (EnterShort n own) k side kind price e = refl
enters_entry (ExitOrder n) k side kind price e = go (ltb 0 n) e
  where
    go : (b : Bool) → cond b (Waits (ExitOrder (n - 1))) Leaves ≡ Enters side kind price → false ≡ true
    go true e = absurd (let z : ◌≡◌ {A = ℕ} 0 1 = cc in omega arith)
    go false e = absurd (let z : ◌≡◌ {A = ℕ} 0 1 = cc in omega arith)

filled-flat : (s : Settings) (o : Order) (p : Position) (k : Candle) (h : History) (number : ℕ) → OnlyFlat o p
    → OnlyFlat (filled s o p k h number).order (filled s o p k h number).position
unfolding filled done_of Account.entry_filled Account.exit_filled is_entry
filled-flat s o p k h number i = go (due_of o k) refl
  where
    go : (due : Due) → due_of o k ≡ due → OnlyFlat (done_of due s p k h number).order (done_of due s p k h number).position
    go (Waits later) e = record { flat = λ x. i.flat (waits_entry o k later e x) }
    go (Enters side kind price) e = record { flat = λ x. none x }
    go Leaves e = record { flat = λ x. none x }

-- ---- what the rest of a bar leaves of it

same_quantity : (p q : Portfolio) → p.qty ≡ q.qty → in_position p ≡ in_position q
unfolding in_position
same_quantity p q e = rw e

inside_flat : (s : Settings) (p : Position) (k : Candle) → in_position p.portfolio ≡ false → in_position (intrabar s p k).position.portfolio ≡ false
unfolding intrabar apply_intrabar_exits leaving facing
inside_flat s p k h =
    let f : in_position (worsened p.portfolio k) ≡ false = same_quantity _ _ (worsened_keeps p.portfolio k) ∙ h in
    rw f f

charged-flat : (s : Settings) (p : Position) (bar : List ℕ) → in_position p.portfolio ≡ false → in_position (charged s p bar).portfolio ≡ false
unfolding charged
charged-flat s p bar h = same_quantity _ _ (charge_keeps s.funding (funding_of s.slots bar) p.portfolio) ∙ h

closing_none : (delay : ℕ) (b : Bool) → is_entry (closing_order delay b) ≡ true → ⊥
unfolding is_entry closing_order
closing_none delay true e = none e
closing_none delay false e = none e

ordered-flat : (delay : ℕ) (kind : OrderKind) (p : Position) (a : Answers) → OnlyFlat (ordered delay kind p.portfolio a) p
unfolding ordered
ordered-flat delay kind p a = go (in_position p.portfolio) refl
  where
    closes : (long : Bool) → is_entry (cond long (closing_order delay a.«exit») (closing_order delay a.short_exit)) ≡ true → ⊥
    closes true e = closing_none delay _ e
    closes false e = closing_none delay _ e

    go : (b : Bool) → in_position p.portfolio ≡ b
        → OnlyFlat (cond b (cond (is_long p.portfolio) (closing_order delay a.«exit») (closing_order delay a.short_exit))
        (opening_order delay kind a.entry a.short_entry)) p
    go true e = record { flat = λ x. absurd (closes (is_long p.portfolio) x) }
    go false e = record { flat = λ x. e }

after_flat : (s : Settings) (o : Order) (p : Position) (number : ℕ) (close : Float) (a : Answers)
    → (is_entry o ≡ true → in_position p.portfolio ≡ false) → OnlyFlat (order_after s o p number close a) p
unfolding order_after is_entry
after_flat s (EnterLong n kind) p number close a h = record { flat = h }
after_flat s (EnterShort n kind) p number close a h = record { flat = h }
after_flat s (ExitOrder n) p number close a h = record { flat = λ x. none x }
after_flat s Idle p number close a h = go (ltb number s.warmup)
  where
    go : (b : Bool) → OnlyFlat (cond b Idle (ordered s.delay (entry_trigger s.entries close) p.portfolio a)) p
    go true = record { flat = λ x. none x }
    go false = ordered-flat s.delay _ p a

step_flat : (s : Settings) (t : State) (bar : List ℕ) (m : Rooms) (ls : Lists) → OnlyFlat t.order t.position
    → OnlyFlat (stepped s t bar m ls).result.order (stepped s t bar m ls).result.position
unfolding stepped decided
step_flat s t bar m ls h =
    let f = filled-flat s t.order t.position (candle_of bar) _ _ h in
    after_flat s _ _ _ _ _ (λ x. charged-flat s _ bar (inside_flat s _ (candle_of bar) (f.flat x)))

fresh_flat : (s : Settings) → OnlyFlat (fresh_state s).order (fresh_state s).position
unfolding fresh_state is_entry
fresh_flat s = record { flat = λ x. none x }

-- ENTRY ORDERS WORK ONLY WHILE FLAT: after any bars from a fresh state
pub only_flat : (s : Settings) (ls : Lists) (m : Rooms) (bars : List (List ℕ))
    → let t = (run_over s ls (fresh_state s) m bars).state in
    OnlyFlat t.order t.position
only_flat s ls m bars =
    run_keeps s ls (λ t n. OnlyFlat t.order t.position) (λ t n bar fine h. step_flat s t bar n ls h) bars (fresh_state s) m (fresh_flat s)

-- ---- the entry bar that a fill leaves

-- that which the bar found; this bar's, where it found nothing held; or none, where an order left the position
pub data LeftBy (t : State) (e : Option ℕ) : Type 0 where
  kept : e ≡ t.position.entered → LeftBy t e
  opened : in_position t.position.portfolio ≡ false → e ≡ Some t.counts.bars_seen → LeftBy t e
  emptied : e ≡ None → LeftBy t e

entry_leaves : (t : State) (e : Entry) → in_position t.position.portfolio ≡ false → LeftBy t (entering t.position e t.counts.bars_seen).entered
unfolding entering
entry_leaves t Entry.NoEntry f = kept refl
entry_leaves t Entry.TooLarge f = kept refl
entry_leaves t (Entry.Entered q fill) f = opened f refl

exit_leaves : (t : State) (k : Candle) (x : Option Closed) → LeftBy t (leaving (facing t.position k) x).entered
unfolding leaving facing
exit_leaves t k None = kept refl
exit_leaves t k (Some c) = emptied refl

fill_leaves : (s : Settings) (t : State) (k : Candle) (h : History) → OnlyFlat t.order t.position
    → LeftBy t (filled s t.order t.position k h t.counts.bars_seen).position.entered
unfolding filled done_of Account.entry_filled Account.exit_filled
fill_leaves s t k h i = go (due_of t.order k) refl
  where
    go : (due : Due) → due_of t.order k ≡ due → LeftBy t (done_of due s t.position k h t.counts.bars_seen).position.entered
    go (Waits later) e = kept refl
    go (Enters side kind price) e = entry_leaves t _ (i.flat (enters_entry t.order k side kind price e))
    go Leaves e = exit_leaves t k _

-- OF EVERY BAR of a run from a fresh state
pub fill_entry_bar : (s : Settings) (ls : Lists) (m : Rooms) (bars : List (List ℕ)) (bar : List ℕ)
    → let r = run_over s ls (fresh_state s) m bars in
    LeftBy r.state (fill_of s r.state bar r.rooms).position.entered
fill_entry_bar s ls m bars bar = fill_leaves s _ (candle_of bar) _ (only_flat s ls m bars)
