-- Request 6: in every run, a trade's last two words are those of the bars from its entry bar on.
use Rattle.std.specs.Prelude.{ℕ, ◌≡◌, refl, Bool, true, false, cond, List, [], ◌∷◌, ◌++◌, Float, length, take, None, Ok, Option, Some}
use Rattle.words.specs.Prelude.{sym, ap, ◌∙◌, append-nil, append_assoc, arith}
use Rattle.words.specs.Prelude.{length-append}
use Rattle.floats.specs.{Floats.◌⊗◌, Floats.◌≺◌, Floats.eps, Floats.zero}
use Rattle.rows.specs.{History.History, History.history_of}
use Rattle.portfolio.specs.{declared.Candle.Candle, declared.Closed.Closed, declared.Portfolio.Portfolio, declared.Trade.Trade, Portfolio.fresh}
use Rattle.portfolio.specs.{Portfolio.in_position, Portfolio.is_long, Portfolio.funded, Portfolio.worse, Portfolio.worsened, Portfolio.entered, Portfolio.trade_of}
use Rattle.portfolio.specs.{Portfolio.exited, Trade.signal, Trade.end}
use Rattle.execution.specs.{declared.fills.Entry.Entry, declared.fills.Entry.TheVariants.NoEntry, declared.fills.Entry.TheVariants.Entered}
use Rattle.execution.specs.{declared.costs.Funding.Funding}
use Rattle.execution.specs.{declared.lots.Quantity.Quantity, declared.lots.Quantity.TheVariants.Nothing}
use Rattle.execution.specs.{declared.lots.Quantity.TheVariants.TooLarge, declared.lots.Quantity.TheVariants.Of, declared.level.Side.Side}
use Rattle.execution.specs.{declared.level.OrderKind.OrderKind, declared.terms.Terms.Terms, declared.intrabar.Trigger.Trigger}
use Rattle.execution.specs.{Costs.slippage_rate, Costs.fill_price}
use Rattle.execution.specs.{Costs.fee_rate, Costs.closed, Costs.with_funding, Costs.charge_funding, Fills.direction, Fills.volatility_for, Fills.quantity}
use Rattle.execution.specs.{Fills.probe_qty, Fills.within_volume, Fills.entry_with, Fills.execute_entry, Fills.exit_direction, Fills.execute_exit, Lots.is_too_large}
use Rattle.execution.specs.{Lots.or_zero, Intrabar.touched, Intrabar.closed_by, Intrabar.apply_intrabar_exits, Intrabar.extreme_with}
use Rattle.records.specs.{declared.settings.Settings.Settings, declared.state.Order.Order, declared.state.Position.Position, declared.state.State.State}
use Rattle.records.specs.{Bar.candle_of, Bar.funding_of, Lent.Lists, Lent.Rooms, State.fresh_state}
use Rattle.refusals.specs.{Laws.Lines.and_true, Rooms.to_close}
use Rattle.engine.specs.{declared.account.Due.Due, declared.account.Due.TheVariants.Waits, declared.account.Due.TheVariants.Enters}
use Rattle.engine.specs.{declared.account.Due.TheVariants.Leaves, declared.account.Filled.Filled, Account.leaving, Account.facing, Account.entering}
use Rattle.engine.specs.{Account.due_of, Account.done_of, Account.filled, Account.intrabar, Account.charged, Books.Point, Books.trades_of, Boxes.Grown}
use Rattle.engine.specs.{Finish.last_exit, Laws.Verdict.verdict_fine, Record.row_of, Run.Run, Run.run_over, Step.fill_of, Step.stepped, Step.step_verdict}
use Rattle.engine.specs.{Whole.Account, Whole.account_of, Whole.Asked, Whole.by_lists, Whole.rows_held, Whole.taken_by, Whole.taken, Whole.whole_run_by}
use Rattle.engine.specs.{Whole.whole_run}
use Rattle.runs.specs.{During.worst_over, During.paid_with, During.paid_over, Laws.OneTrade.closed_is_flat, Laws.BooksGrow.books_grow}
use Rattle.runs.specs.{Laws.Follows.run_follows, WholeHistory.fresh_follows}
use Rattle.std.specs.Float.Ieee as Ieee
use Rattle.floats.specs.Floats as Floats
use Rattle.engine.specs.Account as Account

-- ---- what is said

-- the time of the first of these bars
abbrev pub first_time : List (List ℕ) → ℕ
first_time [] = 0
first_time (bar ∷ bars) = (candle_of bar).time

-- A trade that is closed on `bar`, after `bars`, of a position with the entry bar e: `since` are its bars up to the one before this, the entry bar the first.
pub record Recorded (s : Settings) (bars : List (List ℕ)) (bar : List ℕ) (e : Option ℕ) (t : Trade) : Type 0 where
  pub before : List (List ℕ)
  pub since : List (List ℕ)
  pub split : bars ≡ before ++ since
  -- times may repeat, the numbers of bars do not
  pub entry : e ≡ Some (length before)
  pub time : t.entry_time ≡ first_time (since ++ (bar ∷ []))
  -- up to and with the closing bar
  pub worst : t.worst ≡ worst_over (zero ≺ t.qty) t.entry_price (since ++ (bar ∷ []))
  -- the closing bar charges nothing
  pub funding : t.funding ≡ paid_over s t.qty zero since

-- of each trade
unfoldable pub Each : (Trade → Type 0) → List Trade → Type 0
Each P [] = Unit {0}
Each P (t ∷ ts) = P t × Each P ts

-- an open position that has been through `since`, and whose least favourable price has been through what `seen` makes of them
record Through (seen : List (List ℕ) → List (List ℕ)) (s : Settings) (bars : List (List ℕ)) (bar : List ℕ) (e : Option ℕ) (p : Portfolio) : Type 0 where
  before : List (List ℕ)
  since : List (List ℕ)
  split : bars ≡ before ++ since
  entry : e ≡ Some (length before)
  time : p.entry_time ≡ first_time (since ++ (bar ∷ []))
  worst : p.worst ≡ worst_over (zero ≺ p.qty) p.entry_price (seen since)
  funding : p.funding ≡ paid_over s p.qty zero since

-- as a bar finds it
abbrev Met : Settings → List (List ℕ) → List ℕ → Option ℕ → Portfolio → Type 0
Met s bars bar = Through (λ since. since) s bars bar

-- and when its least favourable price has taken the bar
abbrev Taking : Settings → List (List ℕ) → List ℕ → Option ℕ → Portfolio → Type 0
Taking s bars bar = Through (λ since. since ++ (bar ∷ [])) s bars bar

-- and between two bars: `bars` are all so far
record Open (s : Settings) (bars : List (List ℕ)) (e : Option ℕ) (p : Portfolio) : Type 0 where
  before : List (List ℕ)
  first : List ℕ
  rest : List (List ℕ)
  split : bars ≡ before ++ (first ∷ rest)
  entry : e ≡ Some (length before)
  time : p.entry_time ≡ first_time (first ∷ rest)
  worst : p.worst ≡ worst_over (zero ≺ p.qty) p.entry_price (first ∷ rest)
  funding : p.funding ≡ paid_over s p.qty zero (first ∷ rest)

-- ---- a bar more

worst_more : (long : Bool) (price : Float) (bars : List (List ℕ)) (bar : List ℕ)
    → worst_over long price (bars ++ (bar ∷ [])) ≡ worse (candle_of bar) (worst_over long price bars) long
unfolding worst_over
worst_more long price [] bar = refl
worst_more long price (b ∷ bars) bar = worst_more long (worse (candle_of b) price long) bars bar

paid_more : (s : Settings) (qty sum : Float) (bars : List (List ℕ)) (bar : List ℕ)
    → paid_over s qty sum (bars ++ (bar ∷ []))
    ≡ cond s.funding (paid_with (funding_of s.slots bar) qty (paid_over s qty sum bars)) (paid_over s qty sum bars)
unfolding paid_over
paid_more s qty sum [] bar = refl
paid_more s qty sum (b ∷ bars) bar =
    paid_more s qty (cond s.funding (paid_with (funding_of s.slots b) qty sum) sum) bars bar

-- ---- trades

exit_of : (b : Bool) (x : Option Closed) (P : Trade → Type 0) → Each P (trades_of x) → Each P (trades_of (cond b x None))
unfolding Each trades_of
exit_of true x P h = h
exit_of false x P h = tt

one_each : (c : Closed) (P : Trade → Type 0) → P c.trade → Each P (trades_of (Some c))
unfolding Each trades_of
one_each c P h = (h, tt)

trigger_of : (t : Option Trigger) (k : Candle) (terms : Terms) (q : Portfolio) (P : Trade → Type 0)
    → ((price : Float) (reason : ℕ) → P (closed q price k.time terms.taker_bps reason).trade) → Each P (trades_of (closed_by t k terms q))
unfolding closed_by Each trades_of
trigger_of None k terms q P h = tt
trigger_of (Some trigger) k terms q P h = (h trigger.price trigger.reason, tt)

-- of an exit by order, and of one inside a bar
by_order_each : (reason : ℕ) (raw : Float) (terms : Terms) (k : Candle) (q : Portfolio) (P : Trade → Type 0)
    → ((price : Float) → P (closed q price k.time terms.taker_bps reason).trade) → Each P (trades_of (execute_exit reason raw terms k q))
unfolding execute_exit
by_order_each reason raw terms k q P h =
    let price : Float = fill_price raw (exit_direction q) (slippage_rate terms.slippage q.qty k.volume) in
    let c : Closed = closed q price k.time terms.taker_bps reason in
    exit_of (in_position q) (Some c) P (one_each c P (h price))

inside_each : (k : Candle) (terms : Terms) (q : Portfolio) (e : Float) (P : Trade → Type 0)
    → ((price : Float) (reason : ℕ) → P (closed q price k.time terms.taker_bps reason).trade) → Each P (trades_of (apply_intrabar_exits k terms q e))
unfolding apply_intrabar_exits
inside_each k terms q e P h =
    let t : Option Trigger = touched k terms.risk q e in
    exit_of (in_position q) (closed_by t k terms q) P (trigger_of t k terms q P h)

-- a flat position stays as it is
flat_stays : (p : Portfolio) (k : Candle) → in_position p ≡ false → worsened p k ≡ p
unfolding worsened
flat_stays p k h = rw h

two_sides : {A : Type 0} (b : Bool) → b ≡ true → b ≡ false → A
two_sides true h k = absurd (let z : ◌≡◌ {A = ℕ} 0 1 = cc in omega arith)
two_sides false h k = absurd (let z : ◌≡◌ {A = ℕ} 0 1 = cc in omega arith)

by_side : {A : Type 0} (b : Bool) → (b ≡ true → A) → (b ≡ false → A) → A
by_side true h k = h refl
by_side false h k = k refl

-- a position that is open after the exits inside a bar was not left
left_open : (b : Bool) (t : Option Trigger) (k : Candle) (terms : Terms) (q : Position)
    → in_position (leaving q (cond b (closed_by t k terms q.portfolio) None)).portfolio ≡ true
    → leaving q (cond b (closed_by t k terms q.portfolio) None) ≡ q
unfolding leaving closed_by
left_open false t k terms q h = refl
left_open true None k terms q h = refl
left_open true (Some trigger) k terms q h = two_sides _ h (closed_is_flat _ _ _ _ _)

-- ---- the fill

-- what an entry sets
abbrev Begun : Candle → Portfolio → Type 0
Begun k p = (p.funding ≡ zero) × (p.worst ≡ p.entry_price) × (p.entry_time ≡ k.time)

begun_by : (b : Bool) (k : Candle) (q p : Portfolio) (fill f : Float) → Begun k q → cond b (Entered q fill) NoEntry ≡ Entered p f → Begun k p
begun_by true k q p fill f h e = let same : q ≡ p = cc in rw (← same) h
begun_by false k q p fill f h e = absurd (let z : ◌≡◌ {A = ℕ} 0 1 = cc in omega arith)

entered_begun : (p : Portfolio) (qty price : Float) (k : Candle) (fee : Float) → Begun k (entered p qty price k.time fee)
unfolding entered
entered_begun p qty price k fee = (refl, refl, refl)

begun : (x : Quantity) (dir fill bps : Float) (k : Candle) (p q : Portfolio) (f : Float) → entry_with dir x fill bps k p ≡ Entered q f → Begun k q
unfolding entry_with
begun Nothing dir fill bps k p q f e = absurd (let z : ◌≡◌ {A = ℕ} 0 1 = cc in omega arith)
begun TooLarge dir fill bps k p q f e = absurd (let z : ◌≡◌ {A = ℕ} 0 1 = cc in omega arith)
begun (Of base) dir fill bps k p q f e =
    let fee : Float = base ⊗ fill ⊗ fee_rate bps in
    begun_by (eps ≺ base) k (entered p (dir ⊗ base) fill k.time fee) q fill f (entered_begun p (dir ⊗ base) fill k fee) e

begun_if : (large : Bool) (k : Candle) (x : Entry) (q : Portfolio) (f : Float) → (x ≡ Entered q f → Begun k q) → cond large Entry.TooLarge x ≡ Entered q f
    → Begun k q
begun_if true k x q f h e = absurd (let z : ◌≡◌ {A = ℕ} 0 1 = cc in omega arith)
begun_if false k x q f h e = h e

entry_begun : (side : Side) (raw bps : Float) (terms : Terms) (k : Candle) (p : Portfolio) (h : History) (q : Portfolio) (f : Float)
    → execute_entry side raw bps terms k p h ≡ Entered q f → Begun k q
unfolding execute_entry
entry_begun side raw bps terms k p h q f e =
    let rv : Option Float = volatility_for terms.sizing h in
    let probe : Quantity = probe_qty terms.slippage terms p.cash raw rv in
    let fill : Float = fill_price raw (direction side) (slippage_rate terms.slippage (or_zero probe) k.volume) in
    let sized : Quantity = within_volume terms (quantity terms p.cash fill rv) k.volume in
    begun_if (is_too_large probe) k (entry_with (direction side) sized fill bps k p) q f (begun sized (direction side) fill bps k p q f) e

module _ (s : Settings) (bars : List (List ℕ)) (bar : List ℕ) where
  -- the bar is taken
  taking : (e : Option ℕ) (p : Portfolio) → in_position p ≡ true → Met s bars bar e p → Taking s bars bar e (worsened p (candle_of bar))
  unfolding worsened is_long
  taking e p h m = rw h (record {
    before = m.before;
    since = m.since;
    split = m.split;
    entry = m.entry;
    time = m.time;
    worst = rw m.worst (sym (worst_more (zero ≺ p.qty) p.entry_price m.since bar));
    funding = m.funding;
  })

  -- a trade that is closed then
  closing : (e : Option ℕ) (q : Portfolio) (price : Float) (time : ℕ) (bps : Float) (reason : ℕ) → Taking s bars bar e q
      → Recorded s bars bar e (closed q price time bps reason).trade
  unfolding closed exited trade_of
  closing e q price time bps reason m =
      record { before = m.before; since = m.since; split = m.split; entry = m.entry; time = m.time; worst = m.worst; funding = m.funding }

  -- a position that is met so, where it is open
  abbrev MetIfOpen : Position → Type 0
  MetIfOpen p = in_position p.portfolio ≡ true → Met s bars bar p.entered p.portfolio

  module _ (p : Position) (met : MetIfOpen p) where
    by_order_open : in_position p.portfolio ≡ true → Each (Recorded s bars bar p.entered) (trades_of (Account.exit_filled s p (candle_of bar)).«exit»)
    unfolding Account.exit_filled facing
    by_order_open e =
        let q : Portfolio = worsened p.portfolio (candle_of bar) in
        by_order_each signal (candle_of bar).«open» s.terms (candle_of bar) q (Recorded s bars bar p.entered)
        (λ price. closing p.entered q price (candle_of bar).time s.terms.taker_bps signal (taking p.entered p.portfolio e (met e)))

    by_order_none : in_position p.portfolio ≡ false → Each (Recorded s bars bar p.entered) (trades_of (Account.exit_filled s p (candle_of bar)).«exit»)
    unfolding Account.exit_filled facing execute_exit Each trades_of
    by_order_none e = rw (flat_stays p.portfolio (candle_of bar) e, e) tt

    by_order_lem : Each (Recorded s bars bar p.entered) (trades_of (Account.exit_filled s p (candle_of bar)).«exit»)
    by_order_lem = by_side (in_position p.portfolio) by_order_open by_order_none

    -- and nothing is open then
    by_order_flat : in_position (Account.exit_filled s p (candle_of bar)).position.portfolio ≡ false
    by_order_flat = go (in_position (worsened p.portfolio (candle_of bar))) refl
      where
        go : (b : Bool) → in_position (worsened p.portfolio (candle_of bar)) ≡ b
            → in_position (Account.exit_filled s p (candle_of bar)).position.portfolio ≡ false
        go true e = unfold Account.exit_filled facing execute_exit leaving in rw e (closed_is_flat _ _ _ _ _)
        go false e = unfold Account.exit_filled facing execute_exit leaving in rw e e

    -- what a fill leaves
    abbrev Filling : Filled → Type 0
    Filling f = MetIfOpen f.position × Each (Recorded s bars bar p.entered) (trades_of f.«exit»)

    waits : (o : Order) → Filling (Account.waiting o p)
    unfolding Each trades_of
    waits o = (met, tt)

    entering_met : (e : Entry) (number : ℕ) → number ≡ length bars → ((q : Portfolio) (f : Float) → e ≡ Entered q f → Begun (candle_of bar) q)
        → MetIfOpen (entering p e number)
    unfolding entering worst_over paid_over
    entering_met NoEntry number n b = met
    entering_met Entry.TooLarge number n b = met
    entering_met (Entered q f) number n b =
        let first = b q f refl in
        λ h. record {
          before = bars;
          since = [];
          split = sym (append-nil bars);
          entry = ap Some n;
          time = first.2;
          worst = first.1;
          funding = first.0;
        }

    enters : (side : Side) (kind : OrderKind) (price : Float) (h : History) (number : ℕ) → number ≡ length bars
        → Filling (Account.entry_filled side kind price s p (candle_of bar) h number)
    unfolding Account.entry_filled Each trades_of
    enters side kind price h number n = (entering_met _ number n (λ q f e. entry_begun side price _ _ (candle_of bar) p.portfolio h q f e), tt)

    leaves : Filling (Account.exit_filled s p (candle_of bar))
    leaves = (λ h. two_sides _ h by_order_flat, by_order_lem)

    does : (due : Due) (h : History) (number : ℕ) → number ≡ length bars → Filling (done_of due s p (candle_of bar) h number)
    unfolding done_of
    does (Waits o) h number n = waits o
    does (Enters side kind price) h number n = enters side kind price h number n
    does Leaves h number n = leaves

    fills : (o : Order) (h : History) (number : ℕ) → number ≡ length bars → Filling (filled s o p (candle_of bar) h number)
    unfolding filled
    fills o h number n = does (due_of o (candle_of bar)) h number n

    -- ---- inside the bar

    inside_open : in_position p.portfolio ≡ true → Each (Recorded s bars bar p.entered) (trades_of (intrabar s p (candle_of bar)).«exit»)
    unfolding intrabar facing
    inside_open e =
        let q : Portfolio = worsened p.portfolio (candle_of bar) in
        inside_each (candle_of bar) s.terms q (extreme_with (candle_of bar) q p.extreme) (Recorded s bars bar p.entered)
        (λ price reason. closing p.entered q price (candle_of bar).time s.terms.taker_bps reason (taking p.entered p.portfolio e (met e)))

    inside_none : in_position p.portfolio ≡ false → Each (Recorded s bars bar p.entered) (trades_of (intrabar s p (candle_of bar)).«exit»)
    unfolding intrabar facing apply_intrabar_exits Each trades_of
    inside_none e = rw (flat_stays p.portfolio (candle_of bar) e, e) tt

    inside : Each (Recorded s bars bar p.entered) (trades_of (intrabar s p (candle_of bar)).«exit»)
    inside = by_side (in_position p.portfolio) inside_open inside_none

    -- a position that is left open inside the bar has taken it
    abbrev Stays : Type 0
    Stays =
        in_position (intrabar s p (candle_of bar)).position.portfolio ≡ true
        → Taking s bars bar (intrabar s p (candle_of bar)).position.entered (intrabar s p (candle_of bar)).position.portfolio

    stays_open : in_position p.portfolio ≡ true → Stays
    unfolding intrabar facing apply_intrabar_exits
    stays_open e h =
        let q : Portfolio = worsened p.portfolio (candle_of bar) in
        let x : Float = extreme_with (candle_of bar) q p.extreme in
        rw (left_open (in_position q) (touched (candle_of bar) s.terms.risk q x) (candle_of bar) s.terms
        (record { portfolio = q; entered = p.entered; extreme = x }) h)
        (taking p.entered p.portfolio e (met e))

    flat_inside : in_position p.portfolio ≡ false → in_position (intrabar s p (candle_of bar)).position.portfolio ≡ false
    unfolding intrabar facing apply_intrabar_exits leaving
    flat_inside e = rw (flat_stays p.portfolio (candle_of bar) e, e) e

    still_open : Stays
    still_open = by_side (in_position p.portfolio) stays_open (λ e h. two_sides _ h (flat_inside e))

-- ---- funding

-- funding changes no quantity
charge_keeps : (on : Bool) (f : Option Funding) (p : Portfolio) → in_position (charge_funding on f p) ≡ in_position p
unfolding charge_funding
charge_keeps on f p = go on (in_position p) f
  where
    go : (on b : Bool) (f : Option Funding) → in_position (cond on (cond b (with_funding f p) p) p) ≡ in_position p
    go true true None = unfold with_funding in refl
    go true true (Some funding) = unfold with_funding funded in_position in refl
    go true false f = refl
    go false b f = refl

-- the bars with this one, the entry bar first
record Led (bars : List (List ℕ)) : Type 0 where
  first : List ℕ
  rest : List (List ℕ)
  same : bars ≡ first ∷ rest

led : (since : List (List ℕ)) (bar : List ℕ) → Led (since ++ (bar ∷ []))
led [] bar = record { first = bar; rest = []; same = refl }
led (b ∷ since) bar = record { first = b; rest = since ++ (bar ∷ []); same = refl }

-- what it leaves of an open position
record Charged (on : Bool) (f : Option Funding) (p q : Portfolio) : Type 0 where
  time : q.entry_time ≡ p.entry_time
  qty : q.qty ≡ p.qty
  price : q.entry_price ≡ p.entry_price
  worst : q.worst ≡ p.worst
  funding : q.funding ≡ cond on (paid_with f p.qty p.funding) p.funding

charge_words : (on : Bool) (f : Option Funding) (p : Portfolio) → in_position p ≡ true → Charged on f p (charge_funding on f p)
unfolding charge_funding with_funding funded paid_with
charge_words true None p h = rw h (record { time = refl; qty = refl; price = refl; worst = refl; funding = refl })
charge_words true (Some funding) p h = rw h (record { time = refl; qty = refl; price = refl; worst = refl; funding = refl })
charge_words false f p h = record { time = refl; qty = refl; price = refl; worst = refl; funding = refl }

module _ (s : Settings) (bars : List (List ℕ)) (bar : List ℕ) where
  charging : (e : Option ℕ) (p : Portfolio) → in_position p ≡ true → Taking s bars bar e p
      → Open s (bars ++ (bar ∷ [])) e (charge_funding s.funding (funding_of s.slots bar) p)
  charging e p h m =
      let w = charge_words s.funding (funding_of s.slots bar) p h in
      let l = led m.since bar in
      record {
        before = m.before;
        first = l.first;
        rest = l.rest;
        split = rw (m.split, ← l.same) (append_assoc m.before m.since (bar ∷ []));
        entry = m.entry;
        time = w.time ∙ m.time ∙ rw l.same;
        worst = rw (w.worst, w.qty, w.price, ← l.same) m.worst;
        funding = rw (w.funding, w.qty, ← l.same, m.funding) (sym (paid_more s p.qty zero m.since bar));
      }

  meeting : (e : Option ℕ) (p : Portfolio) → Open s bars e p → Met s bars bar e p
  meeting e p o = record {
    before = o.before;
    since = o.first ∷ o.rest;
    split = o.split;
    entry = o.entry;
    time = o.time;
    worst = o.worst;
    funding = o.funding;
  }

-- ---- bar after bar

-- what a run has after `bars`
abbrev Lives : Settings → List (List ℕ) → Account → Type 0
Lives s bars a =
    (a.seen ≡ length bars) × (in_position a.position.portfolio ≡ true → Open s bars a.position.entered a.position.portfolio)

-- A BAR: it is so again, and each trade that the bar closes is recorded so: one that the order leaves with the entry bar that the bar found, one that is left
-- inside the bar with the one that the fill left
bar_lives : (s : Settings) (asked : Asked) (bars : List (List ℕ)) (bar : List ℕ) (a : Account) (rows : List ℕ) → Lives s bars a
    → let f = filled s a.order a.position (candle_of bar) (history_of s.slots rows) a.seen in
    Lives s (bars ++ (bar ∷ [])) (taken s asked a rows bar).account
    × Each (Recorded s bars bar a.position.entered) (trades_of f.«exit»)
    × Each (Recorded s bars bar f.position.entered) (trades_of (intrabar s f.position (candle_of bar)).«exit»)
unfolding taken_by charged
bar_lives s asked bars bar a rows l =
    let met : in_position a.position.portfolio ≡ true → Met s bars bar a.position.entered a.position.portfolio =
    λ h. meeting s bars bar a.position.entered a.position.portfolio (l.1 h) in
    let f = filled s a.order a.position (candle_of bar) (history_of s.slots rows) a.seen in
    let fine = fills s bars bar a.position met a.order (history_of s.slots rows) a.seen l.0 in
    let x = intrabar s f.position (candle_of bar) in (
      (
        omega (arith, l.0, length-append bars (bar ∷ [])),
        λ h.
            let «open» : in_position x.position.portfolio ≡ true = sym (charge_keeps s.funding (funding_of s.slots bar) x.position.portfolio) ∙ h in
            charging s bars bar x.position.entered x.position.portfolio «open» (still_open s bars bar f.position fine.0 «open»),
      ),
      fine.1,
      inside s bars bar f.position fine.0,
    )

fresh_lives : (s : Settings) → Lives s [] (account_of (fresh_state s))
unfolding fresh_state fresh in_position Floats.abs Ieee.lt Ieee.of_bits
fresh_lives s = (refl, λ h. two_sides false h refl)

run_lives : (s : Settings) (asked : Asked) (more bars : List (List ℕ)) (a : Account) (rows : List ℕ) → Lives s bars a
    → Lives s (bars ++ more) (whole_run s asked a rows more).account
unfolding whole_run_by
run_lives s asked [] bars a rows l = rw append-nil l
run_lives s asked (bar ∷ more) bars a rows l =
    rw append_assoc at
    (run_lives s asked more (bars ++ (bar ∷ [])) (taken s asked a rows bar).account (rows ++ row_of s.slots bar) (bar_lives s asked bars bar a rows l).0)

-- ---- a box

box_lives : (s : Settings) (ls : Lists) (m : Rooms) (bars : List (List ℕ))
    → let r = run_over s ls (fresh_state s) m bars in
    Lives s (take r.done bars) (account_of r.state)
box_lives s ls m bars =
    let whole = (run_follows s ls bars (fresh_state s) m (account_of (fresh_state s)) [] (fresh_follows s m)).follows in
    rw whole.account (run_lives s (by_lists s ls) _ [] (account_of (fresh_state s)) [] (fresh_lives s))

-- what the next bar adds to the books of a box, each trade as recorded
pub record Adds (s : Settings) (bars : List (List ℕ)) (bar : List ℕ) (t : State) (m : Rooms) (u : State) (n : Rooms) : Type 0 where
  pub points : List Point
  -- left by order, at the open
  pub by_order : List Trade
  -- left inside the bar
  pub inside_bar : List Trade
  pub grown : Grown t m u n points (by_order ++ inside_bar)
  -- with the entry bar of the box, and with the one that it has after the fill: the box's, or this bar where the fill is an entry
  pub each_by_order : Each (Recorded s bars bar t.position.entered) by_order
  pub each_inside : Each (Recorded s bars bar (fill_of s t bar m).position.entered) inside_bar

-- IN EVERY RUN from a fresh state, each trade that a bar closes has the words of the bars from its entry bar to that bar.
pub recorded : (s : Settings) (ls : Lists) (m : Rooms) (bars : List (List ℕ)) (bar : List ℕ)
    → let r = run_over s ls (fresh_state s) m bars in
    step_verdict s r.state bar r.rooms ls ≡ Ok tt
    → let d = stepped s r.state bar r.rooms ls in
    Adds s (take r.done bars) bar r.state r.rooms d.result d.rooms
unfolding taken_by
recorded s ls m bars bar fine =
    let r : Run = run_over s ls (fresh_state s) m bars in
    let done = take r.done bars in
    let f : Filled = fill_of s r.state bar r.rooms in
    let there = verdict_fine s r.state bar r.rooms ls fine in
    let b = bar_lives s (by_lists s ls) done bar (account_of r.state) (rows_held s r.state r.rooms) (box_lives s ls m bars) in
    record {
      points = _;
      by_order = trades_of f.«exit»;
      inside_bar = trades_of (intrabar s f.position (candle_of bar)).«exit»;
      grown = books_grow s (by_lists s ls) r.state bar r.rooms ls there.points there.trades;
      each_by_order = b.1;
      each_inside = b.2;
    }

-- ---- the end

-- A trade that finish closes, after `bars`, of a position with the entry bar e: finish adds no bar.
pub record RecordedAtEnd (s : Settings) (bars : List (List ℕ)) (e : Option ℕ) (t : Trade) : Type 0 where
  pub before : List (List ℕ)
  pub since : List (List ℕ)
  pub split : bars ≡ before ++ since
  pub entry : e ≡ Some (length before)
  pub time : t.entry_time ≡ first_time since
  pub worst : t.worst ≡ worst_over (zero ≺ t.qty) t.entry_price since
  pub funding : t.funding ≡ paid_over s t.qty zero since

closing_end : (s : Settings) (bars : List (List ℕ)) (e : Option ℕ) (p : Portfolio) (price : Float) (time : ℕ) (bps : Float) (reason : ℕ) → Open s bars e p
    → RecordedAtEnd s bars e (closed p price time bps reason).trade
unfolding closed exited trade_of
closing_end s bars e p price time bps reason o =
    record { before = o.before; since = o.first ∷ o.rest; split = o.split; entry = o.entry; time = o.time; worst = o.worst; funding = o.funding }

-- what is to be closed is open
is_open : (t : State) → to_close t ≡ true → in_position t.position.portfolio ≡ true
unfolding to_close
is_open t e = (and_true _ _ e).0

module _ (s : Settings) (bars : List (List ℕ)) (t : State) (l : Lives s bars (account_of t)) where
  end_open : to_close t ≡ true → Each (RecordedAtEnd s bars t.position.entered) (trades_of (last_exit s t))
  unfolding last_exit
  end_open e =
      let c : Closed = closed t.position.portfolio t.last.close t.last.time s.terms.taker_bps end in
      rw e (one_each c (RecordedAtEnd s bars t.position.entered)
      (closing_end s bars t.position.entered t.position.portfolio _ _ _ _ (l.1 (is_open t e))))

  end_none : to_close t ≡ false → Each (RecordedAtEnd s bars t.position.entered) (trades_of (last_exit s t))
  unfolding last_exit Each trades_of
  end_none e = rw e tt

-- AND SO HAS THE TRADE that finish closes (`end_closes` says that it is in the room).
pub recorded_end : (s : Settings) (ls : Lists) (m : Rooms) (bars : List (List ℕ))
    → let r = run_over s ls (fresh_state s) m bars in
    Each (RecordedAtEnd s (take r.done bars) r.state.position.entered) (trades_of (last_exit s r.state))
recorded_end s ls m bars =
    let r : Run = run_over s ls (fresh_state s) m bars in
    let l = box_lives s ls m bars in
    by_side (to_close r.state) (end_open s _ r.state l) (end_none s _ r.state l)
