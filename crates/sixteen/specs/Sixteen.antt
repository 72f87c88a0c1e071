-- 16 is given exactly when nothing before it is, an entry is due and the bar reaches it, the lot is not 0, and a quotient is 2^53 or more: the
-- probe's, the size's or that of the share (entries/specs/InLots.antt).
use Rattle.std.specs.Prelude.{ℕ, zero, suc, ◌<◌, ◌≡◌, refl, Bool, true, false, not, cond, ◌&&◌, List, [], ◌∷◌, ltb, Float, Err, None, Ok, Option, Some}
use Rattle.words.specs.Prelude.{sym, ap, ◌∙◌, true≢false, arith}
use Rattle.words.specs.Prelude.{ltb-true, lt-ltb}
use Rattle.words.specs.{declared.refusal.Refusal.Refusal}
use Rattle.rows.specs.{History.History, History.history_of}
use Rattle.portfolio.specs.{declared.Candle.Candle}
use Rattle.execution.specs.{declared.level.Side.Side, declared.level.Side.TheVariants.Long, declared.level.Side.TheVariants.Short}
use Rattle.execution.specs.{declared.level.OrderKind.OrderKind, Level.fee_bps, Level.level_fill}
use Rattle.records.specs.{declared.settings.Settings.Settings, declared.state.Order.Order, declared.state.Order.TheVariants.Idle}
use Rattle.records.specs.{declared.state.Order.TheVariants.EnterLong, declared.state.Order.TheVariants.EnterShort, declared.state.Order.TheVariants.Exit}
use Rattle.records.specs.{declared.state.Position.Position, declared.state.State.State, Bar.candle_of, Lent.Lists, Lent.Rooms}
use Rattle.refusals.specs.{Settings.sizing_lines, Settings.slippage_lines, Settings.risk_lines, Settings.term_lines, Settings.entry_lines, Settings.setting_lines}
use Rattle.refusals.specs.{Rooms.room_lines, Rooms.state_lines, Rooms.place_lines, Bar.bar_lines, Lists.list_lines, Judgement.step_lines, Judgement.step_judged}
use Rattle.refusals.specs.{Judgement.run_lines, Lines.Line, Lines.judged, Laws.Lines.never, Laws.Lines.and_true}
use Rattle.engine.specs.{declared.account.Due.TheVariants.Enters}
use Rattle.engine.specs.{Account.due_if_reached, Account.due_of, Account.done_of, Account.filled}
use Rattle.engine.specs.{Account.entry_filled, Account.exit_filled, Record.held_rows, Step.fill_of, Step.size_lines, Step.step_verdict, Laws.Verdict.handed_fine}
use Rattle.engine.specs.{Laws.Verdict.handed_bad}
use Rattle.entries.specs.{InLots.TurnsAway, InLots.probed_size, InLots.size_at, InLots.turned_away_if, InLots.turned_away_only_if}
use Rattle.std.specs.Float.Ieee as Ieee
use Rattle.floats.specs.Floats as Floats
use Rattle.entries.specs.Ordered as Entry
use Rattle.refusals.specs.{Lines.Verdict}
use Rattle.words.specs.{Outcome.number_of}

-- An entry is due at a bar, and the bar reaches it: no delay is left, and this is the raw price at which the bar fills it.
pub data DueAt (k : Candle) : Order → Side → OrderKind → Float → Type 0 where
  long : (kind : OrderKind) (price : Float) → level_fill Long kind k ≡ Some price → DueAt k (EnterLong 0 kind) Long kind price
  short : (kind : OrderKind) (price : Float) → level_fill Short kind k ≡ Some price → DueAt k (EnterShort 0 kind) Short kind price

-- what the fill says of a step
module _ (s : Settings) (p : Position) (k : Candle) (h : History) (number : ℕ) where
  abbrev bps_of : OrderKind → Float
  bps_of kind = fee_bps kind s.entries.maker_bps s.terms.taker_bps

  -- An entry that is due and turned away.
  pub record Turned (order : Order) : Type 0 where
    pub side : Side
    pub kind : OrderKind
    pub price : Float
    pub due : DueAt k order side kind price
    pub some_lot : Ieee.eq s.terms.lot Floats.zero ≡ false
    pub too_many : TurnsAway s.terms k.volume (probed_size side price Floats.zero s.terms k p.portfolio h)
        (size_at side price Floats.zero s.terms k p.portfolio h (Entry.fill_of side price s.terms k p.portfolio h))

  due_is : {order : Order} {side : Side} {kind : OrderKind} {price : Float} → DueAt k order side kind price → due_of order k ≡ Enters side kind price
  unfolding due_of due_if_reached
  due_is (long kind price e) = rw e
  due_is (short kind price e) = rw e

  turned_flag : (order : Order) → Turned order → (filled s order p k h number).turned_away ≡ true
  unfolding filled done_of entry_filled
  turned_flag order t =
      rw (due_is t.due) (turned_away_if t.side t.price (bps_of t.kind) s.terms k p.portfolio h t.some_lot t.too_many)

  by_entry : (order : Order) (side : Side) (kind : OrderKind) (price : Float) → DueAt k order side kind price
      → (entry_filled side kind price s p k h number).turned_away ≡ true → Turned order
  unfolding entry_filled
  by_entry order side kind price due e =
      let t = turned_away_only_if side price (bps_of kind) s.terms k p.portfolio h e in
      record { side = side; kind = kind; price = price; due = due; some_lot = t.0; too_many = t.1 }

  -- an entry whose bar is here: its level is reached, or not
  by_level : (order : Order) (side : Side) (kind : OrderKind) → ((price : Float) → level_fill side kind k ≡ Some price → DueAt k order side kind price)
      → (o : Option Float) → level_fill side kind k ≡ o → (done_of (due_if_reached side kind order o) s p k h number).turned_away ≡ true → Turned order
  unfolding done_of due_if_reached
  by_level order side kind due None f e = absurd (true≢false (sym e))
  by_level order side kind due (Some price) f e = by_entry order side kind price (due price f) e

  flag_turned : (order : Order) → (filled s order p k h number).turned_away ≡ true → Turned order
  unfolding filled due_of done_of due_if_reached exit_filled
  flag_turned Idle e = absurd (true≢false (sym e))
  flag_turned (Exit zero) e = absurd (true≢false (sym e))
  flag_turned (Exit (suc n)) e = absurd (true≢false (sym (rw (lt-ltb 0 (suc n) (omega arith)) at e)))
  flag_turned (EnterLong (suc n) kind) e = absurd (true≢false (sym (rw (lt-ltb 0 (suc n) (omega arith)) at e)))
  flag_turned (EnterShort (suc n) kind) e = absurd (true≢false (sym (rw (lt-ltb 0 (suc n) (omega arith)) at e)))
  flag_turned (EnterLong zero kind) e = by_level (EnterLong 0 kind) Long kind (long kind) (level_fill Long kind k) refl e
  flag_turned (EnterShort zero kind) e = by_level (EnterShort 0 kind) Short kind (short kind) (level_fill Short kind k) refl e

-- ---- a step

-- the number of every line is below 16
unfoldable below : List Line → Bool
below [] = true
below (l ∷ ls) = ltb (number_of l.why) 16 && below ls

bad_same : {r q : Refusal} → ◌≡◌ {A = Verdict} (Err r) (Err q) → r ≡ q
bad_same e = cc

by_line : (ok : Bool) (v : Verdict) (why r : Refusal) → number_of why < 16 → (v ≡ Err r → number_of r < 16) → cond ok v (Err why) ≡ Err r → number_of r < 16
by_line true v why r low rest e = rest e
by_line false v why r low rest e = let same : number_of why ≡ number_of r = cc in omega arith

judged-below : (ls : List Line) (r : Refusal) → below ls ≡ true → judged ls ≡ Err r → number_of r < 16
unfolding judged below
judged-below [] r n e = never (sym e)
judged-below (l ∷ ls) r n e =
    let own = and_true _ _ n in
    by_line l.ok (judged ls) l.why r (ltb-true _ _ own.0) (judged-below ls r own.1) e

lines_below : (s : Settings) (t : State) (bar : List ℕ) (m : Rooms) (ls : Lists) → below (step_lines s t bar m ls) ≡ true
unfolding below step_lines run_lines room_lines setting_lines term_lines entry_lines sizing_lines slippage_lines risk_lines state_lines place_lines bar_lines list_lines
lines_below s t bar m ls = refl

module _ (s : Settings) (t : State) (bar : List ℕ) (m : Rooms) (ls : Lists) where
  -- an entry of this step that is due and turned away, over the rows held before the bar
  abbrev pub TurnedAt : Type 0
  TurnedAt =
      Turned s t.position (candle_of bar) (history_of s.slots (held_rows s.slots t.counts.rows_held m.rows)) t.counts.bars_seen t.order

  -- 16 IS GIVEN at the bars seen, where nothing before it is and an entry is turned away ..
  pub sixteen_if : step_judged s t bar m ls ≡ Ok tt → TurnedAt → step_verdict s t bar m ls ≡ Err (Refusal.Quantity t.counts.bars_seen)
  unfolding size_lines judged
  sixteen_if fine w = handed_fine s t bar m ls fine ∙ rw (turned_flag s t.position (candle_of bar) _ t.counts.bars_seen t.order w)

  -- .. and only there
  pub sixteen_only_if : (why : Refusal) → step_verdict s t bar m ls ≡ Err why → number_of why ≡ 16 → (step_judged s t bar m ls ≡ Ok tt) × TurnedAt
  unfolding size_lines judged
  sixteen_only_if why e n = go (step_judged s t bar m ls) refl
    where
      flagged : (b : Bool) → (fill_of s t bar m).turned_away ≡ b → cond {A = Verdict} (not b) (Ok tt) (Err (Refusal.Quantity t.counts.bars_seen)) ≡ Err why → TurnedAt
      flagged true f e = flag_turned s t.position (candle_of bar) _ t.counts.bars_seen t.order f
      flagged false f e = never (sym e)

      go : (v : Verdict) → step_judged s t bar m ls ≡ v → (step_judged s t bar m ls ≡ Ok tt) × TurnedAt
      go (Ok _) f = (f, flagged (fill_of s t bar m).turned_away refl (sym (handed_fine s t bar m ls f) ∙ e))
      go (Err r) f =
          let same : r ≡ why = bad_same (sym (handed_bad s t bar m ls r f) ∙ e) in
          let low : (number_of r) < 16 = judged-below (step_lines s t bar m ls) r (lines_below s t bar m ls) (unfold step_judged in f) in
          absurd (omega (arith, low, n, ap (λ (x : Refusal). number_of x) same))
