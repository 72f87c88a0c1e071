-- The phases of a step, each by its own definition, make the whole.
use Rattle.std.specs.Prelude.{Err, Ok, Result}
use Rattle.words.specs.Prelude.{ℕ, ◌+◌, ◌<◌, ◌≤◌, ◌≡◌, refl, ap, true, false, List}
use Rattle.rows.specs.{History.history_of, Room.with_row, Room.held_with}
use Rattle.portfolio.specs.{declared.Candle.Candle}
use Rattle.words.specs.{declared.refusal.Refusal.Refusal, Limits.most_count, Limits.most_slots}
use Rattle.records.specs.{declared.state.Order.Order, declared.state.Position.Position, declared.settings.Settings.Settings, declared.state.State.State}
use Rattle.records.specs.{Bar.candle_of, Lent.Lists, Lent.Rooms}
use Rattle.refusals.specs.{Laws.Fine.step_fine, Lines.judged}
use Rattle.refusals.specs.{Judgement.step_judged}
use Rattle.engine.specs.{declared.account.Filled.Filled, declared.account.Left.Left}
use Rattle.engine.specs.{Account.filled, Account.intrabar}
use Rattle.engine.specs.{Account.charged, Books.booked, Books.marked, Decide.decided, Record.row_of, Record.held_rows, Laws.Verdict.handed_bad}
use Rattle.engine.specs.{Laws.Verdict.handed_fine, Step.Is, Step.fill_of, Step.stepped, Step.answered, Step.size_lines, Step.advanced}
use Rattle.engine.specs.{Step.step_answer}

module _ (s : Settings) (t : State) (bar : List ℕ) (m : Rooms) (ls : Lists) where
  pub phases : (k : Candle) (f : Filled) (x : Left) (p : Position) (o : Order) (atOpen held inside points : ℕ) (ts us ws es : List ℕ)
      → k ≡ candle_of bar
      → f ≡ filled s t.order t.position k (history_of s.slots (held_rows s.slots t.counts.rows_held m.rows)) t.counts.bars_seen
      → (atOpen ≡ (booked m.trades t.counts.trades f.«exit»).count) × (ts ≡ (booked m.trades t.counts.trades f.«exit»).room)
      → (held ≡ held_with m.rows t.counts.rows_held (row_of s.slots bar))
      × (ws ≡ with_row m.rows t.counts.rows_held (row_of s.slots bar))
      → x ≡ intrabar s f.position k
      → (inside ≡ (booked ts atOpen x.«exit»).count) × (us ≡ (booked ts atOpen x.«exit»).room)
      → p ≡ charged s x.position bar
      → (points ≡ (marked m.equity t.counts.equity_points k p).count) × (es ≡ (marked m.equity t.counts.equity_points k p).room)
      → o ≡ decided s f.order p t.counts.bars_seen k.close (held_rows s.slots held ws) ls
      → Is State (stepped s t bar m ls)
      (record {
        counts = record { bars_seen = t.counts.bars_seen + 1; rows_held = held; equity_points = points; trades = inside };
        order = o;
        position = p;
        last = record { time = k.time; close = k.close };
      })
      ws es us
  unfolding stepped
  phases k f x p o atOpen held inside points ts us ws es ek ef es₁ er ex es₂ ep em eo =
      rw (eo, em.0, em.1, ep, es₂.0, es₂.1, ex, er.0, er.1, es₁.0, es₁.1, ef, ek)
      (record { result = refl; rows = refl; equity = refl; trades = refl })

  -- a fill that is turned away, and one that is not
  module _ {k : Candle} {f : Filled} (ek : k ≡ candle_of bar)
      (ef : f ≡ filled s t.order t.position k
      (history_of s.slots (held_rows s.slots t.counts.rows_held m.rows)) t.counts.bars_seen) where
    same_fill : (fill_of s t bar m).turned_away ≡ f.turned_away
    same_fill = rw (ef, ek)

    pub away : f.turned_away ≡ true → Is (Result State (Refusal × State)) (advanced s t bar m ls) (Err ((Refusal.Quantity t.counts.bars_seen), t)) m.rows m.equity m.trades
    unfolding advanced answered size_lines judged
    away h = rw (same_fill, h) (record { result = refl; rows = refl; equity = refl; trades = refl })

    pub goes : f.turned_away ≡ false → (r : State) (ws es us : List ℕ) → Is State (stepped s t bar m ls) r ws es us
        → Is (Result State (Refusal × State)) (advanced s t bar m ls) (Ok r) ws es us
    unfolding advanced answered size_lines judged
    goes h r ws es us d = rw (same_fill, h) (record { result = ap Ok d.result; rows = d.rows; equity = d.equity; trades = d.trades })

  -- what the judgement has seen to for the phases
  pub ready : step_judged s t bar m ls ≡ Ok tt → (s.slots ≤ most_slots) × (t.counts.bars_seen < most_count)
  ready h = let f = step_fine s t bar m ls h in (f.settings.slots, f.bars)

  pub refused : (why : Refusal) → step_judged s t bar m ls ≡ Err why
      → Is (Result State (Refusal × State)) (step_answer s t bar m ls) (Err (why, t)) m.rows m.equity m.trades
  unfolding step_answer answered
  refused why h = rw (handed_bad s t bar m ls why h) (record { result = refl; rows = refl; equity = refl; trades = refl })

  pub went : step_judged s t bar m ls ≡ Ok tt → (r : Result State (Refusal × State)) (ws es us : List ℕ) → Is (Result State (Refusal × State)) (advanced s t bar m ls) r ws es us
      → Is (Result State (Refusal × State)) (step_answer s t bar m ls) r ws es us
  unfolding step_answer advanced
  went h r ws es us d = rw (handed_fine s t bar m ls h) d
