-- Whole lots: with a lot of 0 no bar is refused with 16 and every run is what it was, and with any other what is entered is k·lot.
use Rattle.std.specs.Prelude.{ℕ, ◌≡◌, refl, true, false, List, [], ◌∷◌, ◌++◌, ◌⊎◌, Float, Err, Ok}
use Rattle.words.specs.Prelude.{sym, ◌∙◌, inl, inr}
use Rattle.floats.specs.{Floats.zero}
use Rattle.rows.specs.{History.History, History.history_of}
use Rattle.portfolio.specs.{declared.Candle.Candle}
use Rattle.execution.specs.{declared.fills.Entry.Entry, declared.fills.Entry.TheVariants.NoEntry, declared.fills.Entry.TheVariants.TooLarge}
use Rattle.execution.specs.{declared.fills.Entry.TheVariants.Entered, declared.level.Side.Side, declared.level.OrderKind.OrderKind, Fills.direction}
use Rattle.execution.specs.{Fills.execute_entry, Level.fee_bps, RustEntry.rust_entry, WholeLots.EntersLots, WholeLots.no_lots, WholeLots.none_turned_away}
use Rattle.execution.specs.{WholeLots.entered-in_lots}
use Rattle.records.specs.{declared.settings.Settings.Settings, declared.state.Order.Order, declared.state.Order.TheVariants.Idle}
use Rattle.records.specs.{declared.state.Position.Position, declared.state.State.State, Bar.candle_of, Lent.Lists, Lent.Rooms}
use Rattle.refusals.specs.{Judgement.step_judged, Lines.judged}
use Rattle.engine.specs.{declared.account.Due.Due, declared.account.Due.TheVariants.Waits, declared.account.Due.TheVariants.Enters}
use Rattle.engine.specs.{declared.account.Due.TheVariants.Leaves, declared.account.Filled.Filled, Account.waiting, Account.entering, Account.entry_filled}
use Rattle.engine.specs.{Account.exit_filled, Account.due_of, Account.done_of, Account.filled, Laws.Verdict.handed_bad, Laws.Verdict.handed_fine, Record.row_of}
use Rattle.engine.specs.{Step.size_lines, Step.step_verdict, Whole.Account, Whole.Asked, Whole.taken_by, Whole.taken, Whole.whole_run_by, Whole.whole_run}
use Rattle.std.specs.Float.Ieee as Ieee
use Rattle.refusals.specs.{Lines.Verdict}

-- ---- the engine before: entries as the Rust has them, with no lots

unfoldable pub done_without_lots : Due → Settings → Position → Candle → History → ℕ → Filled
done_without_lots (Waits order) s p k before number = waiting order p
done_without_lots (Enters side kind price) s p k before number =
    let bps = fee_bps kind s.entries.maker_bps s.terms.taker_bps in
    waiting Idle (entering p (rust_entry side price bps s.terms k p.portfolio before) number)
done_without_lots Leaves s p k before number = exit_filled s p k

unfoldable pub filled_without_lots : Settings → Order → Position → Candle → History → ℕ → Filled
filled_without_lots s order p k before number = done_without_lots (due_of order k) s p k before number

-- ---- a lot of 0

module _ (s : Settings) (none : Ieee.eq s.terms.lot zero ≡ true) where
  done_taken : (due : Due) (p : Position) (k : Candle) (h : History) (number : ℕ) → (done_of due s p k h number).turned_away ≡ false
  unfolding done_of entry_filled exit_filled
  done_taken (Waits o) p k h number = refl
  done_taken (Enters side kind price) p k h number = none_turned_away s.terms none side price _ k p.portfolio h
  done_taken Leaves p k h number = refl

  fill_taken : (o : Order) (p : Position) (k : Candle) (h : History) (number : ℕ) → (filled s o p k h number).turned_away ≡ false
  unfolding filled
  fill_taken o p k h number = done_taken (due_of o k) p k h number

  sizes_fine : (t : State) (bar : List ℕ) (m : Rooms) → judged (size_lines s t bar m) ≡ Ok tt
  unfolding size_lines judged
  sizes_fine t bar m = rw (fill_taken t.order t.position _ _ t.counts.bars_seen)

  -- WITH A LOT OF 0 a step is judged by what it is handed alone.
  pub no_lot_no_sixteen : (t : State) (bar : List ℕ) (m : Rooms) (ls : Lists) → step_verdict s t bar m ls ≡ step_judged s t bar m ls
  no_lot_no_sixteen t bar m ls = go (step_judged s t bar m ls) refl
    where
      go : (v : Verdict) → step_judged s t bar m ls ≡ v → step_verdict s t bar m ls ≡ step_judged s t bar m ls
      go (Ok _) e = handed_fine s t bar m ls e ∙ sizes_fine t bar m ∙ sym e
      go (Err why) e = handed_bad s t bar m ls why e ∙ sym e

  -- WITH A LOT OF 0 what an entry that is due comes to is what it was: the Rust's entry, and nothing is turned away.
  pub entered_as_before : (side : Side) (kind : OrderKind) (price : Float) (p : Position) (k : Candle) (h : History) (number : ℕ)
      → let bps = fee_bps kind s.entries.maker_bps s.terms.taker_bps in
      entry_filled side kind price s p k h number ≡ waiting Idle (entering p (rust_entry side price bps s.terms k p.portfolio h) number)
  unfolding entry_filled
  entered_as_before side kind price p k h number =
      rw (none_turned_away s.terms none side price _ k p.portfolio h, no_lots s.terms none side price _ k p.portfolio h)

  done_as_before : (due : Due) (p : Position) (k : Candle) (h : History) (number : ℕ) → done_of due s p k h number ≡ done_without_lots due s p k h number
  unfolding done_of done_without_lots
  done_as_before (Waits o) p k h number = refl
  done_as_before (Enters side kind price) p k h number = entered_as_before side kind price p k h number
  done_as_before Leaves p k h number = refl

  bar_as_before : (asked : Asked) (a : Account) (rows bar : List ℕ) → taken s asked a rows bar ≡ taken_by filled_without_lots s asked a rows bar
  unfolding taken_by filled filled_without_lots
  bar_as_before asked a rows bar =
      rw (done_as_before (due_of a.order (candle_of bar)) a.position (candle_of bar) (history_of s.slots rows) a.seen)

  -- WITH A LOT OF 0 EVERY RUN IS WHAT IT WAS, however its rules are asked, from any account and over any bars.
  pub run_without_lots : (asked : Asked) (a : Account) (rows : List ℕ) (bars : List (List ℕ))
      → whole_run s asked a rows bars ≡ whole_run_by filled_without_lots s asked a rows bars
  unfolding whole_run_by
  run_without_lots asked a rows [] = refl
  run_without_lots asked a rows (bar ∷ bars) =
      rw (
        bar_as_before asked a rows bar,
        run_without_lots asked (taken_by filled_without_lots s asked a rows bar).account (rows ++ row_of s.slots bar) bars,
      )

-- ---- any other lot

-- WITH ANY OTHER LOT an entry that is due leaves the position as it was, or one of k·lot for a whole k from 1 to below 2^53.
pub fills_in_lots : (side : Side) (kind : OrderKind) (price : Float) (s : Settings) (p : Position) (k : Candle) (h : History) (number : ℕ)
    → Ieee.eq s.terms.lot zero ≡ false
    → let f = entry_filled side kind price s p k h number in
    (f.position ≡ p) ⊎ EntersLots s.terms.lot (direction side) f.position.portfolio.qty
unfolding entry_filled entering
fills_in_lots side kind price s p k h number some = go (execute_entry side price bps s.terms k p.portfolio h) refl
  where
    bps : Float
    bps = fee_bps kind s.entries.maker_bps s.terms.taker_bps

    go : (e : Entry) → execute_entry side price bps s.terms k p.portfolio h ≡ e
        → (entering p e number ≡ p) ⊎ EntersLots s.terms.lot (direction side) (entering p e number).portfolio.qty
    go NoEntry e = inl refl
    go TooLarge e = inl refl
    go (Entered q fill) e = inr (entered-in_lots side price bps s.terms k p.portfolio q h fill some e)
