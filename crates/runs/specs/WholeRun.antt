-- Request 13. "from a fresh state, with the same table, settings, step lists, bars and sizes of equity and trade room, a run that keeps
-- D rows and a run that keeps everything give equal trades, equity, state other than the rows and their count, and metrics, after every
-- bar and for volatility sizing too, over any number of bars until the first refusal. A refusal of any kind but 10 falls at the same
-- bar in both."
use Rattle.std.specs.Prelude.{ℕ, ◌≤◌, ◌≡◌, List, length, take, Err}
use Rattle.words.specs.{declared.refusal.Refusal.Refusal}
use Rattle.records.specs.{declared.settings.Settings.Settings, Lent.Lists, Lent.Rooms, Lent.row_places, Lent.point_places, Lent.trade_places, State.fresh_state}
use Rattle.runs.specs.{AsMeant.IsWhole, AsMeant.as_meant, Laws.NeverTen.never_ten, SameRun.SameRun, SameRun.same_run, WholeHistory.whole_history}
use Rattle.engine.specs.{Rules.FromTable, Run.Run, Run.run_over, Whole.rows_held, Whole.rows_of, Whole.meant_run}
use Rattle.words.specs.{Outcome.number_of}

-- r and r' are the runs over m and m'
pub record WholeRun (s : Settings) (ls : Lists) (m' : Rooms) (bars : List (List ℕ)) (r r' : Run) : Type 0 where
  -- they take as many bars, stop with the same number and place, and differ in their rows alone, finished or not
  pub same : SameRun s r r'
  -- no number is 10
  pub no_ten : (why : Refusal) → r.verdict ≡ Err why → number_of why ≡ 10 → ⊥
  -- where m' has a place for every bar, r' keeps everything
  pub everything : length bars ≤ row_places s.slots m'.rows
      → rows_held s r'.state r'.rooms ≡ rows_of s (take r'.done bars)
  -- and both are the run whose rules, by their meaning, and whose volatility read every bar ever seen
  pub meant : (table : List ℕ) → FromTable table s ls
      → IsWhole s r (meant_run table s (take r.done bars))

-- REQUEST 13: over any bars, from a fresh state, over two row rooms that each have places for D rows or more, and equity and trade rooms with
-- as many places, whatever stale words they hold
pub whole_run : (s : Settings) (ls : Lists) (m m' : Rooms) (bars : List (List ℕ))
    → s.depth ≤ row_places s.slots m.rows → s.depth ≤ row_places s.slots m'.rows
    → point_places m.equity ≡ point_places m'.equity → trade_places m.trades ≡ trade_places m'.trades
    → WholeRun s ls m' bars (run_over s ls (fresh_state s) m bars) (run_over s ls (fresh_state s) m' bars)
whole_run s ls m m' bars deep deep' equity trades = record {
  same = same_run s ls m m' bars deep deep' equity trades;
  no_ten = never_ten s ls m bars deep;
  everything = (whole_history s ls m' bars).everything;
  meant = λ table f. as_meant table s ls f m bars;
}
