-- What a step that is judged fine has been seen to have: every line of the table of refusals holds.
use Rattle.std.specs.Prelude.{ℕ, ◌≤◌, ◌<◌, ◌≡◌, List, length, Ok}
use Rattle.words.specs.Prelude.{ltb-true, leb-true, eqb-true}
use Rattle.words.specs.{Limits.bar_words, Limits.most_count, Limits.most_slots}
use Rattle.records.specs.{declared.settings.Settings.Settings, declared.state.State.State, Lent.Rooms, Lent.Lists, Lent.row_places, Lent.point_places}
use Rattle.records.specs.{Lent.trade_places}
use Rattle.refusals.specs.{Lines.judged, Settings.lookback, Settings.setting_lines, Rooms.room_lines}
use Rattle.refusals.specs.{Rooms.state_lines, Rooms.place_lines, Judgement.run_lines, Judgement.step_lines, Judgement.step_judged, Laws.Lines.and_true}
use Rattle.refusals.specs.{Laws.Lines.first_holds, Laws.Lines.both_fine}

-- what fine settings have
pub record SettingsFine (s : Settings) : Type 0 where
  pub slots : s.slots ≤ most_slots
  pub depth : 1 ≤ s.depth
  pub behind : lookback s.terms.sizing < s.depth

pub settings_fine : (s : Settings) → judged (setting_lines s) ≡ Ok tt → SettingsFine s
unfolding setting_lines
settings_fine s h =
    let a = first_holds _ _ h in
    let b = first_holds _ _ a.1 in
    let c = and_true _ _ b.0 in
    record {
      slots = leb-true _ _ a.0;
      depth = leb-true _ _ (and_true _ _ c.0).0;
      behind = ltb-true _ _ c.1;
    }

-- the rows that a fine state counts are in their room
rows_fine_lem : (s : Settings) (t : State) (m : Rooms) → judged (state_lines s t m) ≡ Ok tt → t.counts.rows_held ≤ row_places s.slots m.rows
unfolding state_lines
rows_fine_lem s t m h =
    let held = (first_holds _ _ (first_holds _ _ h).1).0 in
    leb-true _ _ (and_true _ _ (and_true _ _ held).0).0

-- what a fine step has
pub record StepFine (s : Settings) (t : State) (bar : List ℕ) (m : Rooms) : Type 0 where
  pub room : s.depth ≤ row_places s.slots m.rows
  pub settings : SettingsFine s
  pub held : t.counts.rows_held ≤ row_places s.slots m.rows
  pub whole : length bar ≡ bar_words s.slots
  pub points : t.counts.equity_points < point_places m.equity
  pub trades : t.counts.trades < trade_places m.trades
  pub bars : t.counts.bars_seen < most_count

pub step_fine : (s : Settings) (t : State) (bar : List ℕ) (m : Rooms) (ls : Lists) → step_judged s t bar m ls ≡ Ok tt → StepFine s t bar m
unfolding step_judged step_lines run_lines room_lines place_lines
step_fine s t bar m ls h =
    let run = both_fine (run_lines s t m) _ h in
    let room = both_fine (room_lines s m.rows) _ run.0 in
    let rest = both_fine (setting_lines s) _ room.1 in
    let whole = first_holds _ _ run.1 in
    let places = (both_fine (place_lines t.counts m.equity m.trades) _ whole.1).0 in
    let points = first_holds _ _ places in
    let trades = first_holds _ _ points.1 in
    record {
      room = leb-true _ _ (first_holds _ _ room.0).0;
      settings = settings_fine s rest.0;
      held = rows_fine_lem s t m rest.1;
      whole = eqb-true _ _ whole.0;
      points = ltb-true _ _ points.0;
      trades = ltb-true _ _ trades.0;
      bars = ltb-true _ _ (first_holds _ _ trades.1).0;
    }
