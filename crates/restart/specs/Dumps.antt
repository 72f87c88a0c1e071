-- A DUMP OF A BOX THAT WAS REACHED IS NOT REFUSED: no box that has taken bars, traded or waits for a fill, is refused its dump.
use Rattle.std.specs.Prelude.{ℕ, ◌≤◌, ◌≡◌, true, List, length, Ok}
use Rattle.words.specs.Prelude.{◌∙◌, arith, le-leb}
use Rattle.words.specs.{Limits.most_count}
use Rattle.records.specs.{declared.settings.Settings.Settings, declared.state.State.State, Lent.Lists, Lent.Rooms, Lent.row_places, State.fresh_state}
use Rattle.refusals.specs.{Lines.judged, Rooms.room_lines, Rooms.entry_below, Rooms.state_lines, Settings.setting_lines}
use Rattle.refusals.specs.{Laws.Lines.below_fine}
use Rattle.engine.specs.{Books.emptied, Boxes.Sound, Run.Run, Run.run_over}
use Rattle.images.specs.{Layout.dump_bytes}
use Rattle.dumpable.specs.{Refused.area_lines, Refused.dump_state_lines, Refused.dump_lines, Refused.dump_judged}
use Rattle.restart.specs.{Accepted.reached_passed}

-- A dump of a sound box, with an entry bar below the bars seen and these no more than 4,294,967,295, is not refused.
pub dump_passes : (s : Settings) (t : State) (m : Rooms) (area : List ℕ) → Sound s t m → entry_below t.position.entered t.counts.bars_seen ≡ true
    → t.counts.bars_seen ≤ most_count → judged (setting_lines s) ≡ Ok tt → dump_bytes s.slots s.depth ≤ length area
    → dump_judged s t m.rows area ≡ Ok tt
unfolding dump_judged dump_lines
dump_passes s t m area sound entry seen twelve large =
    let n = t.counts in
    let w = sound.within in
    let ten : judged (room_lines s m.rows) ≡ (Ok tt) = unfold room_lines judged in rw (le-leb s.depth (row_places s.slots m.rows) sound.depth) in
    let place : judged (area_lines s area) ≡ (Ok tt) = unfold area_lines judged in rw (le-leb (dump_bytes s.slots s.depth) (length area) large) in
    let thirteen : judged (dump_state_lines s t m.rows) ≡ (Ok tt) =
    unfold judged dump_state_lines state_lines emptied in
    rw (
      le-leb n.equity_points most_count (omega (arith, w.points_seen)),
      le-leb n.trades most_count (omega (arith, w.trades_seen)),
      le-leb n.bars_seen most_count seen,
      le-leb n.rows_held most_count (omega (arith, w.rows_seen)),
      le-leb n.rows_held (row_places s.slots m.rows) w.rows,
      entry,
    ) in
    below_fine (room_lines s m.rows) _ ten ∙ below_fine (area_lines s area) _ place ∙ below_fine (setting_lines s) _ twelve ∙ thirteen

-- what it needs is had by every box that was reached
module _ (s : Settings) (ls : Lists) (m : Rooms) (bars : List (List ℕ)) (deep : s.depth ≤ row_places s.slots m.rows) where
  pub reached_entry : let b = run_over s ls (fresh_state s) m bars in
      (entry_below b.state.position.entered b.state.counts.bars_seen ≡ true) × (b.state.counts.bars_seen ≤ most_count)
  reached_entry = ((reached_passed s ls m bars deep).entry, (reached_passed s ls m bars deep).seen)

  -- A DUMP AFTER ANY BARS from a fresh state, into an area of the size or more, is not refused, where 12 lets the settings pass.
  pub reached_dumped : (area : List ℕ) → judged (setting_lines s) ≡ Ok tt → dump_bytes s.slots s.depth ≤ length area
      → let b = run_over s ls (fresh_state s) m bars in
      dump_judged s b.state b.rooms.rows area ≡ Ok tt
  reached_dumped area twelve large =
      let b : Run = run_over s ls (fresh_state s) m bars in
      dump_passes s b.state b.rooms area (reached_passed s ls m bars deep).sound reached_entry.0 reached_entry.1 twelve large
