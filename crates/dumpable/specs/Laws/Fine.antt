-- What a dump, or a part, that is judged fine has been seen to have.
use Rattle.std.specs.Prelude.{ℕ, ◌≤◌, ◌≡◌, List, leb, length, Ok}
use Rattle.words.specs.Prelude.{◌∙◌, leb-true}
use Rattle.words.specs.{Limits.most_slots, Limits.most_rows}
use Rattle.records.specs.{declared.settings.Settings.Settings, declared.state.State.State, Lent.row_places}
use Rattle.refusals.specs.{Rooms.room_lines, Rooms.state_lines, Settings.setting_lines, Laws.Lines.and_true}
use Rattle.refusals.specs.{Laws.Lines.first_holds, Laws.Lines.both_fine, Laws.Lines.below_fine}
use Rattle.engine.specs.{Books.emptied}
use Rattle.images.specs.{Layout.dump_bytes}
use Rattle.dumpable.specs.{Refused.area_lines, Refused.dump_state_lines, Refused.dump_lines, Refused.dump_judged, Refused.part_lines, Refused.part_judged}

pub record PartFine (s : Settings) (t : State) (rows : List ℕ) : Type 0 where
  pub slots : s.slots ≤ most_slots
  pub depth : s.depth ≤ most_rows
  pub held : t.counts.rows_held ≤ row_places s.slots rows

pub part_fine : (s : Settings) (t : State) (rows : List ℕ) → part_judged s t rows ≡ Ok tt → PartFine s t rows
unfolding part_judged part_lines setting_lines dump_state_lines state_lines emptied
part_fine s t rows h =
    let room = both_fine (room_lines s rows) _ h in
    let rest = both_fine (setting_lines s) _ room.1 in
    let slots = first_holds _ _ rest.0 in
    let depth = (first_holds _ _ slots.1).0 in
    let counts = first_holds _ _ (first_holds _ _ (first_holds _ _ rest.1).1).1 in
    let held = (first_holds _ _ counts.1).0 in
    record {
      slots = leb-true _ _ slots.0;
      depth = leb-true _ _ (and_true (leb 1 s.depth) (leb s.depth most_rows) (and_true _ _ depth).0).1;
      held = leb-true _ _ (and_true _ _ (and_true _ _ held).0).0;
    }

-- A dump that refuses nothing refuses nothing of a part ..
pub fine_part : (s : Settings) (t : State) (rows area : List ℕ) → dump_judged s t rows area ≡ Ok tt → part_judged s t rows ≡ Ok tt
unfolding dump_judged dump_lines part_judged part_lines
fine_part s t rows area h =
    let room = both_fine (room_lines s rows) _ h in
    below_fine (room_lines s rows) _ room.0 ∙ (both_fine (area_lines s area) _ room.1).1

-- .. and its area is not too short
pub record DumpFine (s : Settings) (t : State) (rows area : List ℕ) : Type 0 where
  pub slots : s.slots ≤ most_slots
  pub depth : s.depth ≤ most_rows
  pub held : t.counts.rows_held ≤ row_places s.slots rows
  pub place : dump_bytes s.slots s.depth ≤ length area

pub dump_fine : (s : Settings) (t : State) (rows area : List ℕ) → dump_judged s t rows area ≡ Ok tt → DumpFine s t rows area
unfolding dump_judged dump_lines area_lines
dump_fine s t rows area h =
    let part = part_fine s t rows (fine_part s t rows area h) in
    let place = both_fine (area_lines s area) _ (both_fine (room_lines s rows) _ h).1 in
    record { slots = part.slots; depth = part.depth; held = part.held; place = leb-true _ _ (first_holds _ _ place.0).0 }
