-- One line: places for D rows.
use Rattle.words.specs.Prelude.{refl, lt-leb, le-leb}
use Rattle.rows.specs.{History.history_of}
use Rattle.refusals.specs.{Rooms.room_lines}
use Rattle.refusals.specs.Laws.Descent.{top, past, stop, all_hold}
use Rattle.refusals.proofs.rooms.judge_room.Goals as goal

pub returns-then-row_count-s : goal.returns-then-row_count-s
unfolding room_lines history_of
returns-then-row_count-s c = stop top refl (rw c.row_count.ensures at (lt-leb _ _ c.if-row_count-s.true))

pub returns : goal.returns
unfolding room_lines history_of
returns c = all_hold (past top refl (rw c.row_count.ensures at (le-leb _ _ c.if-row_count-s.false))) refl
