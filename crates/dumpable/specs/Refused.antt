-- What a dump refuses: 10, 12, 13.
use Rattle.std.specs.Prelude.{ℕ, List, [], ◌∷◌, ◌++◌, length, leb}
use Rattle.words.specs.{Limits.most_count}
use Rattle.records.specs.{declared.settings.Settings.Settings, declared.state.State.State, Lent.rooms}
use Rattle.refusals.specs.{Lines.Line, Lines.line, Lines.judged, Rooms.room_lines, Rooms.state_lines, Settings.setting_lines}
use Rattle.engine.specs.{Books.emptied}
use Rattle.images.specs.{Layout.dump_bytes}
use Rattle.refusals.specs.{Lines.Verdict}
use Rattle.words.specs.declared.refusal.Refusal.TheVariants as Refusal

-- "10 if the area is below that size": by D and K as they were given. The area is room 14.
unfoldable pub area_lines : Settings → List ℕ → List Line
area_lines s area = line (leb (dump_bytes s.slots s.depth) (length area)) (Refusal.Room 14) ∷ []

-- "13: counts in the state exceed the rooms or 4,294,967,295 .. or an entry bar is not below the bars seen": the row room is the only one
-- that a dump is lent.
unfoldable pub dump_state_lines : Settings → State → List ℕ → List Line
dump_state_lines s t rows =
    line (leb t.counts.equity_points most_count) Refusal.Records
    ∷ line (leb t.counts.trades most_count) Refusal.Records
    ∷ state_lines s (emptied t) (rooms rows [] [])

unfoldable pub dump_lines : Settings → State → List ℕ → List ℕ → List Line
dump_lines s t rows area = room_lines s rows ++ (area_lines s area ++ (setting_lines s ++ dump_state_lines s t rows))

unfoldable pub dump_judged : Settings → State → List ℕ → List ℕ → Verdict
dump_judged s t rows area = judged (dump_lines s t rows area)

-- A part: of a dump's refusals all but that of the area. A buffer of any length is none too short.
unfoldable pub part_lines : Settings → State → List ℕ → List Line
part_lines s t rows = room_lines s rows ++ (setting_lines s ++ dump_state_lines s t rows)

unfoldable pub part_judged : Settings → State → List ℕ → Verdict
part_judged s t rows = judged (part_lines s t rows)
