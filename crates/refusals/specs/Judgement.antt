-- What a call is judged by: "then 10, 12, 13, 14, 11, 15. Under one number the lowest place is given."
use Rattle.std.specs.Prelude.{ℕ, List, ◌∷◌, ◌++◌, length, eqb}
use Rattle.words.specs.{Limits.bar_words}
use Rattle.records.specs.{declared.settings.Settings.Settings, declared.state.State.State, Lent.Rooms, Lent.Lists}
use Rattle.refusals.specs.{Lines.Line, Lines.line, Lines.judged, Bar.bar_lines, Lists.list_lines, Rooms.room_lines}
use Rattle.refusals.specs.{Rooms.state_lines, Rooms.place_lines, Rooms.close_lines, Settings.setting_lines}
use Rattle.refusals.specs.{Lines.Verdict}
use Rattle.words.specs.declared.refusal.Refusal.TheVariants as Refusal

-- 10, 12 and 13 of what a run goes on with
unfoldable pub run_lines : Settings → State → Rooms → List Line
run_lines s t m = room_lines s m.rows ++ (setting_lines s ++ state_lines s t m)

-- A step. "13: .. a .. bar .. list is not whole records": it is handed one bar, which is exactly one record.
unfoldable pub step_lines : Settings → State → List ℕ → Rooms → Lists → List Line
step_lines s t bar m ls =
    run_lines s t m
    ++ (line (eqb (length bar) (bar_words s.slots)) Refusal.Records
    ∷ (place_lines t.counts m.equity m.trades
    ++ (bar_lines s.slots bar t.counts.bars_seen
    ++ list_lines s.slots s.depth ls)))

unfoldable pub step_judged : Settings → State → List ℕ → Rooms → Lists → Verdict
step_judged s t bar m ls = judged (step_lines s t bar m ls)

-- Finish: it is handed neither a bar nor lists.
unfoldable pub finish_lines : Settings → State → Rooms → List Line
finish_lines s t m = room_lines s m.rows ++ (setting_lines s ++ (state_lines s t m ++ close_lines t m.trades))

unfoldable pub finish_judged : Settings → State → Rooms → Verdict
finish_judged s t m = judged (finish_lines s t m)
