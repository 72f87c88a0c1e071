-- A whole day in one call (request 3): what is looked at once for all of its bars, and what is looked at for each.
use Rattle.std.specs.Prelude.{ℕ, ◌%◌, Bool, List, [], ◌∷◌, ◌++◌, length, eqb}
use Rattle.words.specs.{Limits.bar_words}
use Rattle.records.specs.{declared.settings.Settings.Settings, declared.state.Counts.Counts, declared.state.State.State, Lent.Rooms}
use Rattle.refusals.specs.{Lines.Line, Lines.line, Bar.bar_lines, Rooms.counts_fine, Rooms.room_lines, Rooms.state_lines, Rooms.place_lines}
use Rattle.refusals.specs.{Settings.setting_lines}
use Rattle.refusals.specs.{declared.day.Span.Span, declared.day.Span.TheVariants.One, declared.day.Span.TheVariants.Many}
use Rattle.words.specs.declared.refusal.Refusal.TheVariants as Refusal

-- "13: .. a .. bar .. list is not whole records": of 10 + K words each
unfoldable pub whole_bars : ℕ → List ℕ → Bool
whole_bars K bars = eqb (length bars % bar_words K) 0

-- A call that takes one bar is handed exactly one record.
unfoldable pub whole_for : Span → ℕ → List ℕ → Bool
whole_for One K bars = eqb (length bars) (bar_words K)
whole_for Many K bars = whole_bars K bars

-- Once: 10, 12 and 13, of the rooms, the settings, the state and the list of bars.
unfoldable pub day_lines : Span → Settings → State → List ℕ → Rooms → List Line
day_lines span s t bars m = room_lines s m.rows ++ (setting_lines s ++ (state_lines s t m ++ (line (whole_for span s.slots bars) Refusal.Records ∷ [])))

-- For each bar: 13 of the counts, which grow, 14, and 11.
unfoldable pub next_lines : ℕ → Counts → List ℕ → List ℕ → List ℕ → List Line
next_lines K n bar equity trades = line (counts_fine n) Refusal.Records ∷ (place_lines n equity trades ++ bar_lines K bar n.bars_seen)
