-- Refusals 10, 13 and 14: the rooms and the counts of the state. Rooms are numbered as docs/ lists them; 0 is that of rows.
use Rattle.std.specs.Prelude.{ℕ, Bool, true, not, ◌&&◌, ◌||◌, List, [], ◌∷◌, ltb, leb, None, Option, Some}
use Rattle.words.specs.{Limits.most_count}
use Rattle.portfolio.specs.{Portfolio.in_position}
use Rattle.records.specs.{declared.state.Counts.Counts, declared.settings.Settings.Settings, declared.state.State.State, Lent.Rooms, Lent.row_places}
use Rattle.records.specs.{Lent.point_places, Lent.trade_places}
use Rattle.refusals.specs.{Lines.Line, Lines.line}
use Rattle.words.specs.declared.refusal.Refusal.TheVariants as Refusal

-- "10: a lent room below the size these papers name": "The row room holds at least D rows", by D and K as they were given.
unfoldable pub room_lines : Settings → List ℕ → List Line
room_lines s rows = line (leb s.depth (row_places s.slots rows)) (Refusal.Room 0) ∷ []

-- "counts in the state exceed .. 4,294,967,295"
abbrev pub counts_fine : Counts → Bool
counts_fine n =
    leb n.bars_seen most_count && leb n.rows_held most_count && leb n.equity_points most_count && leb n.trades most_count

-- "counts in the state exceed the rooms"
abbrev pub held_fine : ℕ → Counts → Rooms → Bool
held_fine K n m =
    leb n.rows_held (row_places K m.rows)
    && leb n.equity_points (point_places m.equity) && leb n.trades (trade_places m.trades)

-- "an entry bar is not below the bars seen"
abbrev pub entry_below : Option ℕ → ℕ → Bool
entry_below None seen = true
entry_below (Some b) seen = ltb b seen

-- "13: counts in the state exceed the rooms or 4,294,967,295, .. or an entry bar is not below the bars seen"
unfoldable pub state_lines : Settings → State → Rooms → List Line
state_lines s t m =
    line (counts_fine t.counts) Refusal.Records
    ∷ line (held_fine s.slots t.counts m) Refusal.Records
    ∷ line (entry_below t.position.entered t.counts.bars_seen) Refusal.Records
    ∷ []

-- "14: equity or trade room has no free place as the step begins .. or 4,294,967,295 bars seen"
unfoldable pub place_lines : Counts → List ℕ → List ℕ → List Line
place_lines n equity trades =
    line (ltb n.equity_points (point_places equity)) Refusal.Full
    ∷ line (ltb n.trades (trade_places trades)) Refusal.Full
    ∷ line (ltb n.bars_seen most_count) Refusal.Full
    ∷ []

-- "Finish closes an open position, if a bar was seen"
unfoldable pub to_close : State → Bool
to_close t = in_position t.position.portfolio && ltb 0 t.counts.bars_seen

-- "14: .. (at finish: the trade room, if a trade is to be closed)"
unfoldable pub close_lines : State → List ℕ → List Line
close_lines t trades = line (not (to_close t) || ltb t.counts.trades (trade_places trades)) Refusal.Full ∷ []
