-- What is said of a box whose image is written and read back, from weak to strong; below these stand `WithinRooms` and `Sound` (engine/specs/Boxes.antt).
-- Definitions only.
use Rattle.std.specs.Prelude.{ℕ, ◌+◌, ◌*◌, ◌/◌, ◌≤◌, ◌<◌, ◌≡◌, true, List, length, get_or}
use Rattle.words.specs.{Limits.row_words, Limits.most_slots, Limits.most_rows, Limits.most_count}
use Rattle.records.specs.{declared.settings.Settings.Settings, declared.state.State.State, Lent.Rooms, Lent.row_places, StateWords.order_delay}
use Rattle.records.specs.{StateWords.entry_bar, Laws.RoundTrip.Floats64}
use Rattle.refusals.specs.{Rooms.entry_below}
use Rattle.engine.specs.{Boxes.Sound, Record.listed}
use Rattle.images.specs.{Layout.window_of, Refused.row_fine}

-- A state whose numbers have a place in an image: those of every state that the code holds, once 13 has let it pass.
pub record FitsImage (t : State) : Type 0 where
  pub seen : t.counts.bars_seen < 4294967296
  pub entry : entry_bar t.position.entered < 4294967296
  pub delay : order_delay t.order < 18446744073709551616
  pub entry_time : t.position.portfolio.entry_time < 18446744073709551616
  pub last_time : t.last.time < 18446744073709551616
  pub floats : Floats64 t

-- What the image of a box needs: D and K as 12 lets them be, and numbers of its state and words of its rows such as the code's types hold.
pub record Storable (s : Settings) (t : State) (m : Rooms) : Type 0 where
  pub slots : s.slots ≤ most_slots
  pub depth : s.depth ≤ most_rows
  pub small : FitsImage t
  pub words : (i : ℕ) → get_or (window_of s t m.rows) i 0 < 18446744073709551616

-- row i of rows that stand one after another
abbrev pub row_at : ℕ → List ℕ → ℕ → List ℕ
row_at K ws i = listed (row_words K) (λ j. get_or ws (i * row_words K + j) 0)

-- "a row 11 would refuse": none of these is one
unfoldable pub RowsPass : ℕ → List ℕ → Type 0
RowsPass K ws = (i : ℕ) → i < length ws / row_words K → row_fine K (row_at K ws i) ≡ true

-- A box whose image is accepted: storable, with what 13 asks of rows and of the entry bar, no more rows than bars seen, and rows that 11 would let pass.
-- A box that was reached from a fresh state has the first by `reached_storable`, and the rest by `reached_dumpable`.
pub record Dumpable (s : Settings) (t : State) (m : Rooms) : Type 0 where
  pub kept : Storable s t m
  pub held : t.counts.rows_held ≤ row_places s.slots m.rows
  pub early : t.counts.rows_held ≤ t.counts.bars_seen
  pub entry : entry_below t.position.entered t.counts.bars_seen ≡ true
  pub rows : RowsPass s.slots (window_of s t m.rows)

-- What every bar keeps: sound, bars seen that are counted, an entry bar below them, and rows that 11 would let pass. A storable box that has this is dumpable.
pub record Passed (s : Settings) (t : State) (m : Rooms) : Type 0 where
  pub sound : Sound s t m
  pub seen : t.counts.bars_seen ≤ most_count
  pub entry : entry_below t.position.entered t.counts.bars_seen ≡ true
  pub rows : RowsPass s.slots (window_of s t m.rows)
