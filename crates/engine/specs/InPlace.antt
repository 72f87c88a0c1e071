-- Rows that do not move. Within a call of many bars a full room is a ring: a row goes over the oldest, and the rows that are held begin at row `start`
-- of the room. What the room would be had the rows moved is the room turned so that row `start` stands first. Definitions only.
use Rattle.std.specs.Prelude.{ℕ, ◌+◌, ◌<◌, ◌≤◌, ◌≡◌, cond, List, length, eqb, Float, Err, Ok, Result}
use Rattle.words.specs.{Limits.most_count, Limits.most_slots, Limits.row_words, Words.overwrite, Words.shifted}
use Rattle.rows.specs.{declared.ring.Ring.Ring, History.width, History.last_rows, Laws.Ring.RingFine, Ring.ring_of, Ring.turned, Ring.ring_with, Ring.ring_after}
use Rattle.rows.specs.{Room.with_row, Room.held_with}
use Rattle.records.specs.{declared.settings.Settings.Settings, declared.state.Order.Order, declared.state.Position.Position, declared.state.State.State}
use Rattle.records.specs.{Lent.Lists, Lent.row_places}
use Rattle.refusals.specs.{Lines.judged, Lists.list_lines}
use Rattle.engine.specs.{declared.answer.Advanced.Advanced, declared.record.Place.Place}
use Rattle.engine.specs.{Decide.answers_of, Decide.state_at}
use Rattle.engine.specs.{Decide.order_after, Step.With, Step.Is}
use Rattle.refusals.specs.{declared.day.Span.Span, declared.day.Span.TheVariants.One, declared.day.Span.TheVariants.Many}
use Rattle.words.specs.{declared.refusal.Refusal.Refusal}

-- a row added to the rows `before`: where the call has one bar they move up, else it goes over the oldest
unfoldable pub kept_ring : Span → List ℕ → Ring → List ℕ → Ring
kept_ring One room before row = record { held = held_with room before.held row; start = 0 }
kept_ring Many room before row = ring_after room before row

unfoldable pub kept_room : Span → List ℕ → Ring → List ℕ → List ℕ
kept_room One room before row = with_row room before.held row
kept_room Many room before row = ring_with room before row

-- a row written at a place, once the rows that move up for it have moved
unfoldable pub row_placed : List ℕ → Place → List ℕ → List ℕ
row_placed room p row = overwrite (shifted room (length row) p.moved) p.at row

-- the place for a row of w words: it is in the room, and the row that is written there is added
pub record PlaceFor (span : Span) (w : ℕ) (room : List ℕ) (before : Ring) (p : Place) : Type 0 where
  pub fits : p.at + w ≤ length room
  pub ring : (row : List ℕ) → length row ≡ w → p.ring ≡ kept_ring span room before row
  pub added : (row : List ℕ) → length row ≡ w → row_placed room p row ≡ kept_room span room before row

-- what the rules read of rows that begin at row `start`
unfoldable pub read_from : ℕ → ℕ → ℕ → List ℕ → List ℕ
read_from K D start rows = cond (eqb start 0) (last_rows K D rows) rows

unfoldable pub decided_from : Settings → Order → Position → ℕ → Float → ℕ → List ℕ → Lists → Order
decided_from s o p number close start rows ls =
    order_after s o p number close (answers_of (ring_of s.slots start (read_from s.slots s.depth start rows)) (state_at p number) ls)

-- the rows that a state counts begin at a row of their room: at the first until it is full, and wherever the call has one bar
pub record RingAt (span : Span) (s : Settings) (t : State) (rows : List ℕ) (start : ℕ) : Type 0 where
  pub ring : RingFine (row_places s.slots rows) (record { held = t.counts.rows_held; start = start })
  pub first : span ≡ One → start ≡ 0

-- what the phases ask of a bar: the judgement has seen to it
pub record Ready (span : Span) (s : Settings) (t : State) (bar rows : List ℕ) (start : ℕ) (ls : Lists) : Type 0 where
  pub slots : s.slots ≤ most_slots
  pub bars : t.counts.bars_seen < most_count
  pub long : row_words s.slots ≤ length bar
  pub at : RingAt span s t rows start
  pub lists : judged (list_lines s.slots s.depth ls) ≡ Ok tt

-- the state that an answer hands back
abbrev pub answer_state : Result State (Refusal × State) → State
answer_state (Err (why, t)) = t
answer_state (Ok t) = t

-- each part is the definition's, for rows that stand with the oldest first
pub record Turns (span : Span) (s : Settings) (d : With (Result State (Refusal × State))) (r : Advanced) (ws es ts : List ℕ) : Type 0 where
  pub answer : Is (Result State (Refusal × State)) d r.answer (turned (width s.slots) r.start ws) es ts
  pub at : RingAt span s (answer_state r.answer) ws r.start
