-- A full room used as a ring: a row goes over the oldest and nothing moves. Definitions only.
use Rattle.std.specs.Prelude.{ℕ, ◌+◌, ◌-◌, ◌*◌, ◌/◌, cond, List, ◌++◌, length, take, drop, ltb}
use Rattle.words.specs.{Words.overwrite}
use Rattle.rows.specs.{declared.ring.Ring.Ring, History.History, History.history_of, Room.places_for}

-- ---- rows that begin at a row of the list, go on to its end, and then from its front

-- The row that they begin at: the first where the list has no such row.
unfoldable pub start_within : ℕ → ℕ → ℕ
start_within places start = cond (ltb start places) start 0

-- Where row i of them stands; one past the last stands where it would in any list.
unfoldable pub ring_place : ℕ → ℕ → ℕ → ℕ
ring_place places first i = cond (ltb i places) (cond (ltb (first + i) places) (first + i) (first + i - places)) i

-- The rows of a list of words, from row `start` on.
unfoldable pub ring_of : ℕ → ℕ → List ℕ → History
ring_of K start ws =
    let h = history_of K ws in
    record { rows = h.rows; word = λ i. h.word (ring_place h.rows (start_within h.rows start) i) }

-- The words turned so that row `start` stands first, each row w words wide. What is no whole row at the end stays as it was.
unfoldable pub turned : ℕ → ℕ → List ℕ → List ℕ
turned w start ws =
    let whole = take (length ws / w * w) ws in drop (start * w) whole ++ take (start * w) whole ++ drop (length ws / w * w) ws

-- ---- a room that is written so

-- A row added to a room: at the end while there is a place, then over the oldest.
unfoldable pub ring_with : List ℕ → Ring → List ℕ → List ℕ
ring_with room ring row =
    cond (ltb ring.held (places_for room row)) (overwrite room (ring.held * length row) row)
    (cond (ltb ring.start (places_for room row)) (overwrite room (ring.start * length row) row) room)

-- The row after `start`, and after the last the first.
unfoldable pub next_start : ℕ → ℕ → ℕ
next_start places start = cond (ltb (start + 1) places) (start + 1) 0

-- How many rows it holds then, and which is the oldest.
unfoldable pub ring_after : List ℕ → Ring → List ℕ → Ring
ring_after room ring row =
    cond (ltb ring.held (places_for room row)) (record { held = ring.held + 1; start = ring.start })
    (record { held = places_for room row; start = next_start (places_for room row) ring.start })
