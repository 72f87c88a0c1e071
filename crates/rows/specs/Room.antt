-- A lent room of rows, each as many words wide as the row that is added. Definitions only.
use Rattle.std.specs.Prelude.{ℕ, ◌+◌, ◌*◌, ◌/◌, cond, List, ◌++◌, length, take, drop, ltb, eqb}

-- how many rows of `row`'s width the room has a place for
abbrev pub places_for : List ℕ → List ℕ → ℕ
places_for room row = length room / length row

-- "A row is added at the end while there is a place, then the oldest goes and the rest move up." The room's end that is
-- no whole place stays as it was; where there is no place at all, so does the room.
unfoldable pub with_row : List ℕ → ℕ → List ℕ → List ℕ
with_row room held row =
    cond (ltb held (places_for room row)) (take (held * length row) room ++ row ++ drop (held * length row + length row) room)
    (cond (eqb (places_for room row) 0) room
    (drop (length row) (take (places_for room row * length row) room) ++ row ++ drop (places_for room row * length row) room))

-- how many rows the room holds then
unfoldable pub held_with : List ℕ → ℕ → List ℕ → ℕ
held_with room held row = cond (ltb held (places_for room row)) (held + 1) (places_for room row)
