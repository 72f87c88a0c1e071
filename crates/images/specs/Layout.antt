-- The image: the bytes that a state and its window are written as. Definitions only.
use Rattle.std.specs.Prelude.{ℕ, ◌+◌, ◌-◌, ◌*◌, ◌/◌, ◌%◌, cond, ◌&&◌, List, [], ◌∷◌, ◌++◌, leb, length, replicate}
use Rattle.words.specs.{Limits.row_words, Limits.most_slots, Limits.most_rows, Words.word}
use Rattle.rows.specs.{History.last_rows}
use Rattle.steps.specs.{Bytes.two, Bytes.four, Bytes.eight}
use Rattle.records.specs.{declared.settings.Settings.Settings, declared.state.State.State, StateWords.words_of}
use Rattle.engine.specs.{Record.held_rows}

-- the bytes before the rows
abbrev pub head_bytes : ℕ
head_bytes = 256

-- the bytes of the rows, zero rows included
abbrev pub body_bytes : ℕ → ℕ → ℕ
body_bytes K D = D * (8 * row_words K)

-- "The size is 256 + D·8·(7 + K) bytes, always"
unfoldable pub dump_bytes : ℕ → ℕ → ℕ
dump_bytes K D = head_bytes + body_bytes K D

-- for a D and a K that are given: 0 where no settings have them
unfoldable pub size_for : ℕ → ℕ → ℕ
size_for K D = cond (leb K most_slots && (leb 1 D && leb D most_rows)) (dump_bytes K D) 0

-- a number's lowest byte; `two`, `four` and `eight` are its lowest bytes, the lowest first
abbrev pub single : ℕ → List ℕ
single n = n % 256 ∷ []

-- words, eight bytes each
unfoldable pub words_bytes : List ℕ → List ℕ
words_bytes [] = []
words_bytes (w ∷ ws) = eight w ++ words_bytes ws

-- bytes 0 to 31: the mark `WDP`, K, version 1, D; bars seen, rows; order, its kind, whether entered, a spare byte, the entry bar;
-- the delay left. `ws` are the words of the state.
unfoldable pub numbers : ℕ → ℕ → ℕ → List ℕ → List ℕ
numbers K D held ws =
    (87 ∷ 68 ∷ 80 ∷ [])
    ++ (single K ++ (two 1 ++ (two D
    ++ (four (word ws 0) ++ (four held
    ++ (single (word ws 4) ++ (single (word ws 17) ++ (single (word ws 6) ++ (single 0 ++ (four (word ws 7)
    ++ eight (word ws 5)))))))))))

-- bytes 32 to 135: cash, quantity, entry price; entry time; entry fee, fees paid; favourable extreme; last time, last close; level, limit;
-- funding of the open trade and its worst price
unfoldable pub amounts : List ℕ → List ℕ
amounts ws =
    word ws 8 ∷ word ws 9 ∷ word ws 10 ∷ word ws 11 ∷ word ws 12 ∷ word ws 13 ∷ word ws 14 ∷ word ws 15 ∷ word ws 16
    ∷ word ws 18 ∷ word ws 19 ∷ word ws 20 ∷ word ws 21 ∷ []

-- bytes 0 to 255; 19 and 136 to 255 are spare, zero
unfoldable pub head : ℕ → ℕ → ℕ → List ℕ → List ℕ
head K D held ws = numbers K D held ws ++ (words_bytes (amounts ws) ++ replicate 120 0)

-- "256 on: rows, oldest first, then zero rows"
unfoldable pub body : ℕ → ℕ → List ℕ → List ℕ
body K D rows = words_bytes rows ++ replicate (body_bytes K D - 8 * length rows) 0

unfoldable pub image : ℕ → ℕ → List ℕ → List ℕ → List ℕ
image K D ws rows = head K D (length rows / row_words K) ws ++ body K D rows

-- "its state and the window": of the rows that the room holds, the last D, or all where there are fewer
unfoldable pub window_of : Settings → State → List ℕ → List ℕ
window_of s t room = last_rows s.slots s.depth (held_rows s.slots t.counts.rows_held room)

unfoldable pub image_of : Settings → State → List ℕ → List ℕ
image_of s t room = image s.slots s.depth (words_of t) (window_of s t room)
