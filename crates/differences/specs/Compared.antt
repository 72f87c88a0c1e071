-- The comparison and its refusals. Definitions only.
use Rattle.std.specs.Prelude.{ℕ, ◌*◌, ◌%◌, Bool, cond, ◌&&◌, List, eqb, leb, length, Err, Ok, Result}
use Rattle.words.specs.{Limits.point_words, Limits.trade_words, Words.overwrite}
use Rattle.differences.specs.{Lines.Line, Lines.line_words, Lines.differences, Lines.words_of}
use Rattle.words.specs.{declared.refusal.Refusal.Refusal}

-- the answer, and the room of the lines as it is left
pub record Comparison : Type 0 where
  pub answer : Result ℕ Refusal
  pub room : List ℕ

-- "13 .. a row, bar or trade list is not whole records"
abbrev pub whole : List ℕ → List ℕ → Bool
whole equity list = eqb (length equity % point_words) 0 && eqb (length list % trade_words) 0

-- the lines that there are, where the room holds them all: "10 if the lent list can't hold them all"
unfoldable pub written : List Line → List ℕ → Comparison
written ls room =
    cond (leb (line_words * length ls) (length room)) (record { answer = Ok (length ls); room = overwrite room 0 (words_of ls) })
    (record { answer = Err (Refusal.Room 15); room = room })

-- "Refusals: 13 here comes first, then 10"; a refusal leaves the room
unfoldable pub compared : List ℕ → List ℕ → List ℕ → List ℕ → List ℕ → Comparison
compared equity list otherEquity otherList room =
    cond (whole equity list && whole otherEquity otherList) (written (differences equity list otherEquity otherList) room)
    (record { answer = Err Refusal.Records; room = room })
