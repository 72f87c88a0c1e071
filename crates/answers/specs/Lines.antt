-- The answer to a table as a line. Definitions only.
use Rattle.std.specs.Prelude.{List, [], ◌∷◌, ◌++◌, ℕ, Err, Ok, Result}
use Rattle.answers.specs.{Text.decimal}
use Rattle.words.specs.{declared.refusal.Refusal.Refusal}
use Rattle.table.specs.{declared.answer.Accepted.Accepted}
use Rattle.words.specs.{Outcome.number_of, Outcome.place_of}

-- two words with a number after each, and a newline
unfoldable pub two_numbers : List ℕ → ℕ → List ℕ → ℕ → List ℕ
two_numbers what first then second = what ++ decimal first ++ then ++ decimal second ++ (10 ∷ [])

-- "a refusal prints as `refused 6 at 2`"
abbrev pub refused_line : ℕ → ℕ → List ℕ
refused_line number place = two_numbers (114 ∷ 101 ∷ 102 ∷ 117 ∷ 115 ∷ 101 ∷ 100 ∷ 32 ∷ []) number (32 ∷ 97 ∷ 116 ∷ 32 ∷ []) place

-- "writes exactly `accepted nodes 7 rows 3` and a newline (rows = greatest reach + 1)"
unfoldable pub line_of : Result Accepted Refusal → List ℕ
line_of (Ok accepted) =
    two_numbers (97 ∷ 99 ∷ 99 ∷ 101 ∷ 112 ∷ 116 ∷ 101 ∷ 100 ∷ 32 ∷ 110 ∷ 111 ∷ 100 ∷ 101 ∷ 115 ∷ 32 ∷ []) accepted.nodes (32 ∷ 114 ∷ 111 ∷ 119 ∷ 115 ∷ 32 ∷ []) accepted.rows
line_of (Err why) = refused_line (number_of why) (place_of why)
