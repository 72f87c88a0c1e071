-- Why a tree says what it says at each of the newest rows, refusals and all. Definitions only.
use Rattle.std.specs.Prelude.{ℕ, zero, suc, ◌+◌, ◌-◌, ◌*◌, ◌/◌, ◌%◌, List, [], ◌∷◌, length, take, leb, eqb, Err, Ok, Result}
use Rattle.words.specs.{Words.overwrite}
use Rattle.rows.specs.{History.width, History.history_of, History.whole_rows}
use Rattle.table.specs.{Header.slots}
use Rattle.table.specs.{Checked.checked}
use Rattle.chain.specs.{Chain.ChainLine, Lines.line_length, Lines.chain_words, Explained.explanation, Explained.most_lines}
use Rattle.refusals.specs.{Lines.Line}
use Rattle.refusals.specs.{Lines.line, Lines.judged}
use Rattle.questions.specs.{Position.position_words, Position.position_at, Position.all_right}
use Rattle.refusals.specs.{Lines.Verdict}
use Rattle.words.specs.{declared.refusal.Refusal.Refusal}
use Rattle.table.specs.{declared.answer.Accepted.Accepted}

-- as many rows are asked as there are positions
unfoldable pub asked_rows : List ℕ → ℕ
asked_rows ps = length ps / position_words

-- The rows as they were when the i-th of the n newest was the newest: all up to it, and it.
unfoldable pub rows_to : ℕ → List ℕ → ℕ → ℕ → List ℕ
rows_to K rows n i = take (((history_of K rows).rows - n + i + 1) * width K) rows

-- the lines of question i: those of a single question over these rows, with position i
unfoldable pub explanation_over : List ℕ → ℕ → List ℕ → List ℕ → ℕ → List ChainLine
explanation_over t x rows ps i = explanation t x (rows_to (slots t) rows (asked_rows ps) i) (position_at ps i)

-- Decided: each question has a place of its own in the list, of 32 lines.
abbrev pub place_words : ℕ
place_words = line_length * most_lines

-- the list after the first n questions: the lines of each from the beginning of its place on, and what stood past them
unfoldable pub lines_over : (ℕ → List ChainLine) → ℕ → List ℕ → List ℕ
lines_over each zero lines = lines
lines_over each (suc n) lines = overwrite (lines_over each n lines) (place_words * n) (chain_words (each n))

-- and how many lines each has
unfoldable pub counts_over : (ℕ → List ChainLine) → ℕ → List ℕ → List ℕ
counts_over each zero counts = counts
counts_over each (suc n) counts = overwrite (counts_over each n counts) n (length (each n) ∷ [])

-- "10 if the lent list holds fewer than 32 lines", here for each row: room 10, and room 19 for the counts, both by their lengths. Then 13, as for a single
-- question, and where there are more positions than rows.
unfoldable pub over_lines : ℕ → List ℕ → List ℕ → ℕ → ℕ → List Line
over_lines K rows ps lines counts =
    line (leb (asked_rows ps) (lines / place_words)) (Refusal.Room 10)
    ∷ line (leb (asked_rows ps) counts) (Refusal.Room 19)
    ∷ line (whole_rows K rows) Refusal.Records
    ∷ line (eqb (length ps % position_words) 0) Refusal.Records
    ∷ line (leb (asked_rows ps) (history_of K rows).rows) Refusal.Records
    ∷ line (all_right ps (asked_rows ps)) Refusal.Records
    ∷ []

-- "1 to 9 come first"
unfoldable pub over_by : Result Accepted Refusal → List ℕ → List ℕ → List ℕ → ℕ → ℕ → Verdict
over_by (Err why) t rows ps lines counts = Err why
over_by (Ok accepted) t rows ps lines counts = judged (over_lines (slots t) rows ps lines counts)

unfoldable pub over_verdict : List ℕ → List ℕ → List ℕ → ℕ → ℕ → Verdict
over_verdict t rows ps lines counts = over_by (checked t) t rows ps lines counts

-- "A refusal .. changes nothing lent."
unfoldable pub unless_refused : Verdict → List ℕ → List ℕ → List ℕ
unless_refused (Err why) after before = before
unless_refused (Ok _) after before = after
