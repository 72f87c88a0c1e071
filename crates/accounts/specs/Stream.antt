-- The stream of request 14: which of its bars are taken. Definitions only.
use Rattle.std.specs.Prelude.{ℕ, ◌+◌, ◌/◌, cond, List, [], ◌∷◌, ltb, leb, eqb, length, Err, Ok}
use Rattle.words.specs.{Limits.bar_words, Limits.most_count, Limits.most_slots}
use Rattle.refusals.specs.{Bar.bar_lines, Day.whole_bars, Lines.Line, Lines.line, Lines.judged}
use Rattle.engine.specs.{Day.in_records}
use Rattle.accounts.specs.{declared.stream.StreamTaken.StreamTaken}
use Rattle.refusals.specs.{Lines.Verdict}
use Rattle.words.specs.declared.refusal.Refusal.TheVariants as Refusal

-- Once for all bars. "more than 64 stream slots gives 12 at 0". 13 as in a step: a count above 4,294,967,295, a list that is not whole records.
unfoldable pub stream_lines : ℕ → ℕ → List ℕ → List Line
stream_lines S seen bars =
    line (leb S most_slots) (Refusal.Setting 0)
    ∷ line (leb seen most_count) Refusal.Records
    ∷ line (whole_bars S bars) Refusal.Records
    ∷ []

-- Of each bar. "each bar is checked with 11 against that count", "11 is given at the stream's bars". 14 as in a step: 4,294,967,295 bars seen.
unfoldable pub stream_bar_lines : ℕ → ℕ → List ℕ → List Line
stream_bar_lines S seen bar = line (ltb seen most_count) Refusal.Full ∷ bar_lines S bar seen

abbrev pub none_taken : Verdict → StreamTaken
none_taken v = record { done = 0; verdict = v }

abbrev pub one_more_taken : StreamTaken → StreamTaken
one_more_taken t = record { done = t.done + 1; verdict = t.verdict }

-- what a verdict ends, or another goes on with
unfoldable pub taken_unless : Verdict → StreamTaken → StreamTaken
taken_unless (Err why) t = none_taken (Err why)
taken_unless (Ok _) t = t

-- bar after bar, until one is refused
unfoldable pub stream_takes : ℕ → ℕ → List (List ℕ) → StreamTaken
stream_takes S seen [] = none_taken (Ok tt)
stream_takes S seen (bar ∷ bars) = taken_unless (judged (stream_bar_lines S seen bar)) (one_more_taken (stream_takes S (seen + 1) bars))

-- Of a list of bars. Decided: no bars ask nothing of the stream.
unfoldable pub stream_taken : ℕ → ℕ → List ℕ → StreamTaken
stream_taken S seen bars =
    cond (eqb (length bars) 0) (none_taken (Ok tt))
    (taken_unless (judged (stream_lines S seen bars)) (stream_takes S seen (in_records (length bars / bar_words S) (bar_words S) bars)))
