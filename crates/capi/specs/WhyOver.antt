-- The call that says why a rule said yes or no at each of the newest rows. Definitions only.
use Rattle.std.specs.Prelude.{ℕ, List, length}
use Rattle.words.specs.{Outcome.Outcome, Outcome.gives}
use Rattle.questions.specs.{Over.asked_rows, Over.explanation_over, Over.lines_over, Over.counts_over, Over.over_verdict}
use Rattle.replies.specs.{Call.Call, Call.call_of, Call.unless_bad}

-- ---- lent: a place of 32 lines for each row, and the count of lines for each
pub record OverLent : Type 0 where
  pub lines : List ℕ
  pub counts : List ℕ

unfoldable pub over_gives : List ℕ → ℕ → List ℕ → List ℕ → OverLent → Outcome OverLent
over_gives table tree rows positions before =
    let each = explanation_over table tree rows positions in
    let n = asked_rows positions in
    unless_bad (over_verdict table rows positions (length before.lines) (length before.counts))
    (gives (record { lines = lines_over each n before.lines; counts = counts_over each n before.counts }))

unfoldable pub over_call : List ℕ → ℕ → List ℕ → List ℕ → OverLent → Call OverLent
over_call table tree rows positions before = call_of (over_gives table tree rows positions before) before
