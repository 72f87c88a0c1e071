-- The call that says why a rule said yes or no. Definitions only.
use Rattle.std.specs.Prelude.{ℕ, List, Err, Ok, Result}
use Rattle.words.specs.{Outcome.Outcome, Outcome.gives, Outcome.refuses}
use Rattle.rules.specs.{declared.position.PositionState.PositionState}
use Rattle.chain.specs.{Explained.explanation, Explained.explained, Explained.lines_after_answer}
use Rattle.replies.specs.{Call.Call, Call.call_of}
use Rattle.words.specs.{declared.refusal.Refusal.Refusal}

-- ---- lent: how many lines there are, and the list of lines
pub record WhyLent : Type 0 where
  pub count : ℕ
  pub lines : List ℕ

unfoldable pub why_gives : Result ℕ Refusal → List ℕ → Outcome WhyLent
why_gives (Err why) lines = refuses why
why_gives (Ok many) lines = gives (record { count = many; lines = lines })

unfoldable pub why_call : List ℕ → ℕ → List ℕ → PositionState → WhyLent → Call WhyLent
why_call table tree rows position before =
    let answer = explained table tree rows position before.lines in
    call_of (why_gives answer (lines_after_answer answer (explanation table tree rows position) before.lines)) before
