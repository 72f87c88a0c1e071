-- ysh_why: each of its refusals has a number and a place that an answer can hold, so the law over calls holds of it.
use Rattle.std.specs.Prelude.{ℕ, ◌≡◌, refl, Bool, true, false, cond, ◌&&◌, List, ltb, length, Err, Ok, Result}
use Rattle.words.specs.Prelude.{arith}
use Rattle.words.specs.{declared.refusal.Refusal.Refusal}
use Rattle.rows.specs.{History.whole_rows}
use Rattle.table.specs.{Header.slots}
use Rattle.table.specs.{Checked.checked}
use Rattle.rules.specs.{declared.position.PositionState.PositionState, Answers.state_right}
use Rattle.chain.specs.{Explained.explanation}
use Rattle.chain.specs.{Explained.explained_by, Explained.explained, Explained.lines_after_answer}
use Rattle.capi.specs.{Why.WhyLent, Why.why_gives, Why.why_call, Laws.Calls.FitsAnswer, Laws.Calls.Numbered, Laws.Calls.Honest, Laws.Calls.honest}
use Rattle.capi.specs.{Laws.Calls.one_refusal, Laws.Calls.never_refuses, Laws.TableCalls.table_number}
use Rattle.table.specs.{declared.answer.Accepted.Accepted}

why_by : (few fine : Bool) (many : ℕ) (lines : List ℕ)
    → Numbered (why_gives (cond few (Err (Refusal.Room 10)) (cond fine (Ok many) (Err Refusal.Records))) lines)
unfolding why_gives
why_by true fine many lines = one_refusal _ (record { some = omega arith; number = omega arith; place = omega arith })
why_by false true many lines = never_refuses _
why_by false false many lines = one_refusal _ (record { some = omega arith; number = omega arith; place = omega arith })

why_numbered : (a : Result Accepted Refusal) (t : List ℕ) (x : ℕ) (rows : List ℕ) (s : PositionState) (list lines : List ℕ)
    → ((why : Refusal) → a ≡ Err why → FitsAnswer why) → Numbered (why_gives (explained_by a t x rows s list) lines)
unfolding why_gives explained_by
why_numbered (Err why) t x rows s list lines n = one_refusal why (n why refl)
why_numbered (Ok accepted) t x rows s list lines m = why_by (ltb (length list) 256) (whole_rows (slots t) rows && state_right s) _ lines

pub why_honest : (t : List ℕ) (tree : ℕ) (rows : List ℕ) (s : PositionState) (before : WhyLent) →
    (let answer = explained t tree rows s before.lines in
    Honest (why_call t tree rows s before) before (why_gives answer (lines_after_answer answer (explanation t tree rows s) before.lines)))
unfolding why_call explained
why_honest t tree rows s before = honest _ before (why_numbered (checked t) t tree rows s before.lines _ (table_number t))
