-- The calls that answer a rule. Definitions only.
use Rattle.std.specs.Prelude.{ℕ, Bool, cond, List, ltb, Err, Ok, Result}
use Rattle.words.specs.{Limits.trees, Outcome.Outcome, Outcome.gives, Outcome.refuses}
use Rattle.rules.specs.{declared.position.PositionState.PositionState}
use Rattle.rules.specs.{Answers.answered}
use Rattle.steps.specs.{Running.runs}
use Rattle.replies.specs.{Call.Call, Call.call_of, Call.bit_of}
use Rattle.capi.specs.{Tables.numbered_tree}
use Rattle.steps.specs.{declared.machine.Ran.Ran}
use Rattle.words.specs.{declared.refusal.Refusal.Refusal}

-- 1 yes, 0 no; an absent tree says no
unfoldable pub says_of : ℕ → Bool → ℕ
says_of tree said = cond (ltb tree trees) (bit_of said) 0

-- ---- lent: what the rule says
unfoldable pub rule_gives : Result Bool Refusal → ℕ → Outcome ℕ
rule_gives (Err why) tree = refuses why
rule_gives (Ok said) tree = gives (says_of tree said)

unfoldable pub rule_call : List ℕ → ℕ → List ℕ → PositionState → ℕ → Call ℕ
rule_call table tree rows position before = call_of (rule_gives (answered table (numbered_tree tree) rows position) tree) before

-- ---- lent: what the list says, and how many steps were visited
pub record RunLent : Type 0 where
  pub says : ℕ
  pub visits : ℕ

unfoldable pub run_gives : Result Ran Refusal → Outcome RunLent
run_gives (Err why) = refuses why
run_gives (Ok ran) = gives (record { says = bit_of ran.answer; visits = ran.visits })

unfoldable pub run_call : List ℕ → List ℕ → ℕ → ℕ → PositionState → RunLent → Call RunLent
run_call steps rows slots depth position before = call_of (run_gives (runs steps rows slots depth position)) before
