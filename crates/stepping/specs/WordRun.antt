-- A run through the C interface: a call of ysh_step for each bar, over the words that the one before left. Definitions only.
use Rattle.std.specs.Prelude.{ℕ, ◌+◌, cond, List, [], ◌∷◌, eqb, Err, Ok}
use Rattle.words.specs.{Words.overwrite}
use Rattle.records.specs.{declared.state.State.State, Lent.Rooms, Lent.Lists, StateWords.words_of}
use Rattle.engine.specs.{Run.Run}
use Rattle.replies.specs.{Call.answer_word}
use Rattle.stepping.specs.{Bars.StepLent, Bars.step_call}
use Rattle.refusals.specs.{Lines.Verdict}

-- How many calls did their work, the answer of the one that ended the run (0 where all did), and what is left.
pub record WordRun : Type 0 where
  pub done : ℕ
  pub answer : ℕ
  pub lent : StepLent

-- a call more, before those of a run
abbrev pub call_more : WordRun → WordRun
call_more r = record { done = r.done + 1; answer = r.answer; lent = r.lent }

-- until a call answers other than 0
unfoldable pub calls_over : List ℕ → Lists → StepLent → List (List ℕ) → WordRun
calls_over settings ls lent [] = record { done = 0; answer = 0; lent = lent }
calls_over settings ls lent (bar ∷ bars) =
    let c = step_call settings lent.state bar lent.rooms ls in
    cond (eqb c.answer 0) (call_more (calls_over settings ls c.lent bars)) (record { done = 0; answer = c.answer; lent = c.lent })

-- ---- the engine's, in words

-- what a verdict answers
unfoldable pub answer_of : Verdict → ℕ
answer_of (Ok _) = 0
answer_of (Err r) = answer_word r

-- a state's words stand at the start of the room that is lent for them
abbrev pub lent_with : List ℕ → State → Rooms → StepLent
lent_with room t m = record { state = overwrite room 0 (words_of t); rooms = m }

abbrev pub in_words : List ℕ → Run → WordRun
in_words room r = record { done = r.done; answer = answer_of r.verdict; lent = lent_with room r.state r.rooms }
