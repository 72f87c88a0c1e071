-- The call that begins a run. Definitions only.
use Rattle.std.specs.Prelude.{ℕ, List}
use Rattle.words.specs.{Words.overwrite, Outcome.gives}
use Rattle.records.specs.{Settings.settings_of, State.fresh_state, StateWords.words_of}
use Rattle.refusals.specs.{Lines.judged}
use Rattle.replies.specs.{Call.Call, Call.call_of, Call.unless_bad, Call.word_lines}

-- lent: the room of the state
unfoldable pub fresh_call : List ℕ → List ℕ → Call (List ℕ)
fresh_call settings state =
    call_of (unless_bad (judged (word_lines settings state)) (gives (overwrite state 0 (words_of (fresh_state (settings_of settings)))))) state
