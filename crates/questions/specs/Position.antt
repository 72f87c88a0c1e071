-- The position of a question, in words. Definitions only.
use Rattle.std.specs.Prelude.{ℕ, ◌+◌, ◌*◌, Bool, List, get_or}
use Rattle.floats.specs.{Floats.float_of}
use Rattle.rules.specs.{declared.position.PositionState.PositionState, Answers.state_right}
use Rattle.records.specs.{StateWords.entered_of}
use Rattle.refusals.specs.{Bar.every}

-- a position state by its words
unfoldable pub position_state : ℕ → ℕ → ℕ → ℕ → PositionState
position_state qty there bar seen = record { qty = float_of qty; entered = entered_of there bar; bars_seen = seen }

-- Decided: a position is four words, as the calls for one question take them: quantity, whether there is an entry bar, that bar, bars seen.
abbrev pub position_words : ℕ
position_words = 4

-- position i of a list of them
unfoldable pub position_at : List ℕ → ℕ → PositionState
position_at ps i =
    position_state (get_or ps (position_words * i + 0) 0) (get_or ps (position_words * i + 1) 0) (get_or ps (position_words * i + 2) 0)
    (get_or ps (position_words * i + 3) 0)

-- whether the counts of each of the first n are in order
unfoldable pub all_right : List ℕ → ℕ → Bool
all_right ps n = every n (λ i. state_right (position_at ps i))
