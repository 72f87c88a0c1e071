-- What the end of a run gives. Definitions only.
use Rattle.std.specs.Prelude.{Result, Ok}
use Rattle.words.specs.{declared.refusal.Refusal.Refusal}
use Rattle.records.specs.{declared.state.State.State}
use Rattle.metrics.specs.{declared.Metrics.Metrics}
use Rattle.engine.specs.{declared.answer.Ended.Ended}

-- the last state and the figures
abbrev pub at_end : State → Metrics → Result Ended (Refusal × State)
at_end state metrics = Ok (record { state = state; metrics = metrics })
