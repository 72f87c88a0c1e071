-- The call that gives the metrics. Definitions only.
use Rattle.std.specs.Prelude.{ℕ, List}
use Rattle.words.specs.{Words.overwrite, Outcome.Outcome, Outcome.gives, Outcome.refuses}
use Rattle.floats.specs.{Floats.float_of}
use Rattle.metrics.specs.{declared.Metrics.Metrics, Figures.computed, Figures.figure_words}
use Rattle.refusals.specs.{Lines.judged}
use Rattle.replies.specs.{Call.Call, Call.call_of, Call.unless_bad, Call.metric_lines}

-- lent: the room of the metrics
unfoldable pub metrics_gives : Outcome Metrics → List ℕ → Outcome (List ℕ)
metrics_gives (refuses why) room = refuses why
metrics_gives (gives m) room = gives (overwrite room 0 (figure_words m))

unfoldable pub metrics_call : ℕ → List ℕ → List ℕ → List ℕ → Call (List ℕ)
metrics_call initial equity trades room =
    call_of (unless_bad (judged (metric_lines room)) (metrics_gives (computed (float_of initial) equity trades) room)) room
