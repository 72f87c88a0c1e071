-- What an answer says determines it: no second answer meets the promise of `compute`.
use Rattle.std.specs.Prelude.{◌≡◌, Err, Ok, Result}
use Rattle.metrics.specs.{Figures.outcome}
use Rattle.words.specs.{declared.refusal.Refusal.Refusal}
use Rattle.metrics.specs.{declared.Metrics.Metrics}

pub outcome_only : (a b : Result Metrics Refusal) → outcome a ≡ outcome b → a ≡ b
unfolding outcome
outcome_only (Ok m) (Ok n) h = cc
outcome_only (Ok m) (Err q) h = cc
outcome_only (Err r) (Ok m) h = cc
outcome_only (Err r) (Err q) h = cc
