-- The room is judged, then the metrics are computed and written.
use Rattle.words.specs.Prelude.{sym, ap, ◌∙◌}
use Rattle.metrics.specs.{Figures.outcome}
use Rattle.capi.specs.{Figures.metrics_call, Figures.metrics_gives}
use Rattle.capi.proofs.{Calling.call_bad, Calling.call_refused, Calling.call_gives}
use Rattle.capi.proofs.figures.ysh_metrics.Goals as goal

pub returns-in-Err : goal.returns-in-Err
unfolding metrics_call
returns-in-Err c = call_bad _ _ _ (sym c.judge_metrics.ensures ∙ c.in-Err.is) c.answer_word.ensures

pub returns-in-Err-computed : goal.returns-in-Err-computed
unfolding metrics_call metrics_gives outcome
returns-in-Err-computed c =
    let computed = rw c.float_of.ensures at c.compute-computed.ensures in
    call_refused _ _ _ (sym c.judge_metrics.ensures ∙ c.in_default.is)
    (simp (sym computed ∙ ap outcome c.in-Err-computed.is)) c.answer_word-in-Err-computed.ensures

pub returns-in-Ok : goal.returns-in-Ok
unfolding metrics_call metrics_gives outcome
returns-in-Ok c =
    let computed = rw c.float_of.ensures at c.compute-computed.ensures in
    call_gives _ _ _ (sym c.judge_metrics.ensures ∙ c.in_default.is)
    (simp (sym computed ∙ ap outcome c.in-Ok.is, c.put_metrics.ensures))
