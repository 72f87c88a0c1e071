-- By the verdict: a refusal keeps the lines and the counts, and else both are written.
use Rattle.capi.proofs.{Asking.over_refused, Asking.over_told}
use Rattle.capi.proofs.why_over.ysh_why_over.Goals as goal

pub returns-in-Err : goal.returns-in-Err
returns-in-Err c =
    over_refused _ _ _ _ _ _ _ _ _ c.explain_over-verdict.ensures c.in-Err.is c.answer_word.ensures

pub returns-in-Ok : goal.returns-in-Ok
returns-in-Ok c =
    over_told _ _ _ _ _ _ _ _ _ c.explain_over-verdict.ensures c.in-Ok.is
