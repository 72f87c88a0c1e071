-- By the comparison's answer: a refusal keeps the lines and their count, and else both are told.
use Rattle.capi.proofs.{Comparing.compare_refused, Comparing.compare_told}
use Rattle.capi.proofs.compare.ysh_compare.Goals as goal

pub returns-in-Err : goal.returns-in-Err
returns-in-Err c =
    compare_refused _ _ _ _ _ _ _ _ c.compare-compared.ensures c.in-Err.is c.answer_word.ensures

pub returns-in-Ok : goal.returns-in-Ok
returns-in-Ok c =
    compare_told _ _ _ _ _ _ _ _ c.compare-compared.ensures c.in-Ok.is
