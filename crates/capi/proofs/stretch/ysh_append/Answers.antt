-- By the append's answer: a refusal keeps the rooms, and else a bar more is held.
use Rattle.capi.proofs.{Stretching.append_refused, Stretching.append_taken}
use Rattle.capi.proofs.stretch.ysh_append.Goals as goal

pub returns-in-Err : goal.returns-in-Err
returns-in-Err c =
    append_refused _ _ _ _ _ _ _ c.append-added.ensures c.in-Err.is c.answer_word.ensures

pub returns-in-Ok : goal.returns-in-Ok
returns-in-Ok c =
    append_taken _ _ _ _ _ _ _ c.append-added.ensures c.in-Ok.is
