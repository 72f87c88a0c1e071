-- `check_reach` meets its contract: the answer is handed on, with the array beside it.
-- Assumes nothing.
use Rattle.words.specs.Prelude.{sym, ◌∙◌}
use Rattle.table.proofs.{Final.keep_refused, Final.keep_accepted}
use Rattle.table.proofs.check_reach.Goals as goal

pub returns-in-Err : goal.returns-in-Err
returns-in-Err c =
    keep_refused _ _ _ _ _
    (sym c.far_or_accepted-answer.ensures ∙ c.in-Err.is) c.refused.ensures.0
    c.refused.ensures.1

pub returns-in-Ok : goal.returns-in-Ok
returns-in-Ok c = keep_accepted _ _ _ _ (sym c.far_or_accepted-answer.ensures ∙ c.in-Ok.is)
