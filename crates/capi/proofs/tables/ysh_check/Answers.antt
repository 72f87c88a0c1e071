-- The definition goes by the same answer of the check.
use Rattle.words.specs.Prelude.{sym, ◌∙◌}
use Rattle.capi.specs.{Tables.check_call, Tables.check_gives}
use Rattle.capi.proofs.{Calling.call_refuses, Calling.call_does}
use Rattle.capi.proofs.tables.ysh_check.Goals as goal

pub returns-in-Err : goal.returns-in-Err
unfolding check_call check_gives
returns-in-Err c =
    call_refuses _ _ (simp (sym c.check-checked.ensures.0 ∙ c.in-Err.is)) c.answer_word.ensures

pub returns-in-Ok : goal.returns-in-Ok
unfolding check_call check_gives
returns-in-Ok c = call_does _ _ (simp (sym c.check-checked.ensures.0 ∙ c.in-Ok.is))
