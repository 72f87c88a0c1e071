-- The definition goes by the same answer of the run.
use Rattle.words.specs.Prelude.{sym, ◌∙◌}
use Rattle.capi.specs.{Run.run_call, Run.run_gives}
use Rattle.capi.proofs.{Calling.call_refuses, Calling.call_does}
use Rattle.capi.proofs.run.ysh_run.Goals as goal

pub returns-in-Err : goal.returns-in-Err
unfolding run_call run_gives
returns-in-Err c =
    let ran = rw c.position_state-position.ensures at c.run-ran.ensures in
    call_refuses _ _ (simp (sym ran ∙ c.in-Err.is)) c.answer_word.ensures

pub returns-in-Ok : goal.returns-in-Ok
unfolding run_call run_gives
returns-in-Ok c =
    let ran = rw c.position_state-position.ensures at c.run-ran.ensures in
    call_does _ _ (simp (sym ran ∙ c.in-Ok.is, c.bit_of.ensures))
