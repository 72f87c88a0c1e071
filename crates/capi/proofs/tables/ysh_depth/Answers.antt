-- The definition goes by the same answer.
use Rattle.words.specs.Prelude.{sym, ◌∙◌}
use Rattle.capi.specs.{Tables.depth_call, Tables.depth_gives}
use Rattle.capi.proofs.{Calling.call_refuses, Calling.call_does}
use Rattle.capi.proofs.tables.ysh_depth.Goals as goal

pub returns-in-Err : goal.returns-in-Err
unfolding depth_call depth_gives
returns-in-Err c =
    call_refuses _ _ (simp (sym c.depth-depth.ensures ∙ c.in-Err.is)) c.answer_word.ensures

pub returns-in-Ok : goal.returns-in-Ok
unfolding depth_call depth_gives
returns-in-Ok c = call_does _ _ (simp (sym c.depth-depth.ensures ∙ c.in-Ok.is))
