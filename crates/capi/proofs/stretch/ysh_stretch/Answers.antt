-- The definition goes by the same answer of the question.
use Rattle.words.specs.Prelude.{sym, ◌∙◌}
use Rattle.capi.specs.{Stretch.stretch_call, Stretch.stretch_gives}
use Rattle.capi.proofs.{Calling.call_refuses, Calling.call_does}
use Rattle.capi.proofs.stretch.ysh_stretch.Goals as goal

pub returns-in-Err : goal.returns-in-Err
unfolding stretch_call stretch_gives
returns-in-Err c =
    call_refuses _ _ (simp (sym c.stretch-found.ensures ∙ c.in-Err.is)) c.answer_word.ensures

pub returns-in-Ok : goal.returns-in-Ok
unfolding stretch_call stretch_gives
returns-in-Ok c =
    call_does _ _ (simp (sym c.stretch-found.ensures ∙ c.in-Ok.is))
