-- The rooms are judged, then the fresh state is written.
use Rattle.words.specs.Prelude.{sym, ◌∙◌}
use Rattle.capi.specs.{Fresh.fresh_call}
use Rattle.capi.proofs.{Calling.call_bad, Calling.call_gives}
use Rattle.capi.proofs.state.ysh_fresh.Goals as goal

pub returns-in-Err : goal.returns-in-Err
unfolding fresh_call
returns-in-Err c =
    call_bad _ _ _ (sym c.judge_words.ensures ∙ c.in-Err.is) c.answer_word.ensures

pub returns : goal.returns
unfolding fresh_call
returns c =
    call_gives _ _ _ (sym c.judge_words.ensures ∙ c.in_default.is)
    (simp (c.put_state.ensures, c.fresh.ensures, c.settings_of.ensures))
