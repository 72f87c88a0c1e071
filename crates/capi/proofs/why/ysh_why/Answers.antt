-- The definition goes by the same answer of the chain; a refusal leaves the list as it was.
use Rattle.words.specs.Prelude.{sym, ◌∙◌}
use Rattle.chain.specs.{Explained.lines_after_answer}
use Rattle.capi.specs.{Why.why_call, Why.why_gives}
use Rattle.capi.proofs.{Calling.call_refuses, Calling.call_does}
use Rattle.capi.proofs.why.ysh_why.Goals as goal

pub returns-in-Err : goal.returns-in-Err
unfolding why_call why_gives lines_after_answer
returns-in-Err c =
    let position = c.position_state-position.ensures in
    let told = sym (rw position at c.explain-explained.ensures.value) ∙ c.in-Err.is in
    call_refuses _ _ (simp told) c.answer_word.ensures ∙ simp (c.explain-explained.ensures.lines_after, c.in-Err.is)

pub returns-in-Ok : goal.returns-in-Ok
unfolding why_call why_gives
returns-in-Ok c =
    let position = c.position_state-position.ensures in
    let told = sym (rw position at c.explain-explained.ensures.value) ∙ c.in-Ok.is in
    let lines = rw position at c.explain-explained.ensures.lines_after in
    call_does _ _ (simp (lines, told, c.in-Ok.is))
