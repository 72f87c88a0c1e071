-- The definition goes by the same answer of the table's list; a refusal leaves the list as it was.
use Rattle.words.specs.Prelude.{sym, ◌∙◌}
use Rattle.table.specs.{Silent.list_after_answer}
use Rattle.capi.specs.{Tables.silent_call, Tables.silent_gives}
use Rattle.capi.proofs.{Calling.call_refuses, Calling.call_does}
use Rattle.capi.proofs.tables.ysh_silent.Goals as goal

pub returns-in-Err : goal.returns-in-Err
unfolding silent_call silent_gives list_after_answer
returns-in-Err c =
    let told = sym c.silent_tests-silent.ensures.value ∙ c.in-Err.is in
    call_refuses _ _ (simp told) c.answer_word.ensures ∙ simp (c.silent_tests-silent.ensures.list_after, c.in-Err.is)

pub returns-in-Ok : goal.returns-in-Ok
unfolding silent_call silent_gives
returns-in-Ok c =
    let told = sym c.silent_tests-silent.ensures.value ∙ c.in-Ok.is in
    call_does _ _ (simp (c.silent_tests-silent.ensures.list_after, told, c.in-Ok.is))
