-- Each list is a block, judged by itself.
use Rattle.std.specs.Prelude.{◌≡◌, Err}
use Rattle.words.specs.Prelude.{refl, rules, ◌∙◌}
use Rattle.refusals.specs.{Lists.lists_of, Lists.list_lines}
use Rattle.refusals.specs.Laws.Descent.{Below, top, past_block, stop_block, last_block}
use Rattle.refusals.proofs.lists.judge_lists.Goals as goal

pub returns-in_err-judge_list : goal.returns-in_err-judge_list
unfolding list_lines
returns-in_err-judge_list c =
    let given : c.from_residual.result ≡ Err c.in_err-judge_list.field-0.0 = search rules in
    given ∙ stop_block top _ _ c.judge_list.ensures refl c.in_err-judge_list.was

pub returns-in_err-judge_list-2 : goal.returns-in_err-judge_list-2
unfolding list_lines
returns-in_err-judge_list-2 c =
    let past1 : (let a = c.args in Below (list_lines a.slots a.depth (lists_of a.trees))) = past_block top _ _ c.judge_list.ensures refl c.in_ok-judge_list.was in
    let given : c.from_residual-in_err-judge_list-2.result ≡ Err c.in_err-judge_list-2.field-0.0 = search rules in
    given ∙ stop_block past1 _ _ c.judge_list-2.ensures refl c.in_err-judge_list-2.was

pub returns-in_err-judge_list-3 : goal.returns-in_err-judge_list-3
unfolding list_lines
returns-in_err-judge_list-3 c =
    let past1 : (let a = c.args in Below (list_lines a.slots a.depth (lists_of a.trees))) = past_block top _ _ c.judge_list.ensures refl c.in_ok-judge_list.was in
    let past2 = past_block past1 _ _ c.judge_list-2.ensures refl c.in_ok-judge_list-2.was in
    let given : c.from_residual-in_err-judge_list-3.result ≡ Err c.in_err-judge_list-3.field-0.0 = search rules in
    given ∙ stop_block past2 _ _ c.judge_list-3.ensures refl c.in_err-judge_list-3.was

pub returns : goal.returns
unfolding list_lines
returns c =
    let past1 : (let a = c.args in Below (list_lines a.slots a.depth (lists_of a.trees))) = past_block top _ _ c.judge_list.ensures refl c.in_ok-judge_list.was in
    let past2 = past_block past1 _ _ c.judge_list-2.ensures refl c.in_ok-judge_list-2.was in
    let past3 = past_block past2 _ _ c.judge_list-3.ensures refl c.in_ok-judge_list-3.was in
    last_block past3 c.judge_list-4.ensures
