-- Room and settings are blocks, each judged by itself; the state comes last.
use Rattle.std.specs.Prelude.{◌≡◌, Err}
use Rattle.words.specs.Prelude.{refl, ◌∙◌, rules}
use Rattle.refusals.specs.Laws.Descent.{Below, top, past_block, stop_block, last_block}
use Rattle.dumpable.specs.{Refused.part_judged, Refused.part_lines}
use Rattle.dumpable.proofs.judge.judge_held.Goals as goal

pub returns-in_err-judge_room : goal.returns-in_err-judge_room
unfolding part_judged part_lines
returns-in_err-judge_room c =
    let given : c.from_residual.result ≡ Err c.in_err-judge_room.field-0.0 = search rules in
    given ∙ stop_block top _ _ c.judge_room.ensures refl c.in_err-judge_room.was

pub returns-in_err-judge_settings : goal.returns-in_err-judge_settings
unfolding part_judged part_lines
returns-in_err-judge_settings c =
    let past1 : (let a = c.args in Below (part_lines a.s a.t a.rows.now)) = past_block top _ _ c.judge_room.ensures refl c.in_ok-judge_room.was in
    let given : c.from_residual-in_err-judge_settings.result ≡ Err c.in_err-judge_settings.field-0.0 = search rules in
    given ∙ stop_block past1 _ _ c.judge_settings.ensures refl c.in_err-judge_settings.was

pub returns : goal.returns
unfolding part_judged part_lines
returns c =
    let past1 : (let a = c.args in Below (part_lines a.s a.t a.rows.now)) = past_block top _ _ c.judge_room.ensures refl c.in_ok-judge_room.was in
    let past2 = past_block past1 _ _ c.judge_settings.ensures refl c.in_ok-judge_settings.was in
    last_block past2 c.judge_counts.ensures
