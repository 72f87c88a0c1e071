-- Room, settings and state are blocks, each judged by itself; the trade to be closed comes last.
use Rattle.std.specs.Prelude.{◌≡◌, Err}
use Rattle.words.specs.Prelude.{refl, ◌∙◌, rules}
use Rattle.records.specs.{Lent.rooms}
use Rattle.refusals.specs.{Judgement.finish_judged, Judgement.finish_lines}
use Rattle.refusals.specs.Laws.Descent.{Below, top, past_block, stop_block, last_block}
use Rattle.refusals.proofs.judge_finish.Goals as goal

pub returns-in_err-judge_room : goal.returns-in_err-judge_room
unfolding finish_judged finish_lines
returns-in_err-judge_room c =
    let given : c.from_residual.result ≡ Err c.in_err-judge_room.field-0.0 = search rules in
    given ∙ stop_block top _ _ c.judge_room.ensures refl c.in_err-judge_room.was

pub returns-in_err-judge_settings : goal.returns-in_err-judge_settings
unfolding finish_judged finish_lines
returns-in_err-judge_settings c =
    let past1 : (let a = c.args in Below (finish_lines a.s a.t (rooms a.rows.now a.equity.now a.trades.now))) = past_block top _ _ c.judge_room.ensures refl c.in_ok-judge_room.was in
    let given : c.from_residual-in_err-judge_settings.result ≡ Err c.in_err-judge_settings.field-0.0 = search rules in
    given ∙ stop_block past1 _ _ c.judge_settings.ensures refl c.in_err-judge_settings.was

pub returns-in_err-judge_state : goal.returns-in_err-judge_state
unfolding finish_judged finish_lines
returns-in_err-judge_state c =
    let past1 : (let a = c.args in Below (finish_lines a.s a.t (rooms a.rows.now a.equity.now a.trades.now))) = past_block top _ _ c.judge_room.ensures refl c.in_ok-judge_room.was in
    let past2 = past_block past1 _ _ c.judge_settings.ensures refl c.in_ok-judge_settings.was in
    let given : c.from_residual-in_err-judge_state.result ≡ Err c.in_err-judge_state.field-0.0 = search rules in
    given ∙ stop_block past2 _ _ c.judge_state.ensures refl c.in_err-judge_state.was

pub returns : goal.returns
unfolding finish_judged finish_lines
returns c =
    let past1 : (let a = c.args in Below (finish_lines a.s a.t (rooms a.rows.now a.equity.now a.trades.now))) = past_block top _ _ c.judge_room.ensures refl c.in_ok-judge_room.was in
    let past2 = past_block past1 _ _ c.judge_settings.ensures refl c.in_ok-judge_settings.was in
    let past3 = past_block past2 _ _ c.judge_state.ensures refl c.in_ok-judge_state.was in
    last_block past3 c.judge_close.ensures
