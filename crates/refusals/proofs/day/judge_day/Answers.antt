-- Room, settings and state are blocks, each judged by itself; the list of bars comes last.
use Rattle.std.specs.Prelude.{◌≡◌, Err}
use Rattle.words.specs.Prelude.{refl, sym, ◌∙◌, rules}
use Rattle.records.specs.{Lent.rooms}
use Rattle.refusals.specs.{Day.day_lines, Laws.Fine.settings_fine}
use Rattle.refusals.specs.Laws.Descent.{Below, top, past, stop, past_block, stop_block, all_hold}
use Rattle.refusals.proofs.day.judge_day.Goals as goal

pub returns-in_err-judge_room : goal.returns-in_err-judge_room
unfolding day_lines
returns-in_err-judge_room c =
    let given : c.from_residual.result ≡ Err c.in_err-judge_room.field-0.0 = search rules in
    given ∙ stop_block top _ _ c.judge_room.ensures refl c.in_err-judge_room.was

pub returns-in_err-judge_settings : goal.returns-in_err-judge_settings
unfolding day_lines
returns-in_err-judge_settings c =
    let past1 : (let a = c.args in
    Below (day_lines a.span a.s a.t a.bars.now (rooms a.rows.now a.equity.now a.trades.now))) = past_block top _ _ c.judge_room.ensures refl c.in_ok-judge_room.was in
    let given : c.from_residual-in_err-judge_settings.result ≡ Err c.in_err-judge_settings.field-0.0 = search rules in
    given ∙ stop_block past1 _ _ c.judge_settings.ensures refl c.in_err-judge_settings.was

pub returns-in_err-judge_state : goal.returns-in_err-judge_state
unfolding day_lines
returns-in_err-judge_state c =
    let past2 : (let a = c.args in
    Below (day_lines a.span a.s a.t a.bars.now (rooms a.rows.now a.equity.now a.trades.now))) = let past1 : (let a = c.args in
    Below (day_lines a.span a.s a.t a.bars.now (rooms a.rows.now a.equity.now a.trades.now))) = past_block top _ _ c.judge_room.ensures refl c.in_ok-judge_room.was in
    past_block past1 _ _ c.judge_settings.ensures refl c.in_ok-judge_settings.was in
    let given : c.from_residual-in_err-judge_state.result ≡ Err c.in_err-judge_state.field-0.0 = search rules in
    given ∙ stop_block past2 _ _ c.judge_state.ensures refl c.in_err-judge_state.was

pub are_for-requires : goal.are_for-requires
are_for-requires c = (settings_fine c.args.s (sym c.judge_settings.ensures ∙ c.in_ok-judge_settings.was)).slots

pub returns-then-are_for : goal.returns-then-are_for
unfolding day_lines
returns-then-are_for c =
    let past3 : (let a = c.args in
    Below (day_lines a.span a.s a.t a.bars.now (rooms a.rows.now a.equity.now a.trades.now))) = let past2 : (let a = c.args in
    Below (day_lines a.span a.s a.t a.bars.now (rooms a.rows.now a.equity.now a.trades.now))) = let past1 : (let a = c.args in
    Below (day_lines a.span a.s a.t a.bars.now (rooms a.rows.now a.equity.now a.trades.now))) = past_block top _ _ c.judge_room.ensures refl c.in_ok-judge_room.was in
    past_block past1 _ _ c.judge_settings.ensures refl c.in_ok-judge_settings.was in
    past_block past2 _ _ c.judge_state.ensures refl c.in_ok-judge_state.was in
    all_hold (past past3 refl (sym c.are_for.ensures ∙ c.if-are_for.true)) refl

pub returns : goal.returns
unfolding day_lines
returns c =
    let past3 : (let a = c.args in
    Below (day_lines a.span a.s a.t a.bars.now (rooms a.rows.now a.equity.now a.trades.now))) = let past2 : (let a = c.args in
    Below (day_lines a.span a.s a.t a.bars.now (rooms a.rows.now a.equity.now a.trades.now))) = let past1 : (let a = c.args in
    Below (day_lines a.span a.s a.t a.bars.now (rooms a.rows.now a.equity.now a.trades.now))) = past_block top _ _ c.judge_room.ensures refl c.in_ok-judge_room.was in
    past_block past1 _ _ c.judge_settings.ensures refl c.in_ok-judge_settings.was in
    past_block past2 _ _ c.judge_state.ensures refl c.in_ok-judge_state.was in
    stop past3 refl (sym c.are_for.ensures ∙ c.if-are_for.false)
