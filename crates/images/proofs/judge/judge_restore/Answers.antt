-- Room, settings and image are blocks, each judged by itself; then its D and K.
use Rattle.std.specs.Prelude.{◌≡◌, Err}
use Rattle.words.specs.Prelude.{refl, rules, ◌∙◌}
use Rattle.refusals.specs.Laws.Descent.{Below, top, past_block, stop_block, last_block}
use Rattle.images.specs.{Refused.restore_judged, Refused.restore_lines}
use Rattle.images.proofs.judge.judge_restore.Goals as goal

pub returns-in_err-judge_room : goal.returns-in_err-judge_room
unfolding restore_judged restore_lines
returns-in_err-judge_room c =
    let given : c.from_residual.result ≡ Err c.in_err-judge_room.field-0.0 = search rules in
    given ∙ stop_block top _ _ c.judge_room.ensures refl c.in_err-judge_room.was

pub returns-in_err-judge_settings : goal.returns-in_err-judge_settings
unfolding restore_judged restore_lines
returns-in_err-judge_settings c =
    let past1 : (Below (restore_lines c.args.s c.args.image.now c.args.rows.now)) = past_block top _ _ c.judge_room.ensures refl c.in_ok-judge_room.was in
    let given : c.from_residual-in_err-judge_settings.result ≡ Err c.in_err-judge_settings.field-0.0 = search rules in
    given ∙ stop_block past1 _ _ c.judge_settings.ensures refl c.in_err-judge_settings.was

pub returns-in_err-judge_image : goal.returns-in_err-judge_image
unfolding restore_judged restore_lines
returns-in_err-judge_image c =
    let past2 : (Below (restore_lines c.args.s c.args.image.now c.args.rows.now)) = let past1 : (Below (restore_lines c.args.s c.args.image.now c.args.rows.now)) = past_block top _ _ c.judge_room.ensures refl c.in_ok-judge_room.was in
    past_block past1 _ _ c.judge_settings.ensures refl c.in_ok-judge_settings.was in
    let given : c.from_residual-in_err-judge_image.result ≡ Err c.in_err-judge_image.field-0.0 = search rules in
    given ∙ stop_block past2 _ _ c.judge_image.ensures refl c.in_err-judge_image.was

pub returns : goal.returns
unfolding restore_judged restore_lines
returns c =
    let past3 : (Below (restore_lines c.args.s c.args.image.now c.args.rows.now)) = let past2 : (Below (restore_lines c.args.s c.args.image.now c.args.rows.now)) = let past1 : (Below (restore_lines c.args.s c.args.image.now c.args.rows.now)) = past_block top _ _ c.judge_room.ensures refl c.in_ok-judge_room.was in
    past_block past1 _ _ c.judge_settings.ensures refl c.in_ok-judge_settings.was in
    past_block past2 _ _ c.judge_image.ensures refl c.in_ok-judge_image.was in
    last_block past3 c.judge_same.ensures
