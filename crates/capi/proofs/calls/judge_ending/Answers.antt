-- Two blocks, each judged by itself.
use Rattle.std.specs.Prelude.{◌≡◌, Err}
use Rattle.words.specs.Prelude.{rules, ◌∙◌}
use Rattle.refusals.specs.{Laws.Descent.fine_block, Laws.Descent.bad_block}
use Rattle.capi.proofs.calls.judge_ending.Goals as goal

pub returns-in_err-judge_rooms : goal.returns-in_err-judge_rooms
returns-in_err-judge_rooms c =
    let given : c.from_residual.result ≡ Err c.in_err-judge_rooms.field-0.0 = search rules in
    given ∙ bad_block _ _ c.judge_rooms.ensures c.in_err-judge_rooms.was

pub returns : goal.returns
returns c = fine_block _ _ c.judge_rooms.ensures c.in_ok-judge_rooms.was c.judge_metrics.ensures
