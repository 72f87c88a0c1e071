-- Two blocks, each judged by itself.
use Rattle.std.specs.Prelude.{◌≡◌, Err}
use Rattle.words.specs.Prelude.{rules, ◌∙◌}
use Rattle.refusals.specs.{Laws.Descent.fine_block, Laws.Descent.bad_block}
use Rattle.stepping.specs.{Bars.lent_lines}
use Rattle.capi.proofs.calls.judge_rooms.Goals as goal

pub returns-in_err-judge_room : goal.returns-in_err-judge_room
unfolding lent_lines
returns-in_err-judge_room c =
    let given : c.from_residual.result ≡ Err c.in_err-judge_room.field-0.0 = search rules in
    rw (← c.requires) (given ∙ bad_block _ _ c.judge_room.ensures c.in_err-judge_room.was)

pub returns : goal.returns
unfolding lent_lines
returns c =
    rw (← c.requires) (fine_block _ _ c.judge_room.ensures c.in_ok-judge_room.was c.judge_words.ensures)
