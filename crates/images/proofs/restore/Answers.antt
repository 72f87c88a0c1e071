-- Refused, or read.
use Rattle.std.specs.Prelude.{◌≡◌, Err}
use Rattle.words.specs.Prelude.{rules, sym, ◌∙◌}
use Rattle.images.specs.{Laws.Fine.rows_within, Laws.Fine.restore_fine}
use Rattle.images.proofs.{Answers.window_fits, Answers.restore_refused, Answers.restore_done}
use Rattle.images.proofs.restore.Goals as goal

pub returns-in_err-judge_restore : goal.returns-in_err-judge_restore
returns-in_err-judge_restore c =
    let given : c.from_residual.result ≡ Err c.in_err-judge_restore.field-0.0 = search rules in
    rw given (restore_refused _ _ _ c.judge_restore.ensures c.in_err-judge_restore.was)

pub read_window-requires : goal.read_window-requires
read_window-requires c =
    let fine = restore_fine _ _ _ (sym c.judge_restore.ensures ∙ c.in_ok-judge_restore.was) in
    (fine.shape.slots, window_fits _ _ _ fine, rows_within _ fine.shape fine.few)

pub returns : goal.returns
returns c =
    restore_done _ _ _ c.judge_restore.ensures c.in_ok-judge_restore.was c.state_in.ensures c.read_window.ensures
