-- The judgement decides: refused, or the end of the run. Assumes nothing.
use Rattle.words.specs.Prelude.{sym, ◌∙◌}
use Rattle.ending.proofs.{Endings.refused, Endings.went}
use Rattle.ending.proofs.finish.Goals as goal

pub returns-in-Err : goal.returns-in-Err
returns-in-Err c =
    let a = c.args in
    refused a.s a.t (record { rows = a.rows.now; equity = a.equity.now; trades = a.trades.now })
    _ (sym c.judge_finish-verdict.ensures ∙ c.in-Err.is)

pub returns-in-Ok : goal.returns-in-Ok
returns-in-Ok c =
    let a = c.args in
    went a.s a.t (record { rows = a.rows.now; equity = a.equity.now; trades = a.trades.now })
    (sym c.judge_finish-verdict.ensures ∙ c.in-Ok.is)
    _ _ _ _ c.conclude-ended.ensures
