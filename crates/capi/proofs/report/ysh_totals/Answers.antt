-- The definition goes by the same answer; a refusal leaves the totals as they were. Assumes nothing.
use Rattle.words.specs.Prelude.{sym, ◌∙◌}
use Rattle.totals.specs.{Totals.add_leaves}
use Rattle.capi.specs.{Totals.totals_call}
use Rattle.capi.proofs.{Totalling.totals_refuse, Totalling.totals_do}
use Rattle.capi.proofs.report.ysh_totals.Goals as goal

pub returns-in-Err : goal.returns-in-Err
unfolding totals_call add_leaves
returns-in-Err c =
    totals_refuse _ _ _ _ c.add-added.ensures.1 (sym c.add-added.ensures.0 ∙ c.in-Err.is) c.answer_word.ensures

pub returns-in-Ok : goal.returns-in-Ok
unfolding totals_call add_leaves
returns-in-Ok c =
    totals_do _ _ _ _ c.add-added.ensures.1 (sym c.add-added.ensures.0 ∙ c.in-Ok.is)
