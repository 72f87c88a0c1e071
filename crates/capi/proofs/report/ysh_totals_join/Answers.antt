-- The definition goes by the same answer; a refusal leaves the totals as they were. Assumes nothing.
use Rattle.words.specs.Prelude.{sym, ◌∙◌}
use Rattle.totals.specs.{Totals.join_leaves}
use Rattle.capi.specs.{Totals.join_call}
use Rattle.capi.proofs.{Totalling.totals_refuse, Totalling.totals_do}
use Rattle.capi.proofs.report.ysh_totals_join.Goals as goal

pub returns-in-Err : goal.returns-in-Err
unfolding join_call join_leaves
returns-in-Err c =
    totals_refuse _ _ _ _ c.join-joined.ensures.1 (sym c.join-joined.ensures.0 ∙ c.in-Err.is) c.answer_word.ensures

pub returns-in-Ok : goal.returns-in-Ok
unfolding join_call join_leaves
returns-in-Ok c =
    totals_do _ _ _ _ c.join-joined.ensures.1 (sym c.join-joined.ensures.0 ∙ c.in-Ok.is)
