-- The counts; then places and bar, each a block that is judged by itself.
use Rattle.std.specs.Prelude.{◌≡◌, Err}
use Rattle.words.specs.Prelude.{refl, ◌∙◌, rules}
use Rattle.refusals.specs.{Day.next_lines}
use Rattle.refusals.specs.Laws.Descent.{so, not_so, top, past, stop, past_block, stop_block, last_block}
use Rattle.refusals.proofs.day.judge_next.Goals as goal

pub returns-then-not-counts_fine : goal.returns-then-not-counts_fine
unfolding next_lines
returns-then-not-counts_fine c = stop top refl (not_so c.counts_fine.ensures c.if-not-counts_fine.true-raw)

pub returns-in_err-judge_place : goal.returns-in_err-judge_place
unfolding next_lines
returns-in_err-judge_place c =
    let given : c.from_residual.result ≡ Err c.in_err-judge_place.field-0.0 = search rules in
    given ∙ stop_block (past top refl (so c.counts_fine.ensures c.if-not-counts_fine.false-raw)) _ _ c.judge_place.ensures refl c.in_err-judge_place.was

pub returns : goal.returns
unfolding next_lines
returns c =
    last_block (past_block (past top refl (so c.counts_fine.ensures c.if-not-counts_fine.false-raw)) _ _ c.judge_place.ensures refl c.in_ok-judge_place.was)
    c.judge_bar.ensures
