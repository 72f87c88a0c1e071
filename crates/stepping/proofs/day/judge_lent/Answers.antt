-- No bars ask for the settings and the state alone; else the room of rows comes first. Assumes nothing.
use Rattle.std.specs.Prelude.{◌≡◌, Err}
use Rattle.words.specs.Prelude.{sym, ◌∙◌, rules}
use Rattle.refusals.specs.{Laws.Descent.fine_block, Laws.Descent.bad_block}
use Rattle.stepping.specs.{Bars.lent_lines, Day.day_lent_lines}
use Rattle.stepping.proofs.day.judge_lent.Goals as goal

pub returns-then-no_bars : goal.returns-then-no_bars
unfolding day_lent_lines
returns-then-no_bars c = rw (sym c.no_bars.ensures ∙ c.if-no_bars.true) c.judge_words.ensures

pub returns-in_err-judge_room : goal.returns-in_err-judge_room
unfolding day_lent_lines lent_lines
returns-in_err-judge_room c =
    let given : c.from_residual.result ≡ Err c.in_err-judge_room.field-0.0 = search rules in
    given ∙ rw (sym c.no_bars.ensures ∙ c.if-no_bars.false, ← c.settings_of.ensures)
    (bad_block _ _ c.judge_room.ensures c.in_err-judge_room.was)

pub returns : goal.returns
unfolding day_lent_lines lent_lines
returns c =
    rw (sym c.no_bars.ensures ∙ c.if-no_bars.false, ← c.settings_of.ensures)
    (fine_block _ _ c.judge_room.ensures c.in_ok-judge_room.was c.judge_words-2.ensures)
