-- No bars; then what is looked at once; then the lists, before which the first bar comes; then bar after bar, and the room is turned.
-- Assumes nothing.
use Rattle.words.specs.Prelude.{sym, ◌∙◌}
use Rattle.records.specs.{Lent.rooms}
use Rattle.refusals.specs.{Lists.lists_of, Laws.Steady.day_fine}
use Rattle.engine.specs.{Laws.Days.day_none, Laws.Days.day_whole, Laws.Days.whole_one, Laws.Days.day_stops, Laws.Days.day_unlisted}
use Rattle.engine.proofs.day.run_bars.Goals as goal

pub returns-then-no_bars : goal.returns-then-no_bars
returns-then-no_bars c =
    let a = c.args in
    day_none a.span _ a.t a.bars.now (rooms a.rows.now a.equity.now a.trades.now)
    (lists_of a.trees) (sym c.no_bars.ensures ∙ c.if-no_bars.true)

pub returns-in-Err : goal.returns-in-Err
returns-in-Err c =
    let s = c.settings_of-s.result in
    let a = c.args in
    let some = sym c.no_bars.ensures ∙ c.if-no_bars.false in
    rw (← c.settings_of-s.ensures) (day_stops a.span s a.t a.bars.now (rooms a.rows.now a.equity.now a.trades.now)
    (lists_of a.trees) some
    _ (sym c.judge_day.ensures ∙ c.in-Err.is))

pub unlisted-requires : goal.unlisted-requires
unlisted-requires c =
    let s = c.settings_of-s.result in
    let a = c.args in
    let some = sym c.no_bars.ensures ∙ c.if-no_bars.false in
    let once = day_fine a.span s a.t a.bars.now (rooms a.rows.now a.equity.now a.trades.now)
    (sym c.judge_day.ensures ∙ c.in_default.is) in
    whole_one s.slots a.bars.now a.span some once.1

pub returns-in-Err-judge_lists : goal.returns-in-Err-judge_lists
returns-in-Err-judge_lists c =
    let s = c.settings_of-s.result in
    let a = c.args in
    let some = sym c.no_bars.ensures ∙ c.if-no_bars.false in
    let once = day_fine a.span s a.t a.bars.now (rooms a.rows.now a.equity.now a.trades.now)
    (sym c.judge_day.ensures ∙ c.in_default.is) in
    rw (c.unlisted.ensures, ← c.settings_of-s.ensures)
    (day_unlisted a.span s a.t a.bars.now (rooms a.rows.now a.equity.now a.trades.now)
    (lists_of a.trees) some
    _ once.0 once.1
    (sym c.judge_lists.ensures ∙ c.in-Err-judge_lists.is))

pub take_bars-requires : goal.take_bars-requires
take_bars-requires c =
    let s = c.settings_of-s.result in
    let a = c.args in
    let once = day_fine a.span s a.t a.bars.now (rooms a.rows.now a.equity.now a.trades.now)
    (sym c.judge_day.ensures ∙ c.in_default.is) in (
      c.settings_of-s.ensures,
      record { steady = once.0; lists = sym c.judge_lists.ensures ∙ c.in_default-judge_lists.is },
    )

pub returns : goal.returns
returns c =
    let s = c.settings_of-s.result in
    let a = c.args in
    let once = day_fine a.span s a.t a.bars.now (rooms a.rows.now a.equity.now a.trades.now)
    (sym c.judge_day.ensures ∙ c.in_default.is) in
    rw (← c.settings_of-s.ensures)
    (day_whole a.span s a.t a.bars.now (rooms a.rows.now a.equity.now a.trades.now)
    (lists_of a.trees) once.1
    ∙ c.take_bars.ensures)
