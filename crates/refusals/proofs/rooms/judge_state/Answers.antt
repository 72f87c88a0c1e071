-- Counts and rooms are one test each, and the entry bar a third.
use Rattle.words.specs.Prelude.{refl}
use Rattle.records.specs.{Lent.rooms}
use Rattle.refusals.specs.{Rooms.state_lines}
use Rattle.refusals.specs.Laws.Descent.{so, not_so, Below, top, past, stop, all_hold}
use Rattle.refusals.proofs.rooms.judge_state.Goals as goal

pub returns-then-not-counts_fine : goal.returns-then-not-counts_fine
unfolding state_lines
returns-then-not-counts_fine c = stop top refl (not_so c.counts_fine.ensures c.if-not-counts_fine.true-raw)

pub returns-then-not-held_fine : goal.returns-then-not-held_fine
unfolding state_lines
returns-then-not-held_fine c =
    let past1 : (let a = c.args in Below (state_lines a.s a.t (rooms a.rows.now a.equity.now a.trades.now))) = past top refl (so c.counts_fine.ensures c.if-not-counts_fine.false-raw) in
    stop past1 refl (not_so c.held_fine.ensures c.if-not-held_fine.true-raw)

pub returns-then-not-entry_below : goal.returns-then-not-entry_below
unfolding state_lines
returns-then-not-entry_below c =
    let past2 : (let a = c.args in Below (state_lines a.s a.t (rooms a.rows.now a.equity.now a.trades.now))) = let past1 : (let a = c.args in Below (state_lines a.s a.t (rooms a.rows.now a.equity.now a.trades.now))) = past top refl (so c.counts_fine.ensures c.if-not-counts_fine.false-raw) in
    past past1 refl (so c.held_fine.ensures c.if-not-held_fine.false-raw) in
    stop past2 refl (not_so c.entry_below.ensures c.if-not-entry_below.true-raw)

pub returns : goal.returns
unfolding state_lines
returns c =
    let past3 : (let a = c.args in Below (state_lines a.s a.t (rooms a.rows.now a.equity.now a.trades.now))) = let past2 : (let a = c.args in Below (state_lines a.s a.t (rooms a.rows.now a.equity.now a.trades.now))) = let past1 : (let a = c.args in Below (state_lines a.s a.t (rooms a.rows.now a.equity.now a.trades.now))) = past top refl (so c.counts_fine.ensures c.if-not-counts_fine.false-raw) in
    past past1 refl (so c.held_fine.ensures c.if-not-held_fine.false-raw) in
    past past2 refl (so c.entry_below.ensures c.if-not-entry_below.false-raw) in
    all_hold past3 refl
