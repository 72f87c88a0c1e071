-- What can change is judged: refused, or the phases, whose fill may be turned away. Assumes nothing.
use Rattle.words.specs.Prelude.{arith}
use Rattle.rows.specs.{History.width, Ring.turned}
use Rattle.records.specs.{Lent.rooms}
use Rattle.refusals.specs.{Lists.lists_of}
use Rattle.engine.proofs.{Days.next_ready, Days.next_refused, Days.next_went}
use Rattle.engine.proofs.day.next_bar.Goals as goal

pub advance-requires : goal.advance-requires
advance-requires c =
    let a = c.args in
    let ready = next_ready a.s a.t a.bar.now (rooms (turned (width a.s.slots) a.start a.rows.now) a.equity.now a.trades.now)
    (lists_of a.trees) c.requires.1 c.requires.3
    c.judge_next-verdict.ensures c.in-Ok.is in
    (c.requires.0, record { slots = ready.0; bars = ready.1; long = omega (arith, c.requires.1); at = c.requires.2; lists = c.requires.3.lists })

pub returns-in-Err : goal.returns-in-Err
returns-in-Err c =
    let a = c.args in
    let refused = next_refused a.s a.t a.bar.now (rooms (turned (width a.s.slots) a.start a.rows.now) a.equity.now a.trades.now)
    (lists_of a.trees) c.requires.1 c.requires.3
    c.judge_next-verdict.ensures _ c.in-Err.is in
    record { answer = refused; at = c.requires.2 }

pub returns-in-Ok : goal.returns-in-Ok
returns-in-Ok c =
    let a = c.args in
    next_went a.s a.t a.bar.now (rooms (turned (width a.s.slots) a.start a.rows.now) a.equity.now a.trades.now)
    (lists_of a.trees) c.requires.1 c.requires.3
    c.judge_next-verdict.ensures c.in-Ok.is c.advance.ensures
