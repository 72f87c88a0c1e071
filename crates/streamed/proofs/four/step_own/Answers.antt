-- The own part of the bar, and a call of one bar.
use Rattle.words.specs.Prelude.{◌+◌, sym, [], arith, length-take-le}
use Rattle.records.specs.{Lent.rooms, Lent.lists}
use Rattle.stepping.proofs.{Stepping.one_call}
use Rattle.streamed.proofs.{Riding.own_call}
use Rattle.streamed.proofs.four.step_own.Goals as goal

pub slice_bounds-call_bars-end-2 : goal.slice_bounds-call_bars-end-2
slice_bounds-call_bars-end-2 c =
    sym (length-take-le (10 + c.args.slots) c.own_bar.new.room (omega (
      arith,
      c.own_bar.auto.room,
      c.requires.2,
    )))

pub returns : goal.returns
returns c =
    let a = c.args in
    own_call a.stream a.slots a.bar.now a.own.now c.requires.0 c.requires.1 c.requires.2 c.own_bar.new.room
    a.settings.now a.state.now (rooms a.rows.now a.equity.now a.trades.now) (lists a.entry.now a.exit.now [] [])
    c.own_bar.ensures (one_call _ _ _ _ _ c.call_bars.ensures)
