-- The exit, the trade, the last point, the state and the figures, each by its own definition. Assumes nothing.
use Rattle.ending.proofs.{Endings.endings}
use Rattle.ending.proofs.closing.conclude.Goals as goal

pub returns : goal.returns
returns c =
    let a = c.args in
    endings a.s a.t (record { rows = a.rows.now; equity = a.equity.now; trades = a.trades.now })
    _ _ _ _ _ _ c.last_exit-exit.ensures c.book-count.ensures c.remark.ensures c.end_state-state.ensures c.measure-metrics.ensures
