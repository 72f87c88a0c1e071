use Rattle.words.specs.Prelude.{refl, arith}
use Rattle.metrics.specs.{Records.equity_of, Drawdown.drawdown_from}
use Rattle.metrics.proofs.{Walks.turn, Walks.done}
use Rattle.metrics.proofs.drawdown.drawdown_from.Goals as goal

pub loop-i-init : goal.loop-i-init
loop-i-init c = refl

pub loop-i-preserved : goal.loop-i-preserved
unfolding drawdown_from
loop-i-preserved c =
    let loop = c.loop-i in
    rw (c.deepest_at-deepest.ensures, c.peak_at-peak.ensures)
    (turn (drawdown_from loop.peak loop.deepest) (equity_of c.args.equity.now) loop.i c.point_count-n.ensures
    (omega arith) c.equity_at-e.ensures loop.invariant)

pub returns : goal.returns
unfolding drawdown_from
returns c =
    let loop = c.loop-i in
    done (drawdown_from loop.peak loop.deepest) (equity_of c.args.equity.now) loop.i c.point_count-n.ensures
    (omega arith) loop.invariant
