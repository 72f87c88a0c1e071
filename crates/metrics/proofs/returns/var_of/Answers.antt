use Rattle.words.specs.Prelude.{arith}
use Rattle.metrics.proofs.{Passes.starts, Passes.goes_on, Passes.ends}
use Rattle.metrics.proofs.returns.var_of.Goals as goal

pub loop-i-init : goal.loop-i-init
loop-i-init c = starts c.equity_at-before.ensures

pub loop-i-preserved : goal.loop-i-preserved
loop-i-preserved c =
    goes_on c.point_count-points.ensures (omega arith) c.equity_at-now.ensures c.bar_return.ensures
    c.away-total.ensures c.loop-i.invariant

pub returns : goal.returns
returns c =
    ends c.point_count-points.ensures (omega arith) c.return_count.ensures c.counted.ensures c.loop-i.invariant
