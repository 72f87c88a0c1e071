use Rattle.words.specs.Prelude.{arith, refl, ◌<◌, ◌≤◌}
use Rattle.metrics.proofs.{Passes.starts, Passes.goes_on, Passes.ends}
use Rattle.metrics.proofs.returns.means_of.Goals as goal

pub loop-i-init : goal.loop-i-init
loop-i-init c = (starts c.equity_at-before.ensures, starts c.equity_at-before.ensures)

pub loop-i-preserved : goal.loop-i-preserved
loop-i-preserved c =
    let points = c.point_count-points.ensures in
    let more : c.loop-i.i < c.point_count-points.result = omega arith in
    let inv = c.loop-i.invariant in
    let return = c.bar_return-r.ensures in (
      goes_on points more c.equity_at-now.ensures return refl inv.0,
      goes_on points more c.equity_at-now.ensures return c.below_zero-below.ensures inv.1,
    )

pub returns : goal.returns
returns c =
    let points = c.point_count-points.ensures in
    let inv = c.loop-i.invariant in
    let over : c.point_count-points.result ≤ c.loop-i.i = omega arith in
    let count = c.return_count.ensures in
    record { itself = ends points over count c.counted-n.ensures inv.0; below = ends points over count c.counted-n.ensures inv.1 }
