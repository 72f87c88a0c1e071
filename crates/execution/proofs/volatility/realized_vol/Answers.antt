-- `realized_vol`: rows that begin at row 0.
use Rattle.rows.specs.{Laws.Ring.ring_none}
use Rattle.execution.proofs.volatility.realized_vol.Goals as goal

pub returns : goal.returns
returns c = rw (c.realized_vol_ring.ensures, ring_none)
