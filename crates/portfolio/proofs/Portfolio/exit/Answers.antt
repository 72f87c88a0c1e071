-- `exit`: the records that the definition writes, with what `abs` and `return_pct` ensure put in.
use Rattle.portfolio.specs.{Portfolio.notional, Portfolio.pnl, Portfolio.trade_of, Portfolio.exited}
use Rattle.portfolio.proofs.Portfolio.exit.Goals as goal

pub returns : goal.returns
unfolding notional pnl trade_of exited
returns c = simp (c.return_pct-return_pct.ensures, c.abs.ensures)
