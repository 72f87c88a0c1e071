-- Part by part.
use Rattle.engine.proofs.terms.anew.Goals as goal

pub returns : goal.returns
returns c = rw (c.slippage_anew.ensures, c.risk_anew.ensures, c.sizing_anew.ensures)
