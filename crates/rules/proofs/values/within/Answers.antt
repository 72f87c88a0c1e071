-- The first comparison decides where it is no. Assumes nothing.
use Rattle.rules.specs.{Values.within}
use Rattle.rules.proofs.values.within.Goals as goal

pub returns-then-compared : goal.returns-then-compared
unfolding within
returns-then-compared c = simp (← c.compared.ensures, c.if-compared.true) c.compared-then-compared.ensures

pub returns : goal.returns
unfolding within
returns c = simp (← c.compared.ensures, c.if-compared.false)
