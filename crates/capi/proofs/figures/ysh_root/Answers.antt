-- Each call is one function of the definition.
use Rattle.capi.proofs.figures.ysh_root.Goals as goal

pub returns : goal.returns
returns c = simp (c.word_of.ensures, c.sqrt.ensures, c.float_of.ensures)
