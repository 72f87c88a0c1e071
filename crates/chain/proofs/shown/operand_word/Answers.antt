-- One return for each case of the operand's value. Assumes nothing.
use Rattle.chain.specs.{Lines.value_word}
use Rattle.chain.proofs.shown.operand_word.Goals as goal

pub returns-in-None : goal.returns-in-None
unfolding value_word
returns-in-None c = rw (← c.eval_operand.ensures, c.in-None.is)

pub returns-in-Some : goal.returns-in-Some
unfolding value_word
returns-in-Some c = rw (← c.eval_operand.ensures, c.in-Some.is) c.word_of.ensures
