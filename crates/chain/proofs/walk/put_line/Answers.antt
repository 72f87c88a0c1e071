-- The eight words of the line are written at its place. Assumes nothing.
use Rattle.words.specs.Prelude.{arith}
use Rattle.chain.specs.{Chain.line_at, Lines.line_words}
use Rattle.chain.proofs.walk.put_line.Goals as goal

pub show-d-requires : goal.show-d-requires
unfolding line_at line_words
show-d-requires c = omega arith

pub overflow_mul-at : goal.overflow_mul-at
unfolding line_at line_words
overflow_mul-at c = omega arith

pub returns : goal.returns
unfolding line_at line_words
returns c = rw (← c.show-d.ensures, ← c.eval_condition-yes.ensures, ← c.line_of-line.ensures) c.put.ensures
