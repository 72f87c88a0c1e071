-- Past the end `get_or` is 0. Assumes nothing.
use Rattle.words.specs.Prelude.{arith, ◌+◌}
use Rattle.words.proofs.{Copying.past_end}
use Rattle.words.proofs.word_from.Goals as goal

pub returns-then-n-base : goal.returns-then-n-base
returns-then-n-base c = let a = c.args in past_end a.list.now (a.base + a.j) (omega arith)

pub returns-then-n-base-2 : goal.returns-then-n-base-2
returns-then-n-base-2 c = let a = c.args in past_end a.list.now (a.base + a.j) (omega arith)
