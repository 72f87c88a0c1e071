-- After i turns: the best so far, and i blocks more.
use Rattle.words.specs.Prelude.{◌≡◌}
use Rattle.blocks.specs.{Blocks.with_blocks}
use Rattle.blocks.proofs.question.wholes.Given as goal

abbrev pub invariant-loop-i : goal.invariant-loop-i
invariant-loop-i l = l.best ≡ with_blocks l.blocks l.initial.best l.j l.i
