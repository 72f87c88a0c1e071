-- After i turns: the best so far, and i bars more.
use Rattle.words.specs.Prelude.{◌≡◌}
use Rattle.blocks.specs.{Blocks.with_closes}
use Rattle.blocks.proofs.question.singles.Given as goal

abbrev pub invariant-loop-i : goal.invariant-loop-i
invariant-loop-i l = l.best ≡ with_closes l.closes l.initial.best l.bar l.i
