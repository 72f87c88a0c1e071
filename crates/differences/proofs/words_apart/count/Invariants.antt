-- After k turns: how many of the first k words differ.
use Rattle.words.specs.Prelude.{◌≡◌, length}
use Rattle.differences.specs.{Lines.word_lines}
use Rattle.differences.proofs.words_apart.count.Given as goal

abbrev pub invariant-loop-k : goal.invariant-loop-k
invariant-loop-k l = l.c ≡ length (word_lines l.a l.b l.k)
