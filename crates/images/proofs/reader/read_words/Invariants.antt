-- The loop's invariant: the first i words are read.
use Rattle.words.specs.Prelude.{◌≡◌, ◌++◌, length, drop}
use Rattle.images.specs.{Reading.words_at}
use Rattle.images.proofs.reader.read_words.Given as goal

abbrev pub invariant-loop-i : goal.invariant-loop-i
invariant-loop-i l = (l.room ≡ words_at l.image l.at l.i ++ drop l.i l.initial.room) × (length l.room ≡ length l.initial.room)
