-- After x turns: the lines of the first x trades stand from line `from` on.
use Rattle.words.specs.Prelude.{◌≡◌, ◌+◌, ◌*◌, length}
use Rattle.words.specs.{Limits.trade_words, Words.overwrite}
use Rattle.differences.specs.{Lines.word_lines, Lines.words_of}
use Rattle.differences.proofs.words_apart.put_trades.Given as goal

abbrev pub invariant-loop-x : goal.invariant-loop-x
invariant-loop-x l = (l.c ≡ l.from + length (word_lines l.a l.b (trade_words * l.x))) × (l.lines ≡ overwrite l.initial.lines (5 * l.from) (words_of (word_lines l.a l.b (trade_words * l.x))))
