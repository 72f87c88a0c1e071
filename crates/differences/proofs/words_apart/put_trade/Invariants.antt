-- After w turns: the lines of the first w words of the trade stand from line `from` on.
use Rattle.words.specs.Prelude.{◌≡◌, ◌+◌, ◌*◌, length}
use Rattle.words.specs.{Words.overwrite}
use Rattle.differences.specs.{Lines.words_of, Laws.Counted.trade_lines}
use Rattle.differences.proofs.words_apart.put_trade.Given as goal

abbrev pub invariant-loop-w : goal.invariant-loop-w
invariant-loop-w l = (l.c ≡ l.from + length (trade_lines l.a l.b l.x l.w)) × (l.lines ≡ overwrite l.initial.lines (5 * l.from) (words_of (trade_lines l.a l.b l.x l.w)))
