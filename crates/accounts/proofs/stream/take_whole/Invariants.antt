-- Each turn judges a bar, and what is left of the bars is judged from there.
use Rattle.words.specs.Prelude.{◌/◌, length}
use Rattle.words.specs.{Limits.bar_words}
use Rattle.accounts.specs.{Laws.Stream.LeftAfter}
use Rattle.accounts.proofs.stream.take_whole.Given as goal

abbrev pub invariant-loop-done : goal.invariant-loop-done
invariant-loop-done l = LeftAfter l.slots l.seen l.bars (length l.bars / bar_words l.slots) (bar_words l.slots) l.done
