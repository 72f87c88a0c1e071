-- A count that is full, then the bar.
use Rattle.words.specs.Prelude.{lt-ltb, le-ltb}
use Rattle.refusals.specs.{Laws.Descent.fine_line, Laws.Descent.bad_line}
use Rattle.accounts.specs.{Stream.stream_bar_lines}
use Rattle.accounts.proofs.stream.judge_next.Goals as goal

pub returns-then-seen-ge-MOST_COUNT : goal.returns-then-seen-ge-MOST_COUNT
unfolding stream_bar_lines
returns-then-seen-ge-MOST_COUNT c = bad_line _ _ (le-ltb _ _ c.if-seen-ge-MOST_COUNT.true)

pub returns : goal.returns
unfolding stream_bar_lines
returns c = fine_line _ _ (lt-ltb _ _ c.if-seen-ge-MOST_COUNT.false) c.judge_bar.ensures
