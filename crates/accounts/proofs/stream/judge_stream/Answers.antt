-- Line by line: those passed are fine, and the first that is not decides.
use Rattle.words.specs.Prelude.{lt-leb, le-leb, eq-eqb, ne_eqb}
use Rattle.refusals.specs.{Day.whole_bars, Laws.Descent.no_line, Laws.Descent.fine_line, Laws.Descent.bad_line}
use Rattle.accounts.specs.{Stream.stream_lines}
use Rattle.accounts.proofs.stream.judge_stream.Goals as goal

pub returns-then-slots-gt-MOST_SLOTS : goal.returns-then-slots-gt-MOST_SLOTS
unfolding stream_lines
returns-then-slots-gt-MOST_SLOTS c = bad_line _ _ (lt-leb _ _ c.if-slots-gt-MOST_SLOTS.true)

pub returns-then-seen-gt-MOST_COUNT : goal.returns-then-seen-gt-MOST_COUNT
unfolding stream_lines
returns-then-seen-gt-MOST_COUNT c =
    fine_line _ _ (le-leb _ _ c.if-slots-gt-MOST_SLOTS.false) (bad_line _ _ (lt-leb _ _ c.if-seen-gt-MOST_COUNT.true))

pub returns-then-bars-slots-eq0 : goal.returns-then-bars-slots-eq0
unfolding stream_lines whole_bars
returns-then-bars-slots-eq0 c =
    fine_line _ _ (le-leb _ _ c.if-slots-gt-MOST_SLOTS.false)
    (fine_line _ _ (le-leb _ _ c.if-seen-gt-MOST_COUNT.false) (fine_line _ _ (eq-eqb _ _ c.if-bars-slots-eq0.true) no_line))

pub returns : goal.returns
unfolding stream_lines whole_bars
returns c =
    fine_line _ _ (le-leb _ _ c.if-slots-gt-MOST_SLOTS.false) (fine_line _ _ (le-leb _ _ c.if-seen-gt-MOST_COUNT.false) (bad_line _ _ (ne_eqb _ _ c.if-bars-slots-eq0.false)))
