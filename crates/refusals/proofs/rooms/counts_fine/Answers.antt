-- Test by test: those passed hold, and the first that does not decides.
use Rattle.words.specs.Prelude.{lt-leb, le-leb}
use Rattle.refusals.proofs.rooms.counts_fine.Goals as goal

pub returns-then-n-gt-MOST_COUNT : goal.returns-then-n-gt-MOST_COUNT
returns-then-n-gt-MOST_COUNT c = simp (lt-leb _ _ c.if-n-gt-MOST_COUNT.true)

pub returns-then-n-gt-MOST_COUNT-2 : goal.returns-then-n-gt-MOST_COUNT-2
returns-then-n-gt-MOST_COUNT-2 c = simp (le-leb _ _ c.if-n-gt-MOST_COUNT.false, lt-leb _ _ c.if-n-gt-MOST_COUNT-2.true)

pub returns-then-n-gt-MOST_COUNT-3 : goal.returns-then-n-gt-MOST_COUNT-3
returns-then-n-gt-MOST_COUNT-3 c =
    simp (le-leb _ _ c.if-n-gt-MOST_COUNT.false, le-leb _ _ c.if-n-gt-MOST_COUNT-2.false, lt-leb _ _ c.if-n-gt-MOST_COUNT-3.true)

pub returns : goal.returns
returns c =
    rw (le-leb _ _ c.if-n-gt-MOST_COUNT.false, le-leb _ _ c.if-n-gt-MOST_COUNT-2.false, le-leb _ _ c.if-n-gt-MOST_COUNT-3.false)
