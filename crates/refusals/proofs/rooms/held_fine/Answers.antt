-- Test by test: those passed hold, and the first that does not decides.
use Rattle.words.specs.Prelude.{lt-leb, le-leb}
use Rattle.rows.specs.{History.history_of}
use Rattle.refusals.proofs.rooms.held_fine.Goals as goal

pub returns-then-row_count-n : goal.returns-then-row_count-n
unfolding history_of
returns-then-row_count-n c = simp (rw c.row_count.ensures at (lt-leb _ _ c.if-row_count-n.true))

pub returns-then-equity-n : goal.returns-then-equity-n
unfolding history_of
returns-then-equity-n c =
    simp (rw c.row_count.ensures at (le-leb _ _ c.if-row_count-n.false), lt-leb _ _ c.if-equity-n.true)

pub returns : goal.returns
unfolding history_of
returns c =
    rw (rw c.row_count.ensures at (le-leb _ _ c.if-row_count-n.false), le-leb _ _ c.if-equity-n.false)
