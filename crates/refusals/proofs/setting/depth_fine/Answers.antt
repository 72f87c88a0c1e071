-- Test by test: those passed hold, and the first that does not decides.
use Rattle.words.specs.Prelude.{lt-leb, le-leb}
use Rattle.refusals.proofs.setting.depth_fine.Goals as goal

pub returns-then-depth-lt1 : goal.returns-then-depth-lt1
returns-then-depth-lt1 c = simp (lt-leb _ _ c.if-depth-lt1.true)

pub returns-then-depth-gt-MOST_ROWS : goal.returns-then-depth-gt-MOST_ROWS
returns-then-depth-gt-MOST_ROWS c = simp (le-leb _ _ c.if-depth-lt1.false, lt-leb _ _ c.if-depth-gt-MOST_ROWS.true)

pub returns : goal.returns
returns c = simp (le-leb _ _ c.if-depth-lt1.false, le-leb _ _ c.if-depth-gt-MOST_ROWS.false, c.lookback_of.ensures)
