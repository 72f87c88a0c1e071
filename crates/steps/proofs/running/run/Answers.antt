-- The refusals are those of the definition, in its order.
use Rattle.words.specs.Prelude.{lt-ltb, le-ltb}
use Rattle.steps.specs.{Running.ran_if, Running.runs}
use Rattle.steps.proofs.running.run.Goals as goal

pub returns-then-slots-gt-MOST_SLOTS : goal.returns-then-slots-gt-MOST_SLOTS
unfolding ran_if runs
returns-then-slots-gt-MOST_SLOTS c = rw (lt-ltb _ _ c.if-slots-gt-MOST_SLOTS.true)

pub returns-then-depth-lt1 : goal.returns-then-depth-lt1
unfolding ran_if runs
returns-then-depth-lt1 c = rw (le-ltb _ _ c.if-slots-gt-MOST_SLOTS.false, lt-ltb _ _ c.if-depth-lt1.true)

pub returns-then-depth-gt-MOST_ROWS : goal.returns-then-depth-gt-MOST_ROWS
unfolding ran_if runs
returns-then-depth-gt-MOST_ROWS c =
    rw (le-ltb _ _ c.if-slots-gt-MOST_SLOTS.false, le-ltb _ _ c.if-depth-lt1.false, lt-ltb _ _ c.if-depth-gt-MOST_ROWS.true)

pub returns-in-Ok : goal.returns-in-Ok
unfolding ran_if runs
returns-in-Ok c =
    rw (
      le-ltb _ _ c.if-slots-gt-MOST_SLOTS.false,
      le-ltb _ _ c.if-depth-lt1.false,
      le-ltb _ _ c.if-depth-gt-MOST_ROWS.false,
      ← c.are_whole.ensures,
      c.if-are_whole.true,
      ← c.state_right.ensures,
      c.if-state_right.true,
      ← c.check.ensures,
      c.in-Ok.is,
      c.run.ensures,
    )

pub returns-in-Err : goal.returns-in-Err
unfolding ran_if runs
returns-in-Err c =
    rw (
      le-ltb _ _ c.if-slots-gt-MOST_SLOTS.false,
      le-ltb _ _ c.if-depth-lt1.false,
      le-ltb _ _ c.if-depth-gt-MOST_ROWS.false,
      ← c.are_whole.ensures,
      c.if-are_whole.true,
      ← c.state_right.ensures,
      c.if-state_right.true,
      ← c.check.ensures,
      c.in-Err.is,
    )

pub returns-else-state_right : goal.returns-else-state_right
unfolding ran_if runs
returns-else-state_right c =
    rw (
      le-ltb _ _ c.if-slots-gt-MOST_SLOTS.false,
      le-ltb _ _ c.if-depth-lt1.false,
      le-ltb _ _ c.if-depth-gt-MOST_ROWS.false,
      ← c.are_whole.ensures,
      c.if-are_whole.true,
      ← c.state_right.ensures,
      c.if-state_right.false,
    )

pub returns-else-are_whole : goal.returns-else-are_whole
unfolding ran_if runs
returns-else-are_whole c =
    rw (
      le-ltb _ _ c.if-slots-gt-MOST_SLOTS.false,
      le-ltb _ _ c.if-depth-lt1.false,
      le-ltb _ _ c.if-depth-gt-MOST_ROWS.false,
      ← c.are_whole.ensures,
      c.if-are_whole.false,
    )
