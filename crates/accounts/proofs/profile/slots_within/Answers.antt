-- The table, then the settings.
use Rattle.words.specs.Prelude.{lt-leb, le-leb}
use Rattle.accounts.specs.{Profile.slots_within}
use Rattle.accounts.proofs.profile.slots_within.Goals as goal

pub returns-then-stream-slots : goal.returns-then-stream-slots
unfolding slots_within
returns-then-stream-slots c = rw (← c.slots.ensures, lt-leb _ _ c.if-stream-slots.true)

pub returns : goal.returns
unfolding slots_within
returns c = rw (← c.slots.ensures, le-leb _ _ c.if-stream-slots.false)
