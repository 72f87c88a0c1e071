-- The definition goes by the same cases.
use Rattle.records.specs.{StateWords.waits_for}
use Rattle.records.proofs.state_words.waits_for.Goals as goal

pub returns-in-Idle : goal.returns-in-Idle
unfolding waits_for
returns-in-Idle c = simp c.in-Idle.is

pub returns-in-EnterLong : goal.returns-in-EnterLong
unfolding waits_for
returns-in-EnterLong c = simp c.in-EnterLong.is

pub returns-in-EnterShort : goal.returns-in-EnterShort
unfolding waits_for
returns-in-EnterShort c = simp c.in-EnterShort.is

pub returns-in-Exit : goal.returns-in-Exit
unfolding waits_for
returns-in-Exit c = simp c.in-Exit.is
