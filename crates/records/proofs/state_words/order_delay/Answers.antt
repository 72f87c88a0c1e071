-- The definition goes by the same cases.
use Rattle.records.specs.{StateWords.order_delay}
use Rattle.records.proofs.state_words.order_delay.Goals as goal

pub returns-in-Idle : goal.returns-in-Idle
unfolding order_delay
returns-in-Idle c = cc

pub returns-in-EnterLong : goal.returns-in-EnterLong
unfolding order_delay
returns-in-EnterLong c = simp c.in-EnterLong.is

pub returns-in-EnterShort : goal.returns-in-EnterShort
unfolding order_delay
returns-in-EnterShort c = simp c.in-EnterShort.is

pub returns-in-Exit : goal.returns-in-Exit
unfolding order_delay
returns-in-Exit c = simp c.in-Exit.is
