-- Order by order, with the test of the definition.
use Rattle.words.specs.Prelude.{le-ltb, lt-ltb}
use Rattle.engine.specs.{Account.due_of}
use Rattle.engine.proofs.account.due_of.Goals as goal

pub returns-then-n-gt0 : goal.returns-then-n-gt0
unfolding due_of
returns-then-n-gt0 c = simp (lt-ltb _ _ c.if-n-gt0.true, c.in-EnterLong.is)

pub returns-then-n-gt0-2 : goal.returns-then-n-gt0-2
unfolding due_of
returns-then-n-gt0-2 c = simp (lt-ltb _ _ c.if-n-gt0-2.true, c.in-EnterShort.is)

pub returns-then-n-gt0-3 : goal.returns-then-n-gt0-3
unfolding due_of
returns-then-n-gt0-3 c = simp (lt-ltb _ _ c.if-n-gt0-3.true, c.in-Exit.is)

pub returns-in-Idle : goal.returns-in-Idle
unfolding due_of
returns-in-Idle c = simp c.in-Idle.is

pub returns-else-n-gt0 : goal.returns-else-n-gt0
unfolding due_of
returns-else-n-gt0 c = simp (c.due_if_reached.ensures, le-ltb _ _ c.if-n-gt0.false, c.in-EnterLong.is)

pub returns-else-n-gt0-2 : goal.returns-else-n-gt0-2
unfolding due_of
returns-else-n-gt0-2 c = simp (c.due_if_reached-in-EnterShort.ensures, le-ltb _ _ c.if-n-gt0-2.false, c.in-EnterShort.is)

pub returns-else-n-gt0-3 : goal.returns-else-n-gt0-3
unfolding due_of
returns-else-n-gt0-3 c = simp (le-ltb _ _ c.if-n-gt0-3.false, c.in-Exit.is)
