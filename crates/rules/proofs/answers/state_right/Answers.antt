-- One return for each way the counts can stand. Assumes nothing.
use Rattle.words.specs.Prelude.{le-leb, lt-leb}
use Rattle.rules.specs.{Answers.state_right}
use Rattle.rules.proofs.answers.state_right.Goals as goal

pub returns-then-s-gt-MOST_COUNT : goal.returns-then-s-gt-MOST_COUNT
unfolding state_right
returns-then-s-gt-MOST_COUNT c = rw (lt-leb _ _ c.if-s-gt-MOST_COUNT.true)

pub returns-in-None : goal.returns-in-None
unfolding state_right
returns-in-None c = rw (le-leb _ _ c.if-s-gt-MOST_COUNT.false, c.in-None.is)

pub returns-in-Some : goal.returns-in-Some
unfolding state_right
returns-in-Some c = rw (le-leb _ _ c.if-s-gt-MOST_COUNT.false, c.in-Some.is)
