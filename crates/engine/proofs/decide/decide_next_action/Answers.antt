-- An order that works stays; with none, warmup is tested, and the rules are asked over what they read.
use Rattle.words.specs.Prelude.{le-ltb, lt-ltb}
use Rattle.engine.specs.{Decide.order_after, Decide.state_at, InPlace.decided_from}
use Rattle.engine.proofs.decide.decide_next_action.Goals as goal

pub returns-then-number-s : goal.returns-then-number-s
unfolding decided_from order_after
returns-then-number-s c = simp (lt-ltb _ _ c.if-number-s.true, c.in-Idle.is)

pub returns-in-EnterLong : goal.returns-in-EnterLong
unfolding decided_from order_after
returns-in-EnterLong c = simp c.in-EnterLong.is

pub returns-in-EnterShort : goal.returns-in-EnterShort
unfolding decided_from order_after
returns-in-EnterShort c = simp c.in-EnterShort.is

pub returns-in-Exit : goal.returns-in-Exit
unfolding decided_from order_after
returns-in-Exit c = simp c.in-Exit.is

pub returns-else-number-s : goal.returns-else-number-s
unfolding decided_from order_after state_at
returns-else-number-s c =
    simp (
      c.order_of.ensures,
      c.read_from-window.ensures,
      c.entry_trigger-kind.ensures,
      le-ltb _ _ c.if-number-s.false,
      c.in-Idle.is,
    )
