-- Over a price, or over a slot.
use Rattle.words.specs.Prelude.{arith}
use Rattle.steps.specs.{Machine.effect}
use Rattle.steps.proofs.{Said.says_over_price, Said.says_over_slot}
use Rattle.steps.proofs.machine.look.Goals as goal

pub returns-then-x-lt-HIGHEST_SLOT : goal.returns-then-x-lt-HIGHEST_SLOT
unfolding effect
returns-then-x-lt-HIGHEST_SLOT c s a b c2 d y =
    rw (says_over_price c.args.x c.requires.le_kind.0 c.if-x-lt-HIGHEST_SLOT.true, c.extreme_ago.ensures, c.newest_back-back.ensures)

pub overflow_sub-x : goal.overflow_sub-x
unfolding effect
overflow_sub-x c = omega (arith, c.if-x-lt-HIGHEST_SLOT.false)

pub returns : goal.returns
unfolding effect
returns c s a b c2 d y =
    rw (says_over_slot c.args.x c.if-x-lt-HIGHEST_SLOT.false c.requires.le_kind.1, c.extreme_ago-2.ensures, c.newest_back-back.ensures)
