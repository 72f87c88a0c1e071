-- The tests are those of the definition.
use Rattle.steps.specs.{Choice.exit_list}
use Rattle.steps.proofs.choice.exit_list.Goals as goal

pub returns-then-qty : goal.returns-then-qty
unfolding exit_list
returns-then-qty c = rw (← c.in_position.ensures, c.if-in_position.true, c.if-qty.true)

pub returns-then-in_position : goal.returns-then-in_position
unfolding exit_list
returns-then-in_position c = rw (← c.in_position.ensures, c.if-in_position.true, c.if-qty.false)

pub returns : goal.returns
unfolding exit_list
returns c = rw (← c.in_position.ensures, c.if-in_position.false)
