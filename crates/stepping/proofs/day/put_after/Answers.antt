-- Nothing is written where no bar was done. Assumes nothing.
use Rattle.words.specs.Prelude.{eq-eqb, ne_eqb}
use Rattle.stepping.specs.{Day.state_after}
use Rattle.stepping.proofs.day.put_after.Goals as goal

pub returns-then-done-eq0 : goal.returns-then-done-eq0
unfolding state_after
returns-then-done-eq0 c = rw (eq-eqb _ 0 c.if-done-eq0.true)

pub returns : goal.returns
unfolding state_after
returns c =
    rw (ne_eqb c.args.done 0 c.if-done-eq0.false) c.put_state.ensures
