-- The tests are those of the definition, in its order.
use Rattle.words.specs.Prelude.{eq-eqb, le-ltb, lt-ltb, ne_eqb}
use Rattle.steps.specs.{Bytes.answer_op}
use Rattle.steps.proofs.decode.answer_op.Goals as goal

pub returns-then-x-lt-NOT : goal.returns-then-x-lt-NOT
unfolding answer_op
returns-then-x-lt-NOT c = rw (lt-ltb _ _ c.if-x-lt-NOT.true)

pub returns-then-x-eq-NOT : goal.returns-then-x-eq-NOT
unfolding answer_op
returns-then-x-eq-NOT c = simp (eq-eqb _ _ c.if-x-eq-NOT.true, le-ltb _ _ c.if-x-lt-NOT.false)

pub returns-then-x-eq-IN_POSITION : goal.returns-then-x-eq-IN_POSITION
unfolding answer_op
returns-then-x-eq-IN_POSITION c = rw (le-ltb _ _ c.if-x-lt-NOT.false, ne_eqb _ _ c.if-x-eq-NOT.false, eq-eqb _ _ c.if-x-eq-IN_POSITION.true)

pub returns-then-x-eq-BARS_SINCE_ENTRY : goal.returns-then-x-eq-BARS_SINCE_ENTRY
unfolding answer_op
returns-then-x-eq-BARS_SINCE_ENTRY c =
    simp (eq-eqb _ _ c.if-x-eq-BARS_SINCE_ENTRY.true, ne_eqb _ _ c.if-x-eq-IN_POSITION.false, ne_eqb _ _ c.if-x-eq-NOT.false, le-ltb _ _ c.if-x-lt-NOT.false)

pub returns-then-x-lt-PAST_JUMPS : goal.returns-then-x-lt-PAST_JUMPS
unfolding answer_op
returns-then-x-lt-PAST_JUMPS c =
    rw (
      le-ltb _ _ c.if-x-lt-NOT.false,
      ne_eqb _ _ c.if-x-eq-NOT.false,
      ne_eqb _ _ c.if-x-eq-IN_POSITION.false,
      ne_eqb _ _ c.if-x-eq-BARS_SINCE_ENTRY.false,
      lt-ltb _ _
          c.if-x-lt-PAST_JUMPS.true,
    )

pub returns : goal.returns
unfolding answer_op
returns c =
    simp (
      le-ltb _ _ c.if-x-lt-PAST_JUMPS.false,
      ne_eqb _ _ c.if-x-eq-BARS_SINCE_ENTRY.false,
      ne_eqb _ _ c.if-x-eq-IN_POSITION.false,
      ne_eqb _ _ c.if-x-eq-NOT.false,
      le-ltb _ _
          c.if-x-lt-NOT.false,
    )
