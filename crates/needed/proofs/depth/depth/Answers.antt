-- The rows of an accepted table are one more than its greatest reach.
use Rattle.words.specs.Prelude.{arith, lt-ltb, le-ltb, sym, ◌∙◌}
use Rattle.needed.specs.{Depth.depth_answer}
use Rattle.needed.proofs.{Needed.few, Needed.needed, Needed.product}
use Rattle.needed.proofs.depth.depth.Goals as goal

pub returns-then-lookback-gt-MOST_REACH : goal.returns-then-lookback-gt-MOST_REACH
unfolding depth_answer
returns-then-lookback-gt-MOST_REACH c = rw (← c.check-checked.ensures.0, c.in-Ok.is, lt-ltb _ _ c.if-lookback-gt-MOST_REACH.true)

pub overflow_add-lookback : goal.overflow_add-lookback
unfolding depth_answer
overflow_add-lookback c = omega (arith, c.if-lookback-gt-MOST_REACH.false)

pub overflow_mul-result : goal.overflow_mul-result
unfolding depth_answer
overflow_mul-result c =
    omega (
      arith,
      product c.max-needed.result c.row_bytes-row.result
          (rw c.max-needed.ensures (omega (arith, c.if-lookback-gt-MOST_REACH.false, few _ _ _ (sym c.check-checked.ensures.0 ∙ c.in-Ok.is))))
          c.row_bytes-row.ensures.1,
    )

pub returns-in-Err : goal.returns-in-Err
unfolding depth_answer
returns-in-Err c = rw (← c.check-checked.ensures.0, c.in-Err.is)

pub returns-else-lookback-gt-MOST_REACH : goal.returns-else-lookback-gt-MOST_REACH
unfolding depth_answer
returns-else-lookback-gt-MOST_REACH c =
    rw (
      ← c.check-checked.ensures.0,
      c.in-Ok.is,
      le-ltb _ _ c.if-lookback-gt-MOST_REACH.false,
      c.max-needed.ensures,
      c.row_bytes-row.ensures.0,
      needed _ _ _ _ (sym c.check-checked.ensures.0 ∙ c.in-Ok.is),
    )
