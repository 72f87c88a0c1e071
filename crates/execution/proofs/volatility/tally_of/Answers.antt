use Rattle.words.specs.Prelude.{arith}
use Rattle.execution.proofs.{Passes.added, Passes.passed, Passes.ended}
use Rattle.execution.proofs.volatility.tally_of.Goals as goal
use Rattle.execution.proofs.volatility.tally_of.Goals.{in-Some, in_default}

pub loop-i-preserved : goal.loop-i-preserved
loop-i-preserved c =
    let inv = c.loop-i.invariant in
    let before_end = c.loop-i-test.true in
    elim c.match-change.branch [
      | in-Some w ↦
          rw (w.count-is, w.total-is) (
            c.close_at-now.ensures,
            added _ _ _ _ _ _ before_end inv.0 c.close_at-now.ensures c.simple_return-change.ensures inv.1
                w.in-Some.is w.term_of-total.ensures,
            omega arith,
          )
      | in_default w ↦
          rw (w.count-is, w.total-is) (
            c.close_at-now.ensures,
            passed _ _ _ _ _ _ before_end inv.0 c.close_at-now.ensures c.simple_return-change.ensures inv.1
                w.in_default.is,
            omega arith,
          )
    ]

pub returns : goal.returns
returns c = ended _ _ _ _ _ _ (omega arith) c.loop-i.invariant.1
