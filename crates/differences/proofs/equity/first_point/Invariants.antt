-- After k turns the first k points are the same: what is left begins at point k.
use Rattle.words.specs.Prelude.{◌≡◌, ◌-◌}
use Rattle.differences.specs.{Lines.first_point}
use Rattle.differences.proofs.equity.first_point.Given as goal

abbrev pub invariant-loop-k : goal.invariant-loop-k
invariant-loop-k l = first_point l.a l.b 0 l.n ≡ first_point l.a l.b l.k (l.n - l.k)
