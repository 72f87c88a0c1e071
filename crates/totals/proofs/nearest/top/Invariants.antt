-- `totals::nearest::top`: the last i words are 0. Assumes nothing.
use Rattle.words.specs.Prelude.{◌≡◌, ◌-◌, take}
use Rattle.totals.specs.{Number.number_of}
use Rattle.totals.proofs.nearest.top.Given as goal

abbrev pub invariant-loop-i : goal.invariant-loop-i
invariant-loop-i l = number_of (take l.n l.words) ≡ number_of (take (l.n - l.i) l.words)
