-- `floats::root::whole_root`: after each round what was found holds, and the weight is 4 to the rounds that are left. Assumes nothing.
use Rattle.words.specs.Prelude.{◌≡◌, ◌+◌, ◌-◌, ◌*◌, ◌^◌, ◌≤◌}
use Rattle.floats.proofs.{root.Bits.Found}
use Rattle.floats.proofs.root.whole_root.Given as goal

abbrev pub invariant-loop-round : goal.invariant-loop-round
invariant-loop-round l =
    (l.p.weight ≡ 4 ^ (27 - l._round)) × Found (l.d * 2 ^ 54) l.p.twice l.p.rest l.p.weight × (l.p.twice + 2 * l.p.weight ≤ 2 ^ 55)
