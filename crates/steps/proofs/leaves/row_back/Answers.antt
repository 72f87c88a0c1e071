-- No row before the newest is the newest.
use Rattle.words.specs.Prelude.{◌≡◌, ap, ◌∙◌, arith, ℕ, ◌+◌, ◌-◌, ◌*◌}
use Rattle.rows.specs.{Ring.ring_place}
use Rattle.steps.proofs.leaves.row_back.Goals as goal

pub returns-then-n-eq0 : goal.returns-then-n-eq0
returns-then-n-eq0 c =
    let a = c.args in
    let none : a.held - 1 ≡ a.held - 1 - a.n = omega (arith, c.if-n-eq0.true) in
    c.requires.newest_value ∙ ap (λ (m : ℕ). ring_place a.held a.first m * (7 + a.slots)) none
