-- It stands no row before the newest.
use Rattle.words.specs.Prelude.{sym, ap, ◌∙◌, sub-zero, ℕ, ◌+◌, ◌-◌, ◌*◌}
use Rattle.rows.specs.{Ring.ring_place}
use Rattle.steps.proofs.{Rows.place_none}
use Rattle.steps.proofs.leaves.newest_row.Goals as goal

pub returns-then-held-eq0 : goal.returns-then-held-eq0
returns-then-held-eq0 c = sym (place_none _ _ _ c.if-held-eq0.true)

pub returns : goal.returns
returns c =
    let a = c.args in
    c.row_ago.ensures ∙ ap (λ (m : ℕ). ring_place a.held a.first m * (7 + a.slots)) (sub-zero (a.held - 1))
