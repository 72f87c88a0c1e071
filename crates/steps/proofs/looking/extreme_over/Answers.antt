-- Missing where the oldest row does not have it.
use Rattle.std.specs.Prelude.{None}
use Rattle.words.specs.Prelude.{◌+◌, ◌-◌, ◌≡◌, sym, ◌∙◌, arith, rules}
use Rattle.rows.specs.{Ring.ring_of}
use Rattle.rules.specs.{Laws.Meaning.any_missing}
use Rattle.steps.specs.{Looks.over_of}
use Rattle.steps.proofs.looking.extreme_over.Goals as goal

pub returns-in_err-start : goal.returns-in_err-start
returns-in_err-start c =
    let a = c.args in
    let given : c.from_residual.result ≡ None = search rules in
    let first : a.oldest + 0 ≡ a.oldest = omega arith in
    given ∙ sym (any_missing (ring_of a.slots a.first a.rows.now) a.kind (over_of a.slot a.which) a.oldest (a.newest - a.oldest) 0
    (omega arith) (rw first (sym c.series_at.ensures ∙ c.in_err-start.was)))
