-- The table's refusals first, then the lines for rooms and records; where all are fine, each place and count is written.
use Rattle.std.specs.Prelude.{◌≡◌, Err}
use Rattle.words.specs.Prelude.{refl, rules, sym, ◌∙◌, arith}
use Rattle.table.specs.{Bytes.Bytes}
use Rattle.questions.specs.{Over.unless_refused, Laws.Known.known}
use Rattle.questions.proofs.{Asking.table_refused, Asking.lines_judged, Asking.seen}
use Rattle.questions.proofs.over.explain_over.Goals as goal

pub explain_rows-requires : goal.explain_rows-requires
unfolding Bytes
explain_rows-requires c =
    let a = c.args in
    let f = seen a.t.now a.rows.now a.positions.now _ _ _ c.slots-slots.ensures _ c.judge_over.ensures
    c.in_ok-judge_over.was in (
      known a.t.now (λ j. omega (arith, c.type_inv.t j)) _ _
          (sym c.check-checked.ensures.0 ∙ c.in_ok-checked.was) _ c.check-checked.ensures.1,
      f.held,
      f.places,
    )

pub returns-in_err-checked : goal.returns-in_err-checked
unfolding unless_refused
returns-in_err-checked c =
    let given : c.from_residual.result ≡ Err c.in_err-checked.field-0.0 = search rules in
    (given ∙ table_refused _ _ _ _ _ _ _ c.check-checked.ensures.0 c.in_err-checked.was, rw given refl, rw given refl)

pub returns-in_err-judge_over : goal.returns-in_err-judge_over
unfolding unless_refused
returns-in_err-judge_over c =
    let given : c.from_residual-in_err-judge_over.result ≡ Err c.in_err-judge_over.field-0.0 = search rules in (
      given
          ∙ sym c.in_err-judge_over.was
          ∙ lines_judged _ _ _ _ _ _ c.slots-slots.ensures _ c.judge_over.ensures _ _ _ c.check-checked.ensures.0
          c.in_ok-checked.was,
      rw given refl,
      rw given refl,
    )

pub returns : goal.returns
unfolding unless_refused
returns c = (
  sym c.in_ok-judge_over.was
      ∙ lines_judged _ _ _ _ _ _ c.slots-slots.ensures _ c.judge_over.ensures _ _ _ c.check-checked.ensures.0
      c.in_ok-checked.was,
  c.explain_rows.ensures.lines_after,
  c.explain_rows.ensures.counts_after,
)
