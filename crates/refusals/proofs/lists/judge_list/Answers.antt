-- An empty list is well formed. A bad step's place is below 1,024, so the sum fits. Assumes nothing.
use Rattle.words.specs.Prelude.{◌≡◌, sym, ◌∙◌, arith, length}
use Rattle.std.proofs.lemmas.Grind.{common_steps}
use Rattle.steps.specs.{Laws.Empty.empty_well}
use Rattle.refusals.specs.{Lines.judged, Laws.BadStep.bad_below}
use Rattle.refusals.proofs.lists.judge_list.Goals as goal

pub returns-then-is_empty : goal.returns-then-is_empty
unfolding judged
returns-then-is_empty c =
    let a = c.args in
    let none : length a.steps.now ≡ 0 = grind (arith, common_steps) in
    simp (empty_well a.slots a.depth a.steps.now none)

pub overflow_add-place : goal.overflow_add-place
overflow_add-place c =
    let a = c.args in
    omega (arith, bad_below a.slots a.depth a.steps.now _ (sym c.check-form.ensures ∙ c.in-Err.is))

pub returns-in-Ok : goal.returns-in-Ok
unfolding judged
returns-in-Ok c = simp (sym c.check-form.ensures ∙ c.in-Ok.is)

pub returns-in-Err : goal.returns-in-Err
unfolding judged
returns-in-Err c = simp (sym c.check-form.ensures ∙ c.in-Err.is)
