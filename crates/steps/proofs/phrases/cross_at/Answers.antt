-- Four leaves and a cross, or no test.
use Rattle.words.specs.Prelude.{sym, ◌∙◌, arith}
use Rattle.steps.specs.{Laws.Classes.range_in}
use Rattle.steps.proofs.{Coming.cross_tests}
use Rattle.steps.proofs.phrases.cross_at.Goals as goal

pub returns-then-n-p-lt5 : goal.returns-then-n-p-lt5
returns-then-n-p-lt5 c some = absurd (omega (arith, some))

pub returns-then-d : goal.returns-then-d
returns-then-d c =
    let gives = c.requires.gives in
    let kind = range_in _ _ _ (sym c.is_among.ensures ∙ c.if-is_among.true) in
    rw c.crossed-answer.ensures
    (cross_tests _ _ _ _ _ _ gives.0 gives.1 _ _ (c.leaf_at-c.ensures c.if-c.true)
    (c.leaf_at-d.ensures c.if-d.true) (omega (arith, c.if-n-p-lt5.false)) _ c.step_at-x.ensures.0 kind.0 kind.1)

pub returns-else-d : goal.returns-else-d
returns-else-d c some = absurd (omega (arith, some))

pub returns-else-c : goal.returns-else-c
returns-else-c c some = absurd (omega (arith, some))

pub returns-else-is_among : goal.returns-else-is_among
returns-else-is_among c some = absurd (omega (arith, some))
