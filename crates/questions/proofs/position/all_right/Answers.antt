use Rattle.words.specs.Prelude.{◌<◌, ◌≡◌, sym, ap, ◌∙◌, arith}
use Rattle.rules.specs.{Answers.state_right}
use Rattle.refusals.specs.{Laws.Every.every_none, Laws.Every.every_more, Laws.Every.every_no}
use Rattle.questions.specs.{Position.all_right}
use Rattle.questions.proofs.position.all_right.Goals as goal

pub loop-i-init : goal.loop-i-init
unfolding all_right
loop-i-init c = every_none _

pub position_at-requires : goal.position_at-requires
unfolding all_right
position_at-requires c = omega (arith, c.requires)

pub loop-i-preserved : goal.loop-i-preserved
unfolding all_right
loop-i-preserved c =
    let l = c.loop-i in
    every_more _ l.i l.invariant
    (ap state_right (sym c.position_at.ensures) ∙ sym c.state_right.ensures ∙ c.if-not-state_right.false)

pub returns-then-not-state_right : goal.returns-then-not-state_right
unfolding all_right
returns-then-not-state_right c =
    let l = c.loop-i in
    let here : l.i < c.args.n = omega arith in
    sym (every_no _ l.i (ap state_right (sym c.position_at.ensures) ∙ sym c.state_right.ensures ∙ c.if-not-state_right.true) _ here)

pub returns : goal.returns
returns c =
    let l = c.loop-i in
    let end : c.args.n ≡ l.i = omega arith in
    sym (ap (all_right c.args.positions.now) end ∙ l.invariant)
