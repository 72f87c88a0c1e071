use Rattle.words.specs.Prelude.{◌+◌, ◌-◌, ◌<◌, ◌≤◌, ◌≡◌, sym, ◌∙◌, arith}
use Rattle.chain.proofs.{Going.first_is, Going.first_not, Going.first_none}
use Rattle.chain.proofs.walk.first_with.Goals as goal

pub loop-m-init : goal.loop-m-init
loop-m-init c =
    let all : c.args.n - 0 ≡ c.args.n = omega arith in
    rw all

pub returns-then-eval_condition-answer : goal.returns-then-eval_condition-answer
returns-then-eval_condition-answer c =
    let l = c.loop-m in
    let some : 0 < c.args.n - l.m = omega arith in
    sym (l.invariant ∙ first_is _ _ _ _ _ _ some c.eval_condition.ensures c.if-eval_condition-answer.true)

pub loop-m-preserved : goal.loop-m-preserved
loop-m-preserved c =
    let l = c.loop-m in
    let some : 0 < c.args.n - l.m = omega arith in
    let rest : c.args.n - (l.m + 1) ≡ c.args.n - l.m - 1 = omega arith in
    rw (rest, c.end_in-at.ensures) (l.invariant ∙ first_not _ _ _ _ _ _ some c.eval_condition.ensures c.if-eval_condition-answer.false)

pub returns : goal.returns
returns c =
    let l = c.loop-m in
    let over : c.args.n - l.m ≤ 0 = omega arith in
    sym (l.invariant ∙ first_none _ _ _ _ _ over)
