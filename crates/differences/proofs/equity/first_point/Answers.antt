use Rattle.words.specs.Prelude.{◌≡◌, sym, ap, ◌∙◌, ◌-◌, arith, rules}
use Rattle.differences.specs.{Lines.first_point, Laws.Counted.point_same, Laws.Counted.point_other, Laws.Counted.no_point}
use Rattle.differences.proofs.equity.first_point.Goals as goal

pub loop-k-init : goal.loop-k-init
loop-k-init c =
    let all : c.args.n ≡ c.args.n - 0 = omega arith in
    ap (first_point c.args.a.now c.args.b.now 0) all

pub returns-then-a-k : goal.returns-then-a-k
returns-then-a-k c =
    let l = c.loop-k in
    let start = c.args in
    sym (l.invariant ∙ point_other start.a.now start.b.now l.k start.n (search rules) c.if-a-k.true)

pub loop-k-preserved : goal.loop-k-preserved
loop-k-preserved c =
    let l = c.loop-k in
    let start = c.args in
    l.invariant ∙ point_same start.a.now start.b.now l.k start.n (search rules) c.if-a-k.false

pub returns : goal.returns
returns c =
    let l = c.loop-k in
    let start = c.args in
    let none : start.n - l.k ≡ 0 = omega arith in
    let end : start.n ≡ l.k = omega arith in
    end ∙ sym (l.invariant ∙ ap (first_point start.a.now start.b.now l.k) none ∙ no_point start.a.now start.b.now l.k)
