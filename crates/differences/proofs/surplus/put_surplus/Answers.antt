-- No line where the counts are equal, and else the one.
use Rattle.words.specs.Prelude.{ap, arith, length}
use Rattle.differences.specs.{Laws.Counted.surplus_none, Laws.Counted.surplus_some, Laws.Written.none_put, Laws.Written.one_put}
use Rattle.differences.proofs.surplus.put_surplus.Goals as goal

pub returns-then-m-n : goal.returns-then-m-n
returns-then-m-n c =
    none_put _ _ _ (surplus_none c.args.sort c.args.m c.args.n c.if-m-n.true) c.requires

pub put_line-requires : goal.put_line-requires
put_line-requires c =
    let one = ap length (surplus_some c.args.sort c.args.m c.args.n c.if-m-n.false) in
    omega (arith, c.requires, one)

pub returns : goal.returns
returns c =
    one_put _ _ _ _ (surplus_some c.args.sort c.args.m c.args.n c.if-m-n.false)
    (rw c.min.ensures at c.put_line.ensures)
