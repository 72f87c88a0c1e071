use Rattle.words.specs.Prelude.{◌≡◌, ◌+◌, ◌-◌, arith, rules}
use Rattle.table.specs.{Ends.Linked}
use Rattle.table.proofs.{Weigh.rest_all, Weigh.rest_turn, Weigh.rest_none, Weigh.rest_end}
use Rattle.table.proofs.weighing.most_below.Goals as goal

pub loop-init : goal.loop-init
loop-init c = (search rules, search rules, rest_all _ _ _ _ _ (omega arith))

pub returns-then-e-j : goal.returns-then-e-j
returns-then-e-j c = let l = c.loop in rest_end _ _ _ _ _ l.most l.j l.invariant.2 (search rules)

pub loop-preserved : goal.loop-preserved
unfolding Linked
loop-preserved c =
    let l = c.loop in
    let children = c.child_count_at-children.result in
    let one_less : children - (l.counter + 1) ≡ children - l.counter - 1 = omega arith in
    let k = c.requires.linked l.j (search rules) (search rules) in (
      omega (arith, k.beyond),
      k.within,
      rw one_less
          (rest_turn _ _ _ _ _ l.most l.j l.invariant.2 _ _ c.max-most.ensures (omega arith) (search rules)
          (search rules) k),
    )

pub returns : goal.returns
returns c = let l = c.loop in rest_none _ _ _ _ _ l.most l.j l.invariant.2 (omega arith)
