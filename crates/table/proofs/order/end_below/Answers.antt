use Rattle.words.specs.Prelude.{◌≡◌, ◌+◌, ◌-◌, arith, rules}
use Rattle.table.specs.{Passes.EndedFrom}
use Rattle.table.proofs.{Prefix.begin, Prefix.turn, Prefix.cut_short, Prefix.wrong, Prefix.inside, Prefix.closed}
use Rattle.table.proofs.order.end_below.Goals as goal

pub loop-init : goal.loop-init
loop-init c =
    (search rules, search rules, begin _ _ _ _ _ (search rules) c.requires.i_value.0 (omega arith) c.requires.i_value.2)

pub returns-then-e-j : goal.returns-then-e-j
returns-then-e-j c =
    let l = c.loop in
    let of = c.args.below in
    cut_short _ _ _ of _ l.j l.invariant.2 (omega arith) (search rules) (search rules)

pub returns-then-sort_at-below : goal.returns-then-sort_at-below
returns-then-sort_at-below c =
    let l = c.loop in
    let of = c.args.below in
    wrong _ _ _ of _ l.j l.invariant.2 (omega arith) (search rules) (search rules) (search rules)

pub returns-then-v-ge-MISFIT_FROM : goal.returns-then-v-ge-MISFIT_FROM
unfolding EndedFrom
returns-then-v-ge-MISFIT_FROM c =
    let l = c.loop in
    let of = c.args.below in
    inside _ _ _ of _ l.j l.invariant.2 (omega arith) _ (search rules) (search rules)
    (c.requires.ended_from l.j (search rules) (search rules))

pub loop-preserved : goal.loop-preserved
unfolding EndedFrom
loop-preserved c =
    let l = c.loop in
    let of = c.args.below in
    let one_less : c.args.many - (l.counter + 1) ≡ c.args.many - l.counter - 1 = omega arith in
    let k = c.requires.ended_from l.j (search rules) (search rules) in (
      omega (arith, k.beyond (search rules)),
      k.within (search rules),
      rw one_less (turn _ _ _ of _ l.j l.invariant.2 (omega arith) _ (search rules) (search rules) k),
    )

pub returns : goal.returns
returns c =
    let l = c.loop in
    let of = c.args.below in
    closed _ _ _ of _ l.j l.invariant.2 (omega arith) (search rules) (search rules) (search rules)
