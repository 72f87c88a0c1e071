use Rattle.words.specs.Prelude.{arith, length-set, rules}
use Rattle.table.proofs.{Weigh.words_next, Weigh.most_small, Weigh.words_none, Weigh.words_more, Weigh.words_at, Weigh.links_next}
use Rattle.table.proofs.weighing.weigh_tree.Goals as goal

pub loop-i-init : goal.loop-i-init
loop-i-init c = (search rules, search rules, search rules, words_none _ _ _ _)

pub most_below-most-requires : goal.most_below-most-requires
most_below-most-requires c =
    let l = c.loop-i in
    record { i_lt_e = search rules; linked = links_next _ _ c.args.b _ _ (omega arith) c.requires.linked }

pub overflow_add-own : goal.overflow_add-own
overflow_add-own c =
    let l = c.loop-i in
    omega (arith, most_small _ _ _ _ _ _ c.most_below-most.ensures (words_next _ _ _ l.i _ _ (omega arith) l.invariant.3))

pub loop-i-preserved : goal.loop-i-preserved
loop-i-preserved c =
    let l = c.loop-i in (
      search rules,
      search rules,
      simp length-set l.invariant.2,
      words_more _ _ _ l.i _ _ _ _ _ (omega arith) (search rules) (omega arith) l.invariant.3
          c.weight_at-own.ensures c.most_below-most.ensures c.capped-x.ensures,
    )

pub returns : goal.returns
returns c = words_at _ _ _ _ _ _ (omega arith) c.loop-i.invariant.3
