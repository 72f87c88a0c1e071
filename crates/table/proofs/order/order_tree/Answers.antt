use Rattle.words.specs.Prelude.{arith, length-set, rules}
use Rattle.table.proofs.{Prefix.order_none, Prefix.from_next, Prefix.order_more, Prefix.order_at}
use Rattle.table.proofs.order.order_tree.Goals as goal

pub loop-i-init : goal.loop-i-init
loop-i-init c = (search rules, search rules, search rules, order_none _ _ _)

pub end_of-v-requires : goal.end_of-v-requires
end_of-v-requires c = let l = c.loop-i in record { i_lt_e = search rules; ended_from = from_next _ _ l.i _ _ (omega arith) l.invariant.3.known }

pub loop-i-preserved : goal.loop-i-preserved
loop-i-preserved c =
    let l = c.loop-i in (
      search rules,
      search rules,
      simp length-set l.invariant.2,
      order_more _ _ l.i _ _ _ _ (omega arith) (search rules) (omega arith) l.invariant.3
          c.end_of-v.ensures,
    )

pub returns : goal.returns
returns c = order_at _ _ _ _ _ _ (omega arith) c.loop-i.invariant.3
