use Rattle.std.specs.Prelude.{None, Some}
use Rattle.words.specs.Prelude.{◌≡◌, ◌∙◌, sym, ap, true, false, List, ℕ, ◌+◌, ◌-◌, ◌≤◌, ◌<◌, sub-zero, rules}
use Rattle.table.specs.{Nodes.node_right, Nodes.wrong_node}
use Rattle.table.specs.{Laws.Forest.left_suc, Laws.Forest.left_zero}
use Rattle.table.proofs.nodes.wrong_node.Goals as goal

module _ (t : List ℕ) (e i : ℕ) where
  wrong_step : i < e → node_right t i ≡ true → wrong_node t (e - i) i ≡ wrong_node t (e - (i + 1)) (i + 1)
  unfolding wrong_node
  wrong_step h r = rw (left_suc e i h, r)

  wrong_found : i < e → node_right t i ≡ false → wrong_node t (e - i) i ≡ Some i
  unfolding wrong_node
  wrong_found h r = rw (left_suc e i h, r)

  wrong_none : e ≤ i → wrong_node t (e - i) i ≡ None
  unfolding wrong_node
  wrong_none h = rw (left_zero e i h)

pub loop-i-init : goal.loop-i-init
loop-i-init c = ap (λ (m : ℕ). wrong_node c.args.t.now m 0) (sym (sub-zero c.args.total))

pub loop-i-preserved : goal.loop-i-preserved
unfolding node_right
loop-i-preserved c = c.loop-i.invariant ∙ wrong_step _ _ _ (search rules) (cc)

pub returns-then-not-node_right : goal.returns-then-not-node_right
unfolding node_right
returns-then-not-node_right c = sym (c.loop-i.invariant ∙ wrong_found _ _ _ (search rules) (cc))

pub returns : goal.returns
returns c = sym (c.loop-i.invariant ∙ wrong_none _ _ _ (search rules))
