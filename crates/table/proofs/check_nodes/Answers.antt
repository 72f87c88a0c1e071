-- `check_nodes` meets its contract: rule 6 is broken, or what is left decides.
-- Assumes nothing.
use Rattle.table.proofs.{Final.six_at, Final.six_none, Final.head_roots}
use Rattle.table.proofs.check_nodes.Goals as goal

pub check_order-requires : goal.check_order-requires
check_order-requires c =
    head_roots _ _ _
    c.requires c.root-exit.ensures.0 c.root-short_entry.ensures.0
    c.root-short_exit.ensures.0
    c.total-total.ensures.0

pub returns-in-Some : goal.returns-in-Some
returns-in-Some c =
    six_at _ _ _ _ _
    c.requires _
    c.total-total.ensures.0 _
    c.wrong_node-wrong.ensures _ c.in-Some.is c.refused.ensures.0 c.refused.ensures.1

pub returns-in-None : goal.returns-in-None
returns-in-None c =
    six_none _ _ _ _ _
    c.requires _
    c.total-total.ensures.0 _
    c.wrong_node-wrong.ensures
    c.in-None.is c.check_order.ensures.0 c.check_order.ensures.1
