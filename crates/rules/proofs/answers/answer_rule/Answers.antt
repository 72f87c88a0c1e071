-- The table's refusals first, then 13, then what the tree says: the flat reading's answer is the tree's. Assumes nothing.
use Rattle.rules.proofs.{Judged.refused, Judged.unwhole, Judged.unright, Judged.answers}
use Rattle.rules.proofs.answers.answer_rule.Goals as goal

pub returns-then-state_right : goal.returns-then-state_right
returns-then-state_right c =
    answers _ _ _ _ _ _ _ c.check-checked.ensures.0 c.in-Ok.is _ (rw (← c.slots-slots.ensures) c.are_whole.ensures)
    c.if-are_whole.true _ c.state_right.ensures c.if-state_right.true _ c.check-checked.ensures.1 _ c.tree_number.ensures _
    c.eval_tree.ensures

pub returns-in-Err : goal.returns-in-Err
returns-in-Err c = refused _ _ _ _ _ _ c.check-checked.ensures.0 c.in-Err.is

pub returns-else-state_right : goal.returns-else-state_right
returns-else-state_right c =
    unright _ _ _ _ _ _ _ c.check-checked.ensures.0 c.in-Ok.is _ (rw (← c.slots-slots.ensures) c.are_whole.ensures)
    c.if-are_whole.true _ c.state_right.ensures c.if-state_right.false

pub returns-else-are_whole : goal.returns-else-are_whole
returns-else-are_whole c =
    unwhole _ _ _ _ _ _ _ c.check-checked.ensures.0 c.in-Ok.is _ (rw (← c.slots-slots.ensures) c.are_whole.ensures)
    c.if-are_whole.false
