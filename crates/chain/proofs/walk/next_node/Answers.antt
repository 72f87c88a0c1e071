-- Each return is where the chain goes from a node of that shape. Assumes nothing.
use Rattle.chain.specs.{Flat.next_by}
use Rattle.chain.proofs.{Going.next_deep, Going.next_by_lem}
use Rattle.chain.proofs.walk.next_node.Goals as goal

pub returns-then-left-eq0 : goal.returns-then-left-eq0
unfolding next_by
returns-then-left-eq0 c = rw (next_deep _ _ _ _ _ _ _ c.if-left-eq0.true)

pub returns-in-Group : goal.returns-in-Group
unfolding next_by
returns-in-Group c =
    rw (next_by_lem _ _ _ _ _ _ _ c.if-left-eq0.false _ _ c.condition_shape.ensures c.in-Group.is) c.first_with.ensures

pub returns-in-Not : goal.returns-in-Not
unfolding next_by
returns-in-Not c = rw (next_by_lem _ _ _ _ _ _ _ c.if-left-eq0.false _ _ c.condition_shape.ensures c.in-Not.is)

pub returns-in-Compare : goal.returns-in-Compare
unfolding next_by
returns-in-Compare c = rw (next_by_lem _ _ _ _ _ _ _ c.if-left-eq0.false _ _ c.condition_shape.ensures c.in-Compare.is)

pub returns-in-Cross : goal.returns-in-Cross
unfolding next_by
returns-in-Cross c = rw (next_by_lem _ _ _ _ _ _ _ c.if-left-eq0.false _ _ c.condition_shape.ensures c.in-Cross.is)

pub returns-in-Between : goal.returns-in-Between
unfolding next_by
returns-in-Between c = rw (next_by_lem _ _ _ _ _ _ _ c.if-left-eq0.false _ _ c.condition_shape.ensures c.in-Between.is)

pub returns-in-Trend : goal.returns-in-Trend
unfolding next_by
returns-in-Trend c = rw (next_by_lem _ _ _ _ _ _ _ c.if-left-eq0.false _ _ c.condition_shape.ensures c.in-Trend.is)

pub returns-in-InPosition : goal.returns-in-InPosition
unfolding next_by
returns-in-InPosition c = rw (next_by_lem _ _ _ _ _ _ _ c.if-left-eq0.false _ _ c.condition_shape.ensures c.in-InPosition.is)

pub returns-in-BarsSince : goal.returns-in-BarsSince
unfolding next_by
returns-in-BarsSince c = rw (next_by_lem _ _ _ _ _ _ _ c.if-left-eq0.false _ _ c.condition_shape.ensures c.in-BarsSince.is)

pub returns-in-NoCondition : goal.returns-in-NoCondition
unfolding next_by
returns-in-NoCondition c = rw (next_by_lem _ _ _ _ _ _ _ c.if-left-eq0.false _ _ c.condition_shape.ensures c.in-NoCondition.is)
