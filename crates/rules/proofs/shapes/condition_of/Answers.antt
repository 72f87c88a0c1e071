-- One return for each class. Assumes nothing.
use Rattle.rules.specs.{Shapes.condition_of}
use Rattle.rules.proofs.shapes.condition_of.Goals as goal

pub returns-in-Compare : goal.returns-in-Compare
unfolding condition_of
returns-in-Compare c = rw c.in-Compare.is

pub returns-in-Cross : goal.returns-in-Cross
unfolding condition_of
returns-in-Cross c = rw c.in-Cross.is

pub returns-in-Between : goal.returns-in-Between
unfolding condition_of
returns-in-Between c = rw c.in-Between.is

pub returns-in-Trend : goal.returns-in-Trend
unfolding condition_of
returns-in-Trend c = rw c.in-Trend.is

pub returns-in-All : goal.returns-in-All
unfolding condition_of
returns-in-All c = rw c.in-All.is

pub returns-in-Any : goal.returns-in-Any
unfolding condition_of
returns-in-Any c = rw c.in-Any.is

pub returns-in-Not : goal.returns-in-Not
unfolding condition_of
returns-in-Not c = rw c.in-Not.is

pub returns-in-InPosition : goal.returns-in-InPosition
unfolding condition_of
returns-in-InPosition c = rw c.in-InPosition.is

pub returns-in-BarsSince : goal.returns-in-BarsSince
unfolding condition_of
returns-in-BarsSince c = rw c.in-BarsSince.is

pub returns-in-NoCondition : goal.returns-in-NoCondition
unfolding condition_of
returns-in-NoCondition c = rw c.in-NoCondition.is
