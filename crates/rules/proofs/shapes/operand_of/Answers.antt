-- One return for each class. Assumes nothing.
use Rattle.rules.specs.{Shapes.operand_of}
use Rattle.rules.proofs.shapes.operand_of.Goals as goal

pub returns-in-Const : goal.returns-in-Const
unfolding operand_of
returns-in-Const c = rw c.in-Const.is

pub returns-in-Ref : goal.returns-in-Ref
unfolding operand_of
returns-in-Ref c = rw c.in-Ref.is

pub returns-in-Price : goal.returns-in-Price
unfolding operand_of
returns-in-Price c = rw c.in-Price.is

pub returns-in-Prev : goal.returns-in-Prev
unfolding operand_of
returns-in-Prev c = rw c.in-Prev.is

pub returns-in-Arith : goal.returns-in-Arith
unfolding operand_of
returns-in-Arith c = rw c.in-Arith.is

pub returns-in-Extreme : goal.returns-in-Extreme
unfolding operand_of
returns-in-Extreme c = rw c.in-Extreme.is

pub returns-in-NoOperand : goal.returns-in-NoOperand
unfolding operand_of
returns-in-NoOperand c = rw c.in-NoOperand.is
