-- Arm by arm.
use Rattle.words.specs.Prelude.{le-ltb, lt-ltb}
use Rattle.steps.specs.{WellFormed.bounded}
use Rattle.steps.proofs.wellformed.bounded.Goals as goal

pub returns-in-Const : goal.returns-in-Const
unfolding bounded
returns-in-Const c = simp c.in-Const.is

pub returns-then-k-slots : goal.returns-then-k-slots
unfolding bounded
returns-then-k-slots c = simp (lt-ltb _ _ c.if-k-slots.true, c.in-Ref.is)

pub returns-else-k-slots : goal.returns-else-k-slots
unfolding bounded
returns-else-k-slots c = simp (le-ltb _ _ c.if-k-slots.false, c.in-Ref.is)

pub returns-in-Price : goal.returns-in-Price
unfolding bounded
returns-in-Price c = simp c.in-Price.is

pub returns-in-Extreme : goal.returns-in-Extreme
unfolding bounded
returns-in-Extreme c = simp (c.looks_within.ensures, c.in-Extreme.is)

pub returns-in-Arith : goal.returns-in-Arith
unfolding bounded
returns-in-Arith c = simp c.in-Arith.is

pub returns-in-Compare : goal.returns-in-Compare
unfolding bounded
returns-in-Compare c = simp c.in-Compare.is

pub returns-in-Cross : goal.returns-in-Cross
unfolding bounded
returns-in-Cross c = simp c.in-Cross.is

pub returns-in-Between : goal.returns-in-Between
unfolding bounded
returns-in-Between c = simp c.in-Between.is

pub returns-in-Answer : goal.returns-in-Answer
unfolding bounded
returns-in-Answer c = simp c.in-Answer.is

pub returns-in-Turn : goal.returns-in-Turn
unfolding bounded
returns-in-Turn c = simp c.in-Turn.is

pub returns-in-InPosition : goal.returns-in-InPosition
unfolding bounded
returns-in-InPosition c = simp c.in-InPosition.is

pub returns-in-BarsSinceEntry : goal.returns-in-BarsSinceEntry
unfolding bounded
returns-in-BarsSinceEntry c = simp c.in-BarsSinceEntry.is

pub returns-in-JumpIf : goal.returns-in-JumpIf
unfolding bounded
returns-in-JumpIf c = simp c.in-JumpIf.is

pub returns-in-Unknown : goal.returns-in-Unknown
unfolding bounded
returns-in-Unknown c = simp c.in-Unknown.is
