-- What is left of the head is at most `after`, so that it is all skip.
use Rattle.words.specs.Prelude.{leb-true, arith}
use Rattle.steps.proofs.{Heads.jump_told}
use Rattle.steps.proofs.quick.jump_yes.Goals as goal

pub returns-then-bits-ne0 : goal.returns-then-bits-ne0
returns-then-bits-ne0 c e slots depth = cc

pub returns-then-head-lt-JUMP_AT_NO : goal.returns-then-head-lt-JUMP_AT_NO
returns-then-head-lt-JUMP_AT_NO c e slots depth = cc

pub returns-then-head-ge-PAST_JUMPS : goal.returns-then-head-ge-PAST_JUMPS
returns-then-head-ge-PAST_JUMPS c e slots depth = cc

pub returns : goal.returns
returns c e slots depth =
    rw c.if-bits-ne0.false
    (jump_told slots depth _ _ c.requires (omega (arith, c.if-head-lt-JUMP_AT_NO.false)) (omega (arith, c.if-head-ge-PAST_JUMPS.false)) (leb-true _ _ e))
