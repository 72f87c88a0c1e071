-- The two words there are the step.
use Rattle.words.specs.Prelude.{arith}
use Rattle.steps.proofs.{Heads.told_there}
use Rattle.steps.proofs.quick.jump_there.Goals as goal

pub returns : goal.returns
returns c e slots depth =
    told_there c.args.list.now _ (λ i. omega (arith, c.type_inv.list i)) _ _
    c.eight_at-head.ensures c.eight_at-bits.ensures slots depth _ (c.jump_yes.ensures e slots depth)
