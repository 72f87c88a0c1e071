-- The two words there are the step.
use Rattle.words.specs.Prelude.{arith}
use Rattle.steps.proofs.{Heads.near}
use Rattle.steps.proofs.decode.near_step.Goals as goal

pub returns : goal.returns
returns c =
    rw c.eight_at.ensures
    (near c.args.list.now _ _ (λ i. omega (arith, c.type_inv.list i)) c.requires.0 c.requires.1 c.requires.2)
