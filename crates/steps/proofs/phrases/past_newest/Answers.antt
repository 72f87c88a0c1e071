-- Past the test, with its answer, or nowhere.
use Rattle.words.specs.Prelude.{arith}
use Rattle.steps.proofs.phrases.past_newest.Goals as goal

pub returns-then-t-gt0 : goal.returns-then-t-gt0
returns-then-t-gt0 c = (omega arith, λ s came. c.newest_against-t.ensures.1 c.if-t-gt0.true s _ _ came)
