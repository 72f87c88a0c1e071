-- The test is that of the definition; where it fails, nothing is told.
use Rattle.words.specs.Prelude.{lt-ltb, sym, true≢false}
use Rattle.rules.specs.{Values.price_of}
use Rattle.steps.proofs.leaves.field_at_once.Goals as goal

pub returns-then-selector-lt5 : goal.returns-then-selector-lt5
unfolding price_of
returns-then-selector-lt5 c e = rw (lt-ltb _ _ c.if-selector-lt5.true, c.field_in.ensures)

pub returns : goal.returns
unfolding price_of
returns c e = absurd (true≢false (sym e))
