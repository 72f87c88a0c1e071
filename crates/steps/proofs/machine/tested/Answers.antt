-- The test is that of the definition.
use Rattle.words.specs.Prelude.{lt-ltb, le-ltb}
use Rattle.steps.proofs.machine.tested.Goals as goal

pub returns-then-kind-lt-BETWEEN : goal.returns-then-kind-lt-BETWEEN
returns-then-kind-lt-BETWEEN c =
    rw (
      lt-ltb _ _ c.if-kind-lt-BETWEEN.true,
      c.crossed.ensures,
      c.at-d.ensures,
      c.at-c.ensures,
      c.at-b.ensures,
      c.at-a.ensures,
    )

pub returns : goal.returns
returns c =
    rw (
      le-ltb _ _ c.if-kind-lt-BETWEEN.false,
      c.within.ensures,
      c.at-c.ensures,
      c.at-b.ensures,
      c.at-a.ensures,
    )
