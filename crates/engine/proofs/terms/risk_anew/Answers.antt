-- Level by level.
use Rattle.engine.proofs.terms.risk_anew.Goals as goal

pub returns : goal.returns
returns c =
    rw (
      c.level_anew-5.ensures,
      c.level_anew-4.ensures,
      c.level_anew-3.ensures,
      c.level_anew-2.ensures,
      c.level_anew.ensures,
    )
