-- Five words.
use Rattle.images.proofs.body.candle_fine.Goals as goal

pub returns : goal.returns
returns c =
    rw (
      c.finite_at-5.ensures,
      c.finite_at-4.ensures,
      c.finite_at-3.ensures,
      c.finite_at-2.ensures,
      c.finite_at.ensures,
    )
