-- Field by field, what each call gives.
use Rattle.records.specs.{Settings.terms_of}
use Rattle.records.proofs.settings.terms_of.Goals as goal

pub returns : goal.returns
unfolding terms_of
returns c =
    rw (
      c.float_in-3.ensures,
      c.float_in-2.ensures,
      c.flag_of.ensures,
      c.word_in-6.ensures,
      c.slippage_of.ensures,
      c.word_in-5.ensures,
      c.word_in-4.ensures,
      c.float_in.ensures,
      c.risk_of.ensures,
      c.sizing_of.ensures,
      c.word_in-3.ensures,
      c.word_in-2.ensures,
      c.word_in.ensures,
    )
