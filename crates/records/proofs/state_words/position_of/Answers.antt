-- Part by part, what each call gives.
use Rattle.records.specs.{StateWords.position_of}
use Rattle.records.proofs.state_words.position_of.Goals as goal

pub returns : goal.returns
unfolding position_of
returns c =
    rw (
      c.float_in.ensures,
      c.entered_of.ensures,
      c.word_in-2.ensures,
      c.word_in.ensures,
      c.portfolio_of.ensures,
    )
