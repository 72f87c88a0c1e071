-- No bars, a stream that is not fine, or bar after bar.
use Rattle.words.specs.Prelude.{sym, ◌∙◌}
use Rattle.accounts.specs.{Stream.taken_unless, Stream.stream_taken}
use Rattle.accounts.proofs.stream.take_bars.Goals as goal

pub returns-then-is_empty : goal.returns-then-is_empty
unfolding stream_taken
returns-then-is_empty c = rw (sym c.is_empty.ensures ∙ c.if-is_empty.true)

pub returns-in-Err : goal.returns-in-Err
unfolding stream_taken taken_unless
returns-in-Err c =
    rw (
      sym c.is_empty.ensures ∙ c.if-is_empty.false,
      sym c.judge_stream.ensures ∙ c.in-Err.is,
    )

pub take_whole-requires : goal.take_whole-requires
unfolding stream_taken
take_whole-requires c = sym c.judge_stream.ensures ∙ c.in_default.is

pub returns : goal.returns
unfolding stream_taken taken_unless
returns c =
    rw (
      sym c.is_empty.ensures ∙ c.if-is_empty.false,
      sym c.judge_stream.ensures ∙ c.in_default.is,
    ) c.take_whole.ensures
