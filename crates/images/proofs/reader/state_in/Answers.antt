-- The words, one by one, and the state that they mean.
use Rattle.images.specs.{Reading.words_in, Reading.state_in}
use Rattle.images.proofs.reader.state_in.Goals as goal

pub returns : goal.returns
unfolding state_in words_in
returns c =
    simp (
      c.state_of.ensures,
      c.read64-14.ensures,
      c.read64-13.ensures,
      c.read64-12.ensures,
      c.read64-11.ensures,
      c.byte-3.ensures,
      c.read64-10.ensures,
      c.read64-9.ensures,
      c.read64-8.ensures,
      c.read64-7.ensures,
      c.read64-6.ensures,
      c.read64-5.ensures,
      c.read64-4.ensures,
      c.read64-3.ensures,
      c.read64-2.ensures,
      c.read32-3.ensures.0,
      c.byte-2.ensures,
      c.read64.ensures,
      c.byte.ensures,
      c.read32-2.ensures.0,
      c.read32.ensures.0,
    )
