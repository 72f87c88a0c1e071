-- A float of a list of words. Definitions only.
use Rattle.std.specs.Prelude.{ℕ, List, Float}
use Rattle.floats.specs.{Floats.float_of}
use Rattle.words.specs.{Words.word}

-- the float that word i holds; that of 0 past the end
abbrev pub float_at : List ℕ → ℕ → Float
float_at ws i = float_of (word ws i)
