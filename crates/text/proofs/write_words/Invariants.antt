-- What is written so far, and then what is left of the line, is the line.
use Rattle.words.specs.Prelude.{◌≡◌, ◌++◌, List, ℕ, drop}
use Rattle.std.specs.Io.KnownBytes.{Appends}
use Rattle.text.specs.Spelling.{spelt_words}
use Rattle.text.proofs.write_words.Given as goal

abbrev pub invariant-loop-i : goal.invariant-loop-i
invariant-loop-i g l = (done : List ℕ) × Appends (g.W.Write.contents l.initial.output) (g.W.Write.contents l.output) done
    × (spelt_words l.words l.end ≡ done ++ spelt_words (drop l.i l.words) l.end)
