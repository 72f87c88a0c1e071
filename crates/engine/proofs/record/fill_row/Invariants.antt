-- The words written so far are the row's first j; all of them are the row. Assumes nothing.
use Rattle.words.specs.Prelude.{◌≡◌, length, take}
use Rattle.words.specs.{Limits.row_words}
use Rattle.engine.specs.{Record.row_word, Record.listed}
use Rattle.engine.proofs.record.fill_row.Given as goal

abbrev pub invariant-loop-j : goal.invariant-loop-j
invariant-loop-j l = (length l.row ≡ row_words l.slots) × (take l.j l.row ≡ listed l.j (row_word l.bar))
