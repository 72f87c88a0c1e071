-- Fewer words than slots are fewer than a row; else the width fits. Assumes nothing.
use Rattle.words.specs.Prelude.{rules, arith}
use Rattle.rows.specs.{History.history_of}
use Rattle.rows.proofs.{Places.no_rows}
use Rattle.rows.proofs.row_count.Goals as goal

pub returns-then-n-slots : goal.returns-then-n-slots
unfolding history_of
returns-then-n-slots c = no_rows _ _ (omega arith)

pub returns : goal.returns
unfolding history_of
returns c = search rules
