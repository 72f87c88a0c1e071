-- Fewer words than slots are fewer than a row, so all of them are left over. Assumes nothing.
use Rattle.words.specs.Prelude.{rules, arith, mod-eq_of_lt, ◌+◌, ◌<◌, length}
use Rattle.rows.specs.{History.whole_rows}
use Rattle.rows.proofs.are_whole.Goals as goal

pub returns-then-n-slots : goal.returns-then-n-slots
unfolding whole_rows
returns-then-n-slots c = let a = c.args in let short : length a.rows.now < 7 + a.slots = omega arith in rw (mod-eq_of_lt short)

pub returns : goal.returns
unfolding whole_rows
returns c = search rules
