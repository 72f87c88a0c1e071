-- Past its end a list stays as it is.
use Rattle.words.specs.Prelude.{sym, set_out}
use Rattle.table.proofs.silent.put.Goals as goal

pub returns-else-at-list : goal.returns-else-at-list
returns-else-at-list c = sym (set_out _ _ _ c.if-at-list.false)
