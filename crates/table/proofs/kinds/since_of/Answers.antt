-- The code's list is the definition's.
use Rattle.words.specs.Prelude.{refl, sym, List·get_or-eq_default}
use Rattle.table.specs.{Kinds.since_of, Kinds.versions}
use Rattle.table.proofs.kinds.since_of.Goals as goal

pub returns-then-i-lt32 : goal.returns-then-i-lt32
unfolding since_of versions
returns-then-i-lt32 c = refl

pub returns-else-i-lt32 : goal.returns-else-i-lt32
unfolding since_of versions
returns-else-i-lt32 c = sym (List·get_or-eq_default versions 0 c.if-i-lt32.false)
