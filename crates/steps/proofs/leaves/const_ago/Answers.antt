-- Missing where there are not more than n rows.
use Rattle.words.specs.Prelude.{sym}
use Rattle.steps.proofs.{Rows.ago-const, Rows.ago_late}
use Rattle.steps.proofs.leaves.const_ago.Goals as goal

pub returns-then-n-held : goal.returns-then-n-held
returns-then-n-held c h is = rw c.float_of.ensures (sym (ago-const h _ _ _ is c.if-n-held.true))

pub returns : goal.returns
returns c h is = sym (ago_late h _ _ _ is c.if-n-held.false)
