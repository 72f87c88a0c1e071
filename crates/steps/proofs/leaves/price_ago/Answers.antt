-- Missing where there are not more than n rows.
use Rattle.words.specs.Prelude.{sym}
use Rattle.steps.proofs.{Rows.ring_held, Rows.ago-price, Rows.ago_late}
use Rattle.steps.proofs.leaves.price_ago.Goals as goal

pub returns-then-n-held : goal.returns-then-n-held
returns-then-n-held c =
    let p = c.requires in
    rw (c.price_at.ensures, c.row_ago.ensures) (sym (ago-price _ _ _ _ _ p.0 p.1 _ c.if-n-held.true))

pub returns : goal.returns
returns c = sym (ago_late _ _ _ _ (ring_held _ _ _ _ c.requires.0) c.if-n-held.false)
