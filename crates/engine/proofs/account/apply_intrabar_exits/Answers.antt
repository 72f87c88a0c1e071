-- The extreme first, then the exits, as the definition has them.
use Rattle.engine.specs.{Account.intrabar}
use Rattle.engine.proofs.account.apply_intrabar_exits.Goals as goal

pub exits_of-exit-requires : goal.exits_of-exit-requires
unfolding intrabar
exits_of-exit-requires c = c.requires

pub returns : goal.returns
unfolding intrabar
returns c = cc
