-- The call below it. Assumes nothing.
use Rattle.capi.proofs.four.ysh_accounts.Goals as goal

pub step_accounts-requires : goal.step_accounts-requires
step_accounts-requires c = tt

pub returns : goal.returns
returns c =
    c.step_accounts.ensures
