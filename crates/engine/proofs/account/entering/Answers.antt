-- By the cases of the entry.
use Rattle.engine.specs.{Account.entering}
use Rattle.engine.proofs.account.entering.Goals as goal

pub returns-in-NoEntry : goal.returns-in-NoEntry
unfolding entering
returns-in-NoEntry c =
    simp c.in-NoEntry.is

pub returns-in-TooLarge : goal.returns-in-TooLarge
unfolding entering
returns-in-TooLarge c = simp c.in-TooLarge.is

pub returns-in-Entered : goal.returns-in-Entered
unfolding entering
returns-in-Entered c =
    simp c.in-Entered.is
