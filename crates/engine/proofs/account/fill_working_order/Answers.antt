-- What is due is done.
use Rattle.engine.specs.{Account.done_of}
use Rattle.engine.proofs.{Dues.so_filled}
use Rattle.engine.proofs.account.fill_working_order.Goals as goal

pub returns-in-Waits : goal.returns-in-Waits
unfolding done_of
returns-in-Waits c = so_filled _ _ _ _ _ _ c.due_of-due.ensures c.in-Waits.is c.wait.ensures

pub returns-in-Enters : goal.returns-in-Enters
unfolding done_of
returns-in-Enters c = so_filled _ _ _ _ _ _ c.due_of-due.ensures c.in-Enters.is c.enter.ensures

pub returns-in-Leaves : goal.returns-in-Leaves
unfolding done_of
returns-in-Leaves c = so_filled _ _ _ _ _ _ c.due_of-due.ensures c.in-Leaves.is c.leave.ensures
