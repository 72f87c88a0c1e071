-- The entry over the rows held, by the terms as they are, then the position with it.
use Rattle.engine.specs.{Account.entry_filled}
use Rattle.engine.proofs.account.enter.Goals as goal

pub returns : goal.returns
unfolding entry_filled
returns c =
    simp (
      c.is_turned_away.ensures,
      c.entering-position.ensures,
      c.execute_entry_ring-entry.ensures,
      c.fee_bps-fee_bps.ensures,
      c.held_rows-held.ensures,
      c.anew-terms.ensures,
    )
