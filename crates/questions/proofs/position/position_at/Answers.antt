-- Each word is read from its own place.
use Rattle.questions.specs.{Position.position_at}
use Rattle.questions.proofs.position.position_at.Goals as goal

pub returns : goal.returns
unfolding position_at
returns c =
    rw (← c.word_from-bars_seen.ensures, ← c.word_from-entry_bar.ensures, ← c.word_from-entered.ensures, ← c.word_from-qty.ensures)
    c.position_state.ensures
