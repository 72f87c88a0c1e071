-- A point that has a place is written there; else nothing is done.
use Rattle.words.specs.Prelude.{le-ltb, lt-ltb}
use Rattle.engine.specs.{Books.words_of_point, Books.marked}
use Rattle.engine.proofs.account.mark_equity.Goals as goal

pub returns-then-points-places : goal.returns-then-points-places
unfolding marked words_of_point
returns-then-points-places c = (
  simp (lt-ltb _ _ c.if-points-places.true),
  simp (lt-ltb _ _ c.if-points-places.true, c.put.ensures, c.word_of.ensures, c.equity.ensures),
)

pub returns : goal.returns
unfolding marked words_of_point
returns c = (simp (le-ltb _ _ c.if-points-places.false), simp (le-ltb _ _ c.if-points-places.false))
