-- A trade that has a place is written there; else nothing is done.
use Rattle.words.specs.Prelude.{le-ltb, lt-ltb}
use Rattle.engine.specs.{Books.booked}
use Rattle.engine.proofs.account.book.Goals as goal

pub returns-then-n-trades : goal.returns-then-n-trades
unfolding booked
returns-then-n-trades c =
    let given = c.in-Some.is in (
      simp (given, lt-ltb _ _ c.if-n-trades.true),
      simp (given, lt-ltb _ _ c.if-n-trades.true, c.put.ensures, c.words-words.ensures),
    )

pub returns-in-None : goal.returns-in-None
unfolding booked
returns-in-None c = (simp c.in-None.is, simp c.in-None.is)

pub returns-else-n-trades : goal.returns-else-n-trades
unfolding booked
returns-else-n-trades c =
    let given = c.in-Some.is in (
      simp (given, le-ltb _ _ c.if-n-trades.false),
      simp (given, le-ltb _ _ c.if-n-trades.false),
    )
