-- Two parts turned round, and then both as one. Assumes nothing.
use Rattle.rows.proofs.{Turning.places_changed}
use Rattle.rows.proofs.ring.change_places.Goals as goal

pub returns : goal.returns
returns c =
    places_changed c.args.room.now c.args.at c.args.end c.requires.0 c.requires.1 c.reverse.new.words c.reverse-2.new.words
    c.reverse-3.new.words c.reverse.ensures c.reverse-2.ensures c.reverse-3.ensures
