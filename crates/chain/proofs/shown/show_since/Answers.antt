-- One return for each way to have no entry bar, and one for the count. Assumes nothing.
use Rattle.words.specs.Prelude.{◌≡◌, ◌-◌, refl, arith}
use Rattle.chain.specs.{Chain.shown_since, Lines.detail_of, Lines.detail}
use Rattle.chain.proofs.shown.show_since.Goals as goal

pub returns-in-None : goal.returns-in-None
unfolding shown_since detail_of
returns-in-None c = rw (← c.in_position.ensures, c.if-in_position.true, c.in-None.is) c.bare.ensures

pub returns-in-Some : goal.returns-in-Some
unfolding shown_since detail_of
returns-in-Some c =
    let since : c.bars_since.result ≡ c.args.s.bars_seen - 1 - c.in-Some.bar = omega arith in
    rw (← c.in_position.ensures, c.if-in_position.true, c.in-Some.is, ← since) (unfold detail in refl)

pub returns-else-in_position : goal.returns-else-in_position
unfolding shown_since detail_of
returns-else-in_position c = rw (← c.in_position.ensures, c.if-in_position.false) c.bare-else-in_position.ensures
