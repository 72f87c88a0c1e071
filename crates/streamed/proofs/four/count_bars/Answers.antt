-- A bar that was taken is one that can be counted.
use Rattle.words.specs.Prelude.{arith, eq-eqb, ne_eqb}
use Rattle.streamed.specs.{Accounts.stream_after}
use Rattle.streamed.proofs.{Accounting.some_of}
use Rattle.streamed.proofs.four.count_bars.Goals as goal

pub returns-then-count-eq0 : goal.returns-then-count-eq0
unfolding stream_after
returns-then-count-eq0 c = rw (eq-eqb _ 0 c.if-count-eq0.true)

pub overflow_add-total : goal.overflow_add-total
overflow_add-total c =
    let good = c.well_formed in
    let early = c.requires.early (some_of c.args.count c.if-count-eq0.false) in
    let words = c.requires.words in
    omega arith

pub returns : goal.returns
unfolding stream_after
returns c = rw (ne_eqb c.args.count 0 c.if-count-eq0.false) c.put.ensures
