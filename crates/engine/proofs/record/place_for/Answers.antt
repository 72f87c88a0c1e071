-- Each return is a place that `Placing` tells; nothing wraps, since what is held and the oldest end by the room's end. Assumes nothing.
use Rattle.words.specs.Prelude.{arith}
use Rattle.words.specs.{Limits.row_words}
use Rattle.engine.proofs.{Placing.held_ends, Placing.oldest_ends, Placing.full, Placing.some_held, Placing.behind, Placing.behind_moved}
use Rattle.engine.proofs.{Placing.over_oldest, Placing.next_row, Placing.next_first}
use Rattle.engine.proofs.record.place_for.Goals as goal

pub overflow_mul-end : goal.overflow_mul-end
overflow_mul-end c = let a = c.args in omega (arith, held_ends a.rows.now a.before (row_words a.slots) (omega arith) c.requires.1)

pub overflow_sub-rows : goal.overflow_sub-rows
overflow_sub-rows c = let a = c.args in held_ends a.rows.now a.before (row_words a.slots) (omega arith) c.requires.1

pub returns-then-width-rows : goal.returns-then-width-rows
returns-then-width-rows c =
    let a = c.args in
    behind a.rows.now a.before (row_words a.slots) (omega arith) c.requires.1 a.span c.requires.2 c.if-width-rows.true

pub overflow_sub-result : goal.overflow_sub-result
overflow_sub-result c =
    let a = c.args in
    some_held a.rows.now a.before (row_words a.slots) (omega arith) c.requires.1 c.if-width-rows.false

pub overflow_mul-at : goal.overflow_mul-at
overflow_mul-at c =
    let a = c.args in
    let good = c.well_formed in
    omega (arith, oldest_ends a.rows.now a.before (row_words a.slots) (omega arith) c.requires.1)

pub overflow_sub-held : goal.overflow_sub-held
overflow_sub-held c =
    let a = c.args in
    omega (arith, full a.rows.now a.before (row_words a.slots) (omega arith) c.requires.1 c.if-width-rows.false, c.requires.1.within)

pub returns-then-start-held : goal.returns-then-start-held
returns-then-start-held c =
    let a = c.args in
    rw c.in-Many.is
    (over_oldest a.rows.now a.before (row_words a.slots) (omega arith) c.requires.1 c.if-width-rows.false _
    (next_row a.before.held a.before.start c.if-start-held.true))

pub returns-in-One : goal.returns-in-One
returns-in-One c =
    let a = c.args in
    rw c.in-One.is
    (behind_moved a.rows.now a.before (row_words a.slots) (omega arith) c.requires.1 c.if-width-rows.false)

pub returns-else-start-held : goal.returns-else-start-held
returns-else-start-held c =
    let a = c.args in
    rw c.in-Many.is
    (over_oldest a.rows.now a.before (row_words a.slots) (omega arith) c.requires.1 c.if-width-rows.false _
    (next_first a.before.held a.before.start c.if-start-held.false))
