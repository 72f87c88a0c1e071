-- As many rows as follow before the words' end are passed over at most, so they stand one after the other.
use Rattle.words.specs.Prelude.{◌+◌, ◌-◌, ◌*◌, ◌<◌, ◌≤◌, sym, ◌∙◌, arith, length}
use Rattle.rows.specs.{Laws.Ring.place_within}
use Rattle.steps.specs.{Looks.over_of}
use Rattle.steps.proofs.{Rows.place_ends, Looks.no_more, Looks.at_row, Looks.at_end, Looks.rows_end, Looks.series_after, Looks.passed_on}
use Rattle.steps.proofs.looking.passed_from.Goals as goal

pub overflow_add-at : goal.overflow_add-at
overflow_add-at c = omega (arith, c.requires.2)

pub overflow_add-base : goal.overflow_add-base
overflow_add-base c =
    let ends : let a = c.args in c.place-row.result * (7 + a.slots) + (7 + a.slots) ≤ length a.rows.now = rw c.place-row.ensures (place_ends c.args.slots c.args.first c.args.rows.now c.args.held 0
    c.requires.0 c.requires.1 (c.args.at + 1) (omega (arith, c.requires.2, c.requires.3))) in
    omega (arith, ends)

pub overflow_mul-base : goal.overflow_mul-base
overflow_mul-base c =
    let ends : let a = c.args in c.place-row.result * (7 + a.slots) + (7 + a.slots) ≤ length a.rows.now = rw c.place-row.ensures (place_ends c.args.slots c.args.first c.args.rows.now c.args.held 0
    c.requires.0 c.requires.1 (c.args.at + 1) (omega (arith, c.requires.2, c.requires.3))) in
    omega (arith, ends)

pub overflow_sub-newest : goal.overflow_sub-newest
overflow_sub-newest c = omega (arith, c.requires.2)

pub overflow_sub-held : goal.overflow_sub-held
overflow_sub-held c =
    let row_within : c.place-row.result < c.args.held = rw c.place-row.ensures (place_within c.args.held c.args.first (c.args.at + 1) c.requires.1 (omega (arith, c.requires.2, c.requires.3))) in
    omega (arith, row_within)

pub pass-requires : goal.pass-requires
pass-requires c =
    let row_within : c.place-row.result < c.args.held = rw c.place-row.ensures (place_within c.args.held c.args.first (c.args.at + 1) c.requires.1 (omega (arith, c.requires.2, c.requires.3))) in
    let a = c.args in
    let row = c.place-row.result in
    let count = c.min-count.result in
    let some : 1 ≤ count = omega (arith, row_within, c.min-count.ensures, c.requires.2) in (
      some,
      rows_end a.slots a.first a.rows.now a.held c.requires.0 c.requires.1 row count (count - 1) (omega (arith, some))
          (omega (arith, some, row_within, c.min-count.ensures)),
    )

pub returns : goal.returns
returns c =
    let row_within : c.place-row.result < c.args.held = rw c.place-row.ensures (place_within c.args.held c.args.first (c.args.at + 1) c.requires.1 (omega (arith, c.requires.2, c.requires.3))) in
    let a = c.args in
    let stop = c.pass.result in
    let over = over_of a.slot a.which in
    let base = c.place-row.result * (7 + a.slots) in
    let count = c.min-count.result in
    let most = c.min-count.ensures in
    let few = no_more over a.rows.now a.slots base count stop.passed stop.later stop.stopped c.pass.ensures.1 in (
      omega (arith, few, most, c.requires.2),
      λ oldest le so_far.
          passed_on a.slots a.first a.rows.now a.held c.requires.0 c.requires.1 a.kind over a.best oldest a.at
          stop.passed le (omega (arith, few, most, c.requires.2, c.requires.3))
          (rw (← c.place-row.ensures) (omega (arith, few, most, row_within)))
          (rw c.place-row.ensures at c.pass.ensures.0) so_far,
      λ e.
          let here = at_row over a.rows.now a.slots base count stop.passed stop.later stop.stopped e c.pass.ensures.1 in (
            omega (arith, here.0, most),
            (rw c.place-row.ensures at here.1)
                ∙ sym (series_after a.slots a.first a.rows.now a.held c.requires.0 c.requires.1 over a.at stop.passed
                (omega (arith, here.0, most, c.requires.3))
                (rw (← c.place-row.ensures) (omega (arith, here.0, most, row_within)))),
          ),
      λ e.
          let all = at_end over a.rows.now a.slots base count stop.passed stop.later stop.stopped e c.pass.ensures.1 in
          omega (arith, all, most, row_within, c.requires.2),
    )
