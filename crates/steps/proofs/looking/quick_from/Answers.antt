-- As many rows as follow before the words' end are looked at, so they stand one after the other. The best is the float of its word.
use Rattle.std.specs.Prelude.{Some}
use Rattle.words.specs.Prelude.{◌+◌, ◌-◌, ◌*◌, ◌<◌, ◌≤◌, ◌≡◌, sym, ap, ◌∙◌, subst, T, binary64, of_bits-to_bits, arith, length}
use Rattle.floats.specs.{Floats.float_of}
use Rattle.rows.specs.{Laws.Ring.place_within}
use Rattle.steps.specs.{Looks.over_of}
use Rattle.steps.proofs.{Rows.place_ends, Looks.rows_end, Looks.best_on}
use Rattle.steps.proofs.looking.quick_from.Goals as goal

pub overflow_add-at : goal.overflow_add-at
overflow_add-at c = omega (arith, c.requires.2)

pub overflow_add-base : goal.overflow_add-base
overflow_add-base c =
    let ends : let a = c.args in
    c.place-row.result * (7 + a.slots) + (7 + a.slots) ≤ length a.rows.now = rw c.place-row.ensures (place_ends c.args.slots c.args.first c.args.rows.now c.args.held 0
    c.requires.0 c.requires.1 (c.args.at + 1) (omega (arith, c.requires.2, c.requires.3))) in
    omega (arith, ends)

pub overflow_mul-base : goal.overflow_mul-base
overflow_mul-base c =
    let ends : let a = c.args in
    c.place-row.result * (7 + a.slots) + (7 + a.slots) ≤ length a.rows.now = rw c.place-row.ensures (place_ends c.args.slots c.args.first c.args.rows.now c.args.held 0
    c.requires.0 c.requires.1 (c.args.at + 1) (omega (arith, c.requires.2, c.requires.3))) in
    omega (arith, ends)

pub overflow_sub-newest : goal.overflow_sub-newest
overflow_sub-newest c = omega (arith, c.requires.2)

pub overflow_sub-held : goal.overflow_sub-held
overflow_sub-held c =
    let row_within : c.place-row.result < c.args.held = rw c.place-row.ensures (place_within c.args.held c.args.first (c.args.at + 1) c.requires.1 (omega (arith, c.requires.2, c.requires.3))) in
    omega (arith, row_within)

pub quick_rows-quick-requires : goal.quick_rows-quick-requires
quick_rows-quick-requires c =
    let row_within : c.place-row.result < c.args.held = rw c.place-row.ensures (place_within c.args.held c.args.first (c.args.at + 1) c.requires.1 (omega (arith, c.requires.2, c.requires.3))) in
    let a = c.args in
    let row = c.place-row.result in
    let count = c.min-count.result in
    let some : 1 ≤ count = omega (arith, row_within, c.min-count.ensures, c.requires.2) in
    let ends : row * (7 + a.slots) + count * (7 + a.slots) ≤ length a.rows.now =
    rows_end a.slots a.first a.rows.now a.held c.requires.0 c.requires.1 row count (count - 1) (omega (arith, some))
    (omega (arith, some, row_within, c.min-count.ensures)) in
    (ends, c.in_row.ensures c.if-in_row.true, c.if-word-lt-INFINITY.true)

pub overflow_sub-result : goal.overflow_sub-result
overflow_sub-result c = omega (arith, c.quick_rows-quick.ensures.0)

pub overflow_add-result : goal.overflow_add-result
overflow_add-result c = omega (arith, c.quick_rows-quick.ensures.0, c.min-count.ensures)

pub returns-then-word-lt-INFINITY : goal.returns-then-word-lt-INFINITY
returns-then-word-lt-INFINITY c =
    let row_within : c.place-row.result < c.args.held = rw c.place-row.ensures (place_within c.args.held c.args.first (c.args.at + 1) c.requires.1 (omega (arith, c.requires.2, c.requires.3))) in
    let a = c.args in
    let over = over_of a.slot a.which in
    let count = c.min-count.result in
    let most = c.min-count.ensures in
    let m = count - c.quick_rows-quick.result.left in
    let back : float_of c.word_of-word.result ≡ a.best =
    ap float_of c.word_of-word.ensures ∙ of_bits-to_bits binary64 a.best (subst T (sym c.well_formed.1.1.1.1.1.1.1.0.1) tt) in (
      omega (arith, most, c.requires.2),
      λ oldest le so_far.
          rw (c.float_of.ensures, c.quick_rows-quick.ensures.1, back, c.place-row.ensures)
          (best_on a.slots a.first a.rows.now a.held c.requires.0 c.requires.1 a.kind over (Some a.best) oldest a.at m le
          (omega (arith, most, c.requires.2, c.requires.3)) (rw (← c.place-row.ensures) (omega (arith, most, row_within))) so_far),
    )

pub returns-else-word-lt-INFINITY : goal.returns-else-word-lt-INFINITY
returns-else-word-lt-INFINITY c = (omega (arith, c.requires.2), λ oldest le so_far. so_far)

pub returns-else-in_row : goal.returns-else-in_row
returns-else-in_row c = (omega (arith, c.requires.2), λ oldest le so_far. so_far)
