-- The rows before the last `depth` lie within the list, so the part exists and nothing wraps. Assumes nothing.
use Rattle.words.specs.Prelude.{rules, arith, ◌-◌, ◌*◌, ◌≤◌, length}
use Rattle.rows.specs.{History.width}
use Rattle.rows.proofs.{Places.skipped_fit, Places.row_fits, Places.window_all, Places.window_part}
use Rattle.rows.proofs.window.Goals as goal

pub returns-then-held-depth : goal.returns-then-held-depth
returns-then-held-depth c = let a = c.args in window_all a.slots a.depth _ a.rows.now c.row_count-held.ensures c.if-held-depth.true

pub overflow_add-first : goal.overflow_add-first
overflow_add-first c =
    let a = c.args in
    omega (arith, row_fits a.slots a.depth _ a.rows.now c.row_count-held.ensures c.if-held-depth.false)

pub overflow_mul-first : goal.overflow_mul-first
overflow_mul-first c =
    let fits : let a = c.args in (c.row_count-held.result - a.depth) * width a.slots ≤ length a.rows.now = let a = c.args in skipped_fit a.slots a.depth _ a.rows.now c.row_count-held.ensures in
    omega (arith, fits)

pub offset_bounds-rows-first : goal.offset_bounds-rows-first
offset_bounds-rows-first c =
    let fits : let a = c.args in (c.row_count-held.result - a.depth) * width a.slots ≤ length a.rows.now = let a = c.args in skipped_fit a.slots a.depth _ a.rows.now c.row_count-held.ensures in
    omega (arith, fits)

pub slice_bounds-result-count : goal.slice_bounds-result-count
slice_bounds-result-count c = let a = c.args in skipped_fit a.slots a.depth _ a.rows.now c.row_count-held.ensures

pub slice_bounds-result-start : goal.slice_bounds-result-start
slice_bounds-result-start c =
    let fits : let a = c.args in (c.row_count-held.result - a.depth) * width a.slots ≤ length a.rows.now = let a = c.args in skipped_fit a.slots a.depth _ a.rows.now c.row_count-held.ensures in
    let h = fits in search rules

pub returns : goal.returns
returns c = let a = c.args in window_part a.slots a.depth _ a.rows.now c.row_count-held.ensures
