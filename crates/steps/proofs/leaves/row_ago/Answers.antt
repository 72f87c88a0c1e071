-- A row that is there lies within the words, so nothing wraps.
use Rattle.words.specs.Prelude.{lt-ltb, le-ltb, arith, ℕ, ◌+◌, ◌-◌, ◌*◌, ◌<◌, ◌≤◌, length}
use Rattle.rows.specs.{Laws.RowEnds.row_ends}
use Rattle.steps.proofs.{Rows.place_ago}
use Rattle.steps.proofs.leaves.row_ago.Goals as goal

pub overflow_add-result : goal.overflow_add-result
overflow_add-result c =
    let near : let a = c.args in (a.first - 1 - a.n) * (7 + a.slots) + (7 + a.slots) ≤ length a.rows.now = let ends : (i : ℕ) → i < c.args.held → i * (7 + c.args.slots) + (7 + c.args.slots) ≤ length c.args.rows.now = λ i l. row_ends c.args.slots c.args.rows.now i (rw c.requires.0 at l) in
    ends (c.args.first - 1 - c.args.n) (omega (arith, c.requires.1, c.if-back-first.true)) in
    omega (arith, near)

pub overflow_mul-result : goal.overflow_mul-result
overflow_mul-result c =
    let near : let a = c.args in (a.first - 1 - a.n) * (7 + a.slots) + (7 + a.slots) ≤ length a.rows.now = let ends : (i : ℕ) → i < c.args.held → i * (7 + c.args.slots) + (7 + c.args.slots) ≤ length c.args.rows.now = λ i l. row_ends c.args.slots c.args.rows.now i (rw c.requires.0 at l) in
    ends (c.args.first - 1 - c.args.n) (omega (arith, c.requires.1, c.if-back-first.true)) in
    omega (arith, near)

pub returns-then-back-first : goal.returns-then-back-first
returns-then-back-first c = let p = c.requires in rw (place_ago _ _ _ p.1 p.2, lt-ltb _ _ c.if-back-first.true)

pub overflow_sub-result-2 : goal.overflow_sub-result-2
overflow_sub-result-2 c = omega (arith, c.requires.2)

pub overflow_sub-result-4 : goal.overflow_sub-result-4
overflow_sub-result-4 c = omega (arith, c.requires.2)

pub overflow_add-result-2 : goal.overflow_add-result-2
overflow_add-result-2 c =
    let far : let a = c.args in (a.held - 1 - (a.n - a.first)) * (7 + a.slots) + (7 + a.slots) ≤ length a.rows.now = let ends : (i : ℕ) → i < c.args.held → i * (7 + c.args.slots) + (7 + c.args.slots) ≤ length c.args.rows.now = λ i l. row_ends c.args.slots c.args.rows.now i (rw c.requires.0 at l) in
    ends (c.args.held - 1 - (c.args.n - c.args.first)) (omega (arith, c.requires.2)) in
    omega (arith, far)

pub overflow_mul-result-2 : goal.overflow_mul-result-2
overflow_mul-result-2 c =
    let far : let a = c.args in (a.held - 1 - (a.n - a.first)) * (7 + a.slots) + (7 + a.slots) ≤ length a.rows.now = let ends : (i : ℕ) → i < c.args.held → i * (7 + c.args.slots) + (7 + c.args.slots) ≤ length c.args.rows.now = λ i l. row_ends c.args.slots c.args.rows.now i (rw c.requires.0 at l) in
    ends (c.args.held - 1 - (c.args.n - c.args.first)) (omega (arith, c.requires.2)) in
    omega (arith, far)

pub returns : goal.returns
returns c = let p = c.requires in rw (place_ago _ _ _ p.1 p.2, le-ltb _ _ c.if-back-first.false)
