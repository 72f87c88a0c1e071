-- The rows held are that many, so the last D of them begin where the code says, with nothing divided. Assumes nothing.
use Rattle.words.specs.Prelude.{ℕ, ◌+◌, ◌-◌, ◌*◌, ◌≤◌, ◌≡◌, sym, ◌∙◌, List, mul-le-mul_right, arith, rules, eq-eqb, ne_eqb, length, take, drop, length-drop}
use Rattle.words.specs.Prelude.{length-take-le, take_all}
use Rattle.engine.specs.{InPlace.read_from, Record.held_rows}
use Rattle.engine.proofs.{Rows.last_held, Rows.all_held}
use Rattle.engine.proofs.decide.read_from.Goals as goal

-- what is passed over lies among the rows held
passed : (held D w : ℕ) → (held - D) * w ≤ held * w
passed held D w = mul-le-mul_right w (omega arith)

pub slice_bounds-all-end : goal.slice_bounds-all-end
slice_bounds-all-end c = sym (length-take-le _ c.args.rows.now c.requires.1)

pub overflow_mul-first : goal.overflow_mul-first
overflow_mul-first c =
    let a = c.args in
    let good = c.well_formed in
    omega (arith, c.requires.1, passed a.held a.depth (7 + a.slots))

pub offset_bounds-all-first : goal.offset_bounds-all-first
offset_bounds-all-first c =
    let a = c.args in
    let good = c.well_formed in
    omega (arith, c.requires.1, passed a.held a.depth (7 + a.slots))

pub slice_bounds-result-count : goal.slice_bounds-result-count
slice_bounds-result-count c =
    let long : let a = c.args in length (take (a.held * (7 + a.slots)) a.rows.now) ≡ a.held * (7 + a.slots) = length-take-le _ c.args.rows.now c.requires.1 in
    let a = c.args in omega (arith, long, passed a.held a.depth (7 + a.slots))

pub slice_bounds-result-start : goal.slice_bounds-result-start
slice_bounds-result-start c =
    let fits : let a = c.args in
    (a.held - a.depth) * (7 + a.slots) ≤ length (take (a.held * (7 + a.slots)) a.rows.now) = let long : let a = c.args in length (take (a.held * (7 + a.slots)) a.rows.now) ≡ a.held * (7 + a.slots) = length-take-le _ c.args.rows.now c.requires.1 in
    let a = c.args in omega (arith, long, passed a.held a.depth (7 + a.slots)) in
    let h = fits in search rules

pub returns-then-depth-held : goal.returns-then-depth-held
unfolding read_from held_rows
returns-then-depth-held c =
    let a = c.args in
    let all : List ℕ = take (a.held * (7 + a.slots)) a.rows.now in
    let first : ℕ = (a.held - a.depth) * (7 + a.slots) in
    let rest = take_all (length all - first) (drop first all) (omega (arith, length-drop first all)) in
    rw (eq-eqb _ 0 c.if-start-eq0.true) (rest ∙ last_held a.slots a.depth a.held a.rows.now c.requires.1)

pub returns-else-depth-held : goal.returns-else-depth-held
unfolding read_from held_rows
returns-else-depth-held c =
    let a = c.args in
    rw (eq-eqb _ 0 c.if-start-eq0.true) (all_held a.slots a.depth a.held a.rows.now c.requires.1 c.if-depth-held.false)

pub returns-else-start-eq0 : goal.returns-else-start-eq0
unfolding read_from held_rows
returns-else-start-eq0 c = rw (ne_eqb _ 0 c.if-start-eq0.false)
