use Rattle.words.specs.Prelude.{ℕ, ◌+◌, ◌-◌, ◌*◌, ◌/◌, ◌<◌, ◌≤◌, ◌≡◌, refl, sym, ap, ◌∙◌, subst, arith, length}
use Rattle.questions.specs.{Over.asked_rows, Over.place_words, Over.lines_over, Over.counts_over, Over.explanation_over, Laws.Places.lines_long}
use Rattle.questions.specs.{Laws.Places.counts_long}
use Rattle.questions.proofs.{Asking.place_fits, Asking.rows_held, Asking.rows_few, Asking.upto_there, Asking.lines_turn, Asking.counts_turn}
use Rattle.questions.proofs.each.explain_rows.Goals as goal

-- rows and questions are fewer than the words of the rows
few : (R n i long : ℕ) → R ≤ long → n ≤ R → i < n → (R - n + i < long) × (R - n + i + 1 ≤ long)
few R n i long p q l = (omega arith, omega arith)

four : (n i : ℕ) → i < n / 4 → 4 * i ≤ n
four n i l = omega arith

pub overflow_sub-older : goal.overflow_sub-older
unfolding asked_rows
overflow_sub-older c =
    rows_held c.args.t.now c.args.rows.now c.args.positions.now _ _ c.slots-slots.ensures c.row_count.ensures
    c.requires.1

pub loop-i-init : goal.loop-i-init
unfolding lines_over counts_over
loop-i-init c = (refl, refl)

pub overflow_add-older : goal.overflow_add-older
unfolding asked_rows
overflow_add-older c =
    let near : let row = c.row_count.result - asked_rows c.args.positions.now + c.loop-i.i in
    (row < length c.args.rows.now) × (row + 1 ≤ length c.args.rows.now) = let held = rows_held c.args.t.now c.args.rows.now c.args.positions.now _ _ c.slots-slots.ensures
    c.row_count.ensures c.requires.1 in
    let long = rows_few c.args.t.now c.args.rows.now c.args.positions.now _ _ c.slots-slots.ensures
    c.row_count.ensures in
    few _ _ c.loop-i.i _ long held (omega arith) in
    let good = c.well_formed in omega (arith, near.0)

pub overflow_add-older-in-loop-i : goal.overflow_add-older-in-loop-i
unfolding asked_rows
overflow_add-older-in-loop-i c =
    let near : let row = c.row_count.result - asked_rows c.args.positions.now + c.loop-i.i in
    (row < length c.args.rows.now) × (row + 1 ≤ length c.args.rows.now) = let held = rows_held c.args.t.now c.args.rows.now c.args.positions.now _ _ c.slots-slots.ensures
    c.row_count.ensures c.requires.1 in
    let long = rows_few c.args.t.now c.args.rows.now c.args.positions.now _ _ c.slots-slots.ensures
    c.row_count.ensures in
    few _ _ c.loop-i.i _ long held (omega arith) in
    let good = c.well_formed in omega (arith, near.1)

pub first_rows-upto-requires : goal.first_rows-upto-requires
unfolding asked_rows
first_rows-upto-requires c =
    let k = c.slots-slots.ensures in
    let r = c.row_count.ensures in
    upto_there c.args.t.now c.args.rows.now c.args.positions.now _ _ k r _ c.loop-i.i
    (rows_held c.args.t.now c.args.rows.now c.args.positions.now _ _ k r c.requires.1) (omega arith)

pub position_at-position-requires : goal.position_at-position-requires
position_at-position-requires c =
    four (length c.args.positions.now) c.loop-i.i (omega arith)

pub explain_row-requires : goal.explain_row-requires
unfolding asked_rows
explain_row-requires c =
    let l = c.loop-i in
    let long : length c.args.lines.now ≡ length l.lines = sym (ap length l.invariant.0 ∙ lines_long _ _ _) in (
      c.requires.0,
      subst (λ (n : ℕ). place_words * l.i + place_words ≤ n) long
          (place_fits _ l.i _ c.requires.2 (omega arith)),
    )

pub loop-i-preserved : goal.loop-i-preserved
unfolding asked_rows
loop-i-preserved c =
    let l = c.loop-i in
    let a = c.args in (
      lines_turn a.t.now a.rows.now a.positions.now _ _ c.slots-slots.ensures c.row_count.ensures a.tree l.i _ _
          c.first_rows-upto.ensures c.position_at-position.ensures a.lines.now l.lines _ l.invariant.0 c.explain_row.ensures.lines_after,
      counts_turn a.t.now a.rows.now a.positions.now _ _ c.slots-slots.ensures c.row_count.ensures a.tree l.i _ _
          c.first_rows-upto.ensures c.position_at-position.ensures a.counts.now l.counts _ l.invariant.1 c.explain_row.ensures.counts_after,
    )

pub shape_of-lines : goal.shape_of-lines
shape_of-lines c = ap length c.loop-i.invariant.0 ∙ lines_long _ _ _

pub shape_of-counts : goal.shape_of-counts
shape_of-counts c = ap length c.loop-i.invariant.1 ∙ counts_long _ _ _

pub returns : goal.returns
unfolding asked_rows
returns c =
    let a = c.args in
    let l = c.loop-i in
    let each = explanation_over a.t.now a.tree a.rows.now a.positions.now in
    let end : l.i ≡ asked_rows a.positions.now = omega arith in
    record { lines_after = l.invariant.0 ∙ ap (λ (n : ℕ). lines_over each n a.lines.now) end; counts_after = l.invariant.1 ∙ ap (λ (n : ℕ). counts_over each n a.counts.now) end }
