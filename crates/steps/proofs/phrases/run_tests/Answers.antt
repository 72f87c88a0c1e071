use Rattle.words.specs.Prelude.{sym, ◌∙◌, arith}
use Rattle.steps.specs.{Laws.Classes.range_in, Laws.Classes.late_no_operation, Laws.Classes.no_test}
use Rattle.steps.proofs.{Said.does_jump, Coming.came_start, Coming.came_say, Coming.came_pass, Coming.came_stay}
use Rattle.steps.proofs.phrases.run_tests.Goals as goal

pub newest_row-newest-requires : goal.newest_row-newest-requires
newest_row-newest-requires c = let held = c.row_count-held.ensures in (held, rw held c.requires.2)

pub loop-p-init : goal.loop-p-init
loop-p-init c = came_start _ _ _ _

-- past a test of the newest row, where there is one
pub past_newest-on-requires : goal.past_newest-on-requires
past_newest-on-requires c =
    let held = c.row_count-held.ensures in
    let pre = c.requires in
    record { n_bound = (pre.0, c.loop-p-test.true, c.loop-p.invariant.seen, pre.1); held_value = (held, rw held pre.2); newest_value = c.newest_row-newest.ensures }

pub returns-then-p-n : goal.returns-then-p-n
returns-then-p-n c = c.past_newest-on.ensures.1 _ c.loop-p.invariant

pub step_at-x-requires : goal.step_at-x-requires
step_at-x-requires c =
    let came = c.past_newest-on.ensures.1 _ c.loop-p.invariant in
    let pre = c.requires in
    omega (arith, came.on, c.if-p-n.false, pre.0)

pub overflow_add-visits : goal.overflow_add-visits
overflow_add-visits c =
    let came = c.past_newest-on.ensures.1 _ c.loop-p.invariant in
    let pre = c.requires in
    omega (arith, came.seen, came.on, pre.1)

pub landing-p-requires : goal.landing-p-requires
landing-p-requires c =
    let came = c.past_newest-on.ensures.1 _ c.loop-p.invariant in
    omega (arith, came.on, c.if-p-n.false)

pub loop-p-smaller-then-answer-kind : goal.loop-p-smaller-then-answer-kind
loop-p-smaller-then-answer-kind c =
    let came = c.past_newest-on.ensures.1 _ c.loop-p.invariant in
    omega (arith, c.past_newest-on.ensures.0, came.on, c.if-p-n.false, c.landing-p.ensures)

-- a jump that is taken
pub loop-p-preserved-then-answer-kind : goal.loop-p-preserved-then-answer-kind
loop-p-preserved-then-answer-kind c =
    let came = c.past_newest-on.ensures.1 _ c.loop-p.invariant in
    let kind = range_in _ _ _ (sym c.is_among.ensures ∙ c.if-is_among.true) in
    rw c.landing-p.ensures
    (came_pass _ _ _ _ _ _ _ _ came (omega (arith, came.on, c.if-p-n.false)) _
    (rw (← c.step_at-x.ensures.0) (does_jump _ _ _ _ _ _ _ _ kind.0 kind.1 ∙ rw c.if-answer-kind.true)))

pub overflow_add-p : goal.overflow_add-p
overflow_add-p c =
    let came = c.past_newest-on.ensures.1 _ c.loop-p.invariant in
    omega (arith, came.on, c.requires.1)

pub loop-p-smaller-else-answer-kind : goal.loop-p-smaller-else-answer-kind
loop-p-smaller-else-answer-kind c =
    let came = c.past_newest-on.ensures.1 _ c.loop-p.invariant in
    omega (arith, c.past_newest-on.ensures.0, came.on, c.if-p-n.false)

-- one that is not
pub loop-p-preserved-else-answer-kind : goal.loop-p-preserved-else-answer-kind
loop-p-preserved-else-answer-kind c =
    let came = c.past_newest-on.ensures.1 _ c.loop-p.invariant in
    let kind = range_in _ _ _ (sym c.is_among.ensures ∙ c.if-is_among.true) in
    came_stay _ _ _ _ _ _ _ _ came (omega (arith, came.on, c.if-p-n.false))
    (rw (← c.step_at-x.ensures.0) (does_jump _ _ _ _ _ _ _ _ kind.0 kind.1 ∙ rw c.if-answer-kind.false))

pub test_at-t-requires : goal.test_at-t-requires
test_at-t-requires c =
    let came = c.past_newest-on.ensures.1 _ c.loop-p.invariant in
    let held = c.row_count-held.ensures in
    let pre = c.requires in
    record { n_bound = (pre.0, omega (arith, came.on, c.if-p-n.false)); held_value = (held, rw held pre.2); newest_value = c.newest_row-newest.ensures }

pub overflow_add-visits-then-t-gt0 : goal.overflow_add-visits-then-t-gt0
overflow_add-visits-then-t-gt0 c =
    let came = c.past_newest-on.ensures.1 _ c.loop-p.invariant in
    let on = c.test_at-t.ensures c.if-t-gt0.true _ _ _ came in
    omega (arith, on.seen, on.on, c.requires.1)

pub overflow_add-p-then-t-gt0 : goal.overflow_add-p-then-t-gt0
overflow_add-p-then-t-gt0 c =
    let came = c.past_newest-on.ensures.1 _ c.loop-p.invariant in
    let on = c.test_at-t.ensures c.if-t-gt0.true _ _ _ came in
    omega (arith, on.on, c.requires.1)

pub loop-p-smaller-then-t-gt0 : goal.loop-p-smaller-then-t-gt0
loop-p-smaller-then-t-gt0 c =
    let came = c.past_newest-on.ensures.1 _ c.loop-p.invariant in
    let on = c.test_at-t.ensures c.if-t-gt0.true _ _ _ came in
    omega (arith, on.on, c.if-t-gt0.true, c.past_newest-on.ensures.0)

-- a test with its leaves
pub loop-p-preserved-then-t-gt0 : goal.loop-p-preserved-then-t-gt0
loop-p-preserved-then-t-gt0 c =
    let came = c.past_newest-on.ensures.1 _ c.loop-p.invariant in
    c.test_at-t.ensures c.if-t-gt0.true _ _ _ came

pub overflow_add-visits-then-is_among-2 : goal.overflow_add-visits-then-is_among-2
overflow_add-visits-then-is_among-2 c =
    let came = c.past_newest-on.ensures.1 _ c.loop-p.invariant in
    omega (arith, came.seen, came.on, c.requires.1)

pub said-answer-requires : goal.said-answer-requires
said-answer-requires c =
    let x = c.step_at-x.result in
    let kind = range_in 27 x.kind 32 (sym c.is_among-else-t-gt0.ensures ∙ c.if-is_among-2.true) in (
      λ l. omega (arith, kind.0),
      late_no_operation x.kind (omega (arith, kind.0)),
      λ l. omega (arith, kind.0),
      no_test x.kind (λ l. kind.0),
      λ l. omega (arith, l, kind.1),
    )

pub overflow_add-p-then-is_among-2 : goal.overflow_add-p-then-is_among-2
overflow_add-p-then-is_among-2 c =
    let came = c.past_newest-on.ensures.1 _ c.loop-p.invariant in
    omega (arith, came.on, c.requires.1)

pub loop-p-smaller : goal.loop-p-smaller
loop-p-smaller c =
    let came = c.past_newest-on.ensures.1 _ c.loop-p.invariant in
    omega (arith, c.past_newest-on.ensures.0, came.on, c.if-p-n.false)

-- an answer
pub loop-p-preserved : goal.loop-p-preserved
loop-p-preserved c =
    let came = c.past_newest-on.ensures.1 _ c.loop-p.invariant in
    came_say _ _ _ _ _ _ _ _ came (omega (arith, came.on, c.if-p-n.false)) 0 _
    (rw (← c.step_at-x.ensures.0) (c.said-answer.ensures _ _ _ _ _))

pub returns-else-is_among-2 : goal.returns-else-is_among-2
returns-else-is_among-2 c = c.past_newest-on.ensures.1 _ c.loop-p.invariant

pub returns : goal.returns
returns c = c.loop-p.invariant
