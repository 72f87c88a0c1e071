use Rattle.words.specs.Prelude.{sym, ◌∙◌, arith}
use Rattle.steps.specs.{Places.Tries, Laws.Classes.range_in, Laws.Classes.range_out}
use Rattle.steps.proofs.{Said.does_compare, Said.does_test, Said.does_jump, Said.does_arith, Coming.came_end, Going.fresh_long}
use Rattle.steps.proofs.{Going.going_start, Going.going_leaf, Going.going_give, Going.going_look, Going.going_say, Going.going_set, Going.going_pass}
use Rattle.steps.proofs.{Going.going_stay}
use Rattle.steps.proofs.machine.run_with.Goals as goal

pub newest_row-newest-requires : goal.newest_row-newest-requires
unfolding Tries
newest_row-newest-requires c = let held = c.row_count-held.ensures in (held, rw held c.requires.le_places.2)

pub loop-p-init : goal.loop-p-init
unfolding Tries
loop-p-init c = going_start _ _ _ _ _ _ _ _ _ _ c.requires.fresh c.requires.le_places.4

pub overflow_add-visits : goal.overflow_add-visits
unfolding Tries
overflow_add-visits c =
    omega (
      arith,
      c.loop-p-test.true,
      c.loop-p.invariant.came.seen,
      c.requires.le_places.3,
    )

pub shape_of-numbers-then-top-places : goal.shape_of-numbers-then-top-places
unfolding Tries
shape_of-numbers-then-top-places c = omega (arith, c.loop-p.invariant.room.numbers, c.requires.fresh.long)

pub shape_of-there-then-top-places : goal.shape_of-there-then-top-places
unfolding Tries
shape_of-there-then-top-places c = omega (arith, c.loop-p.invariant.room.theres, fresh_long _ _ _ c.requires.fresh)

pub returns-then-top-places : goal.returns-then-top-places
unfolding Tries
returns-then-top-places c = omega (arith, c.loop-p.invariant.pushed, c.loop-p-test.true, c.if-top-places.true)

pub overflow_add-top : goal.overflow_add-top
unfolding Tries
overflow_add-top c = omega arith

-- a leaf's kind is one of the three
pub leaf-requires : goal.leaf-requires
leaf-requires c =
    let held = c.row_count-held.ensures in
    let kind = range_in _ _ _ (sym c.is_among.ensures ∙ c.if-is_among.true) in
    record { held_value = (held, rw held c.requires.le_places.2); newest_value = c.newest_row-newest.ensures; le_kind = kind }

pub overflow_add-top-then-is_among : goal.overflow_add-top-then-is_among
unfolding Tries
overflow_add-top-then-is_among c = omega arith

pub overflow_add-p : goal.overflow_add-p
unfolding Tries
overflow_add-p c = omega arith

pub loop-p-smaller-then-is_among : goal.loop-p-smaller-then-is_among
unfolding Tries
loop-p-smaller-then-is_among c = omega arith

-- a leaf
pub loop-p-preserved-then-is_among : goal.loop-p-preserved-then-is_among
loop-p-preserved-then-is_among c =
    rw (c.put.ensures.numbers_after, c.put.ensures.there_after)
    (going_leaf _ _ _ _ _ _ _ _ _ _ _ c.loop-p.invariant c.loop-p-test.true _
    (omega (arith, c.loop-p.invariant.tall, c.if-top-places.false))
    (rw (← c.step_at-x.ensures.0) (c.leaf.ensures _ _ _ _ _ _)))

pub overflow_cast-kind : goal.overflow_cast-kind
unfolding Tries
overflow_cast-kind c = omega arith

pub overflow_add-top-then-is_comparison : goal.overflow_add-top-then-is_comparison
unfolding Tries
overflow_add-top-then-is_comparison c = omega arith

pub overflow_add-top-then-is_comparison-2 : goal.overflow_add-top-then-is_comparison-2
unfolding Tries
overflow_add-top-then-is_comparison-2 c = omega arith

pub overflow_add-p-then-is_comparison : goal.overflow_add-p-then-is_comparison
overflow_add-p-then-is_comparison c =
    omega (arith, c.loop-p-test.true, c.requires.le_places.3)

pub loop-p-smaller-then-is_comparison : goal.loop-p-smaller-then-is_comparison
unfolding Tries
loop-p-smaller-then-is_comparison c = omega arith

-- a comparison
pub loop-p-preserved-then-is_comparison : goal.loop-p-preserved-then-is_comparison
loop-p-preserved-then-is_comparison c =
    rw (c.saturating_sub-top.ensures, c.compared-answer.ensures, c.at-b.ensures, c.at-a.ensures)
    (going_say _ _ _ _ _ _ _ _ _ _ _ c.loop-p.invariant c.loop-p-test.true 2 _
    (rw (← c.step_at-x.ensures.0) (does_compare _ _ _ _ _ _ _ _ (sym c.is_comparison.ensures ∙ c.if-is_comparison.true))))

pub overflow_add-p-else-is_comparison : goal.overflow_add-p-else-is_comparison
unfolding Tries
overflow_add-p-else-is_comparison c = omega arith

pub loop-p-smaller-else-is_comparison : goal.loop-p-smaller-else-is_comparison
unfolding Tries
loop-p-smaller-else-is_comparison c = omega arith

-- a cross or Between
pub loop-p-preserved-else-is_comparison : goal.loop-p-preserved-else-is_comparison
loop-p-preserved-else-is_comparison c =
    rw (c.saturating_sub-top-else-is_comparison.ensures, c.taken.ensures, c.tested-answer.ensures)
    (going_say _ _ _ _ _ _ _ _ _ _ _ c.loop-p.invariant c.loop-p-test.true _ _
    (rw (← c.step_at-x.ensures.0) (does_test _ _ _ _ _ _ _ _ (sym c.is_test.ensures ∙ c.if-is_test.true)
    (sym c.is_comparison.ensures ∙ c.if-is_comparison.false))))

pub loop-p-smaller-then-answer-kind : goal.loop-p-smaller-then-answer-kind
unfolding Tries
loop-p-smaller-then-answer-kind c = omega arith

-- a jump that is taken
pub loop-p-preserved-then-answer-kind : goal.loop-p-preserved-then-answer-kind
loop-p-preserved-then-answer-kind c =
    let kind = range_in _ _ _ (sym c.is_among-else-is_test.ensures ∙ c.if-is_among-2.true) in
    rw c.landing-p.ensures
    (going_pass _ _ _ _ _ _ _ _ _ _ _ c.loop-p.invariant c.loop-p-test.true _
    (rw (← c.step_at-x.ensures.0) (does_jump _ _ _ _ _ _ _ _ kind.0 kind.1 ∙ rw c.if-answer-kind.true)))

pub overflow_add-p-else-answer-kind : goal.overflow_add-p-else-answer-kind
unfolding Tries
overflow_add-p-else-answer-kind c = omega arith

pub loop-p-smaller-else-answer-kind : goal.loop-p-smaller-else-answer-kind
unfolding Tries
loop-p-smaller-else-answer-kind c = omega arith

-- one that is not
pub loop-p-preserved-else-answer-kind : goal.loop-p-preserved-else-answer-kind
loop-p-preserved-else-answer-kind c =
    let kind = range_in _ _ _ (sym c.is_among-else-is_test.ensures ∙ c.if-is_among-2.true) in
    going_stay _ _ _ _ _ _ _ _ _ _ _ c.loop-p.invariant c.loop-p-test.true
    (rw (← c.step_at-x.ensures.0) (does_jump _ _ _ _ _ _ _ _ kind.0 kind.1 ∙ rw c.if-answer-kind.false))

pub overflow_add-top-then-is_operation : goal.overflow_add-top-then-is_operation
unfolding Tries
overflow_add-top-then-is_operation c = omega arith

pub overflow_add-top-then-is_operation-2 : goal.overflow_add-top-then-is_operation-2
overflow_add-top-then-is_operation-2 c =
    omega (arith, c.loop-p.invariant.tall, c.requires.le_places.1)

-- its result has a place: two are taken first, and there is at least one
pub overflow_add-under : goal.overflow_add-under
overflow_add-under c =
    omega (arith, c.saturating_sub-under.ensures, c.loop-p.invariant.tall, c.requires.le_places)

pub put-requires-then-is_operation : goal.put-requires-then-is_operation
put-requires-then-is_operation c =
    let inv = c.loop-p.invariant in record { i_in_bounds = omega (arith, c.saturating_sub-under.ensures, inv.tall, inv.room.numbers, c.requires.le_places); i_in_bounds_2 = omega (arith, c.saturating_sub-under.ensures, inv.tall, inv.room.theres, c.requires.le_places) }

pub overflow_add-top-then-is_operation-3 : goal.overflow_add-top-then-is_operation-3
overflow_add-top-then-is_operation-3 c =
    omega (arith, c.saturating_sub-under.ensures, c.loop-p.invariant.tall, c.requires.le_places)

-- a step further is within the list
pub overflow_add-p-then-is_operation : goal.overflow_add-p-then-is_operation
overflow_add-p-then-is_operation c =
    omega (arith, c.loop-p-test.true, c.well_formed)

pub loop-p-smaller-then-is_operation : goal.loop-p-smaller-then-is_operation
loop-p-smaller-then-is_operation c =
    omega (arith, c.loop-p-test.true)

-- an operation
pub loop-p-preserved-then-is_operation : goal.loop-p-preserved-then-is_operation
loop-p-preserved-then-is_operation c =
    let kind = sym c.is_operation.ensures ∙ c.if-is_operation.true in
    rw (
      c.put-then-is_operation.ensures.numbers_after,
      c.put-then-is_operation.ensures.there_after,
      c.combined.ensures,
      c.saturating_sub-under.ensures,
      c.at-b-then-is_operation.ensures,
      c.at-a-then-is_operation.ensures,
    )
    (going_give _ _ _ _ _ _ _ _ _ _ _ c.loop-p.invariant c.loop-p-test.true 2 _
    (omega (arith, c.loop-p.invariant.tall, c.requires.le_places.0))
    (rw (← c.step_at-x.ensures.0) (does_arith _ _ _ _ _ _ _ _ kind)))

pub shape_of-numbers-then-top-places-2 : goal.shape_of-numbers-then-top-places-2
unfolding Tries
shape_of-numbers-then-top-places-2 c = omega (arith, c.loop-p.invariant.room.numbers, c.requires.fresh.long)

pub shape_of-there-then-top-places-2 : goal.shape_of-there-then-top-places-2
unfolding Tries
shape_of-there-then-top-places-2 c = omega (arith, c.loop-p.invariant.room.theres, fresh_long _ _ _ c.requires.fresh)

-- it finds none
pub returns-then-top-places-2 : goal.returns-then-top-places-2
unfolding Tries
returns-then-top-places-2 c =
    omega (
      arith,
      c.loop-p.invariant.pushed,
      c.loop-p-test.true,
      c.if-top-places-2.true,
    )

-- at most 65,536 visits for each step
pub overflow_add-visits-then-is_among-3 : goal.overflow_add-visits-then-is_among-3
overflow_add-visits-then-is_among-3 c =
    omega (
      arith,
      c.saturating_sub.ensures,
      c.step_at-x.ensures.1,
      c.loop-p-test.true,
      c.loop-p.invariant.came.seen,
      c.requires.le_places.3,
    )

-- its kind is one of the four
pub look-value-requires : goal.look-value-requires
look-value-requires c =
    let held = c.row_count-held.ensures in
    record { held_value = (held, rw held c.requires.le_places.2); le_kind = range_in _ _ _ (sym c.is_among-else-is_operation.ensures ∙ c.if-is_among-3.true) }

pub overflow_add-top-then-is_among-3 : goal.overflow_add-top-then-is_among-3
overflow_add-top-then-is_among-3 c =
    omega (arith, c.loop-p.invariant.tall, c.requires.le_places.1)

-- its value has a place
pub put-requires-then-is_among-3 : goal.put-requires-then-is_among-3
put-requires-then-is_among-3 c =
    let inv = c.loop-p.invariant in
    record { i_in_bounds = omega (arith, c.if-top-places-2.false, inv.tall, inv.room.numbers); i_in_bounds_2 = omega (arith, c.if-top-places-2.false, inv.tall, inv.room.theres) }

pub overflow_add-top-then-is_among-3-2 : goal.overflow_add-top-then-is_among-3-2
overflow_add-top-then-is_among-3-2 c =
    omega (arith, c.loop-p.invariant.tall, c.requires.le_places.1)

pub overflow_add-p-then-is_among-3 : goal.overflow_add-p-then-is_among-3
overflow_add-p-then-is_among-3 c =
    omega (arith, c.loop-p-test.true, c.requires.le_places.3)

pub loop-p-smaller-then-is_among-3 : goal.loop-p-smaller-then-is_among-3
loop-p-smaller-then-is_among-3 c =
    omega (arith, c.loop-p-test.true)

-- a look over rows
pub loop-p-preserved-then-is_among-3 : goal.loop-p-preserved-then-is_among-3
loop-p-preserved-then-is_among-3 c =
    rw (c.put-then-is_among-3.ensures.numbers_after, c.put-then-is_among-3.ensures.there_after, c.saturating_sub.ensures)
    (going_look _ _ _ _ _ _ _ _ _ _ _ c.loop-p.invariant c.loop-p-test.true _ _ c.step_at-x.ensures.1
    (omega (arith, c.loop-p.invariant.tall, c.if-top-places-2.false))
    (rw (← c.step_at-x.ensures.0) (c.look-value.ensures _ _ _ _ _ _)))

-- its kind is none of the others'
pub said-answer-requires : goal.said-answer-requires
said-answer-requires c = (
  range_out _ _ _ (sym c.is_among.ensures ∙ c.if-is_among.false),
  sym c.is_operation.ensures ∙ c.if-is_operation.false,
  range_out _ _ _ (sym c.is_among-else-is_operation.ensures ∙ c.if-is_among-3.false),
  sym c.is_test.ensures ∙ c.if-is_test.false,
  range_out _ _ _ (sym c.is_among-else-is_test.ensures ∙ c.if-is_among-2.false),
)

pub overflow_add-p-else-is_among-3 : goal.overflow_add-p-else-is_among-3
overflow_add-p-else-is_among-3 c =
    omega (arith, c.loop-p-test.true, c.requires.le_places.3)

pub loop-p-smaller : goal.loop-p-smaller
unfolding Tries
loop-p-smaller c = omega arith

-- what is left
pub loop-p-preserved : goal.loop-p-preserved
loop-p-preserved c =
    going_set _ _ _ _ _ _ _ _ _ _ _ c.loop-p.invariant c.loop-p-test.true _
    (rw (← c.step_at-x.ensures.0) (c.said-answer.ensures _ _ _ _ _))

pub shape_of-numbers : goal.shape_of-numbers
unfolding Tries
shape_of-numbers c = omega (arith, c.loop-p.invariant.room.numbers, c.requires.fresh.long)

pub shape_of-there : goal.shape_of-there
unfolding Tries
shape_of-there c = omega (arith, c.loop-p.invariant.room.theres, fresh_long _ _ _ c.requires.fresh)

pub returns : goal.returns
unfolding Tries
returns c = came_end _ _ _ _ _ _ _ _ c.loop-p.invariant.came c.loop-p-test.false
