-- The table's refusals first, then 10, then 13, then the lines: what the walk finds is the tree's chain. Assumes nothing.
use Rattle.std.specs.Prelude.{◌≡◌, Err}
use Rattle.words.specs.Prelude.{rules, ◌∙◌, arith}
use Rattle.table.specs.{Bytes.Bytes}
use Rattle.chain.proofs.{Explaining.refused, Explaining.too_small, Explaining.unwhole, Explaining.unright, Explaining.explains}
use Rattle.chain.proofs.explain.explain.Goals as goal

pub returns-then-lines : goal.returns-then-lines
unfolding Bytes
returns-then-lines c =
    let both = too_small _ _ _ _ _ _ _ _ c.check-checked.ensures.0 c.in_ok-checked.was c.if-lines.true in
    record { value = both.0; lines_after = both.1 }

pub returns-then-state_right : goal.returns-then-state_right
unfolding Bytes
returns-then-state_right c =
    let both = explains _ _ _ _ _ _ _ _ c.check-checked.ensures.0 c.in_ok-checked.was c.if-lines.false _
    (rw (← c.slots-slots.ensures) c.are_whole.ensures) c.if-are_whole.true _ c.state_right.ensures
    c.if-state_right.true
    (λ j. omega (arith, c.type_inv.t j)) _ c.check-checked.ensures.1 _ _
    c.explain_tree.ensures.value c.explain_tree.ensures.lines_after in
    record { value = both.0; lines_after = both.1 }

pub returns-in_err-checked : goal.returns-in_err-checked
unfolding Bytes
returns-in_err-checked c =
    let given : c.from_residual.result ≡ Err c.in_err-checked.field-0.0 = search rules in
    let both = refused _ _ _ _ _ _ _ c.check-checked.ensures.0 c.in_err-checked.was in
    record { value = given ∙ both.0; lines_after = rw given both.1 }

pub returns-else-state_right : goal.returns-else-state_right
unfolding Bytes
returns-else-state_right c =
    let both = unright _ _ _ _ _ _ _ _ c.check-checked.ensures.0 c.in_ok-checked.was c.if-lines.false _
    (rw (← c.slots-slots.ensures) c.are_whole.ensures) c.if-are_whole.true _ c.state_right.ensures
    c.if-state_right.false in
    record { value = both.0; lines_after = both.1 }

pub returns-else-are_whole : goal.returns-else-are_whole
unfolding Bytes
returns-else-are_whole c =
    let both = unwhole _ _ _ _ _ _ _ _ c.check-checked.ensures.0 c.in_ok-checked.was c.if-lines.false _
    (rw (← c.slots-slots.ensures) c.are_whole.ensures) c.if-are_whole.false in
    record { value = both.0; lines_after = both.1 }
