-- On an accepted table the room is large enough for the steps of the tree.
use Rattle.std.specs.Prelude.{◌≡◌, Err}
use Rattle.words.specs.Prelude.{arith, rules, sym, ◌∙◌}
use Rattle.translation.proofs.{Fitting.refuses_table, Fitting.refuses_room, Fitting.writes_none, Fitting.can_write, Fitting.writes_all}
use Rattle.translation.proofs.translate.Goals as goal

pub overflow_mul-count : goal.overflow_mul-count
overflow_mul-count c = omega (arith, c.count-count.ensures.1)

pub returns-then-room-count : goal.returns-then-room-count
returns-then-room-count c =
    let both = refuses_room _ _ _ _ _ _ _ (sym c.check-checked.ensures.0 ∙ c.in_ok-checked.was) c.tree_number-x.ensures
    c.count-count.ensures.0 c.if-room-count.true in
    record { value = both.0; room_after = both.1 }

pub returns-then-count-eq0 : goal.returns-then-count-eq0
returns-then-count-eq0 c =
    let both = writes_none _ _ _ _ _ _ _ (sym c.check-checked.ensures.0 ∙ c.in_ok-checked.was) c.tree_number-x.ensures
    c.count-count.ensures.0 c.if-room-count.false c.if-count-eq0.true in
    record { value = both.0; room_after = both.1 }

pub emit_condition-requires : goal.emit_condition-requires
emit_condition-requires c =
    let both = can_write _ _ c.args.tree _ _ _ _ (sym c.check-checked.ensures.0 ∙ c.in_ok-checked.was) c.tree_number-x.ensures c.count-count.ensures.0
    c.if-room-count.false c.if-count-eq0.false _ _ c.check-checked.ensures.1 c.root.ensures.0 in
    record { i_bound = both.0; fits = both.1 }

pub returns-in_err-checked : goal.returns-in_err-checked
returns-in_err-checked c =
    let given : c.from_residual.result ≡ Err c.in_err-checked.field-0.0 = search rules in
    let both = refuses_table _ _ _ _ (sym c.check-checked.ensures.0 ∙ c.in_err-checked.was) in
    record { value = given ∙ both.0; room_after = both.1 }

pub returns : goal.returns
returns c =
    let both = writes_all _ _ _ _ _ _ _ (sym c.check-checked.ensures.0 ∙ c.in_ok-checked.was) c.tree_number-x.ensures c.count-count.ensures.0 c.if-room-count.false
    c.if-count-eq0.false _ _ c.check-checked.ensures.1 c.root.ensures.0 _ _ c.emit_condition.ensures in
    record { value = both.0; room_after = both.1 }
