use Rattle.words.specs.Prelude.{refl, arith}
use Rattle.table.specs.{Bytes.Bytes}
use Rattle.chain.specs.{Laws.Shapes.prev_small, Laws.Shapes.extreme_small}
use Rattle.chain.proofs.{Leaves.is_leaf, Leaves.gone_deep, Leaves.gone_leaf, Leaves.gone_prev, Leaves.gone_arith, Leaves.gone_extreme}
use Rattle.chain.proofs.missing.+first_missing.Goals as goal

pub returns-then-left-eq0 : goal.returns-then-left-eq0
unfolding is_leaf Bytes
returns-then-left-eq0 t c =
    gone_deep _ _ _ _ _ _ _ _ c.if-left-eq0.true c.leaf_gone.ensures

pub overflow_add-further : goal.overflow_add-further
unfolding is_leaf Bytes
overflow_add-further t c =
    let small = prev_small _ _ _ _ c.operand_shape.ensures (λ j. omega (arith, c.type_inv.t j)) _ _
    c.in-Prev.is in
    omega (arith, small)

pub first_missing-requires : goal.first_missing-requires
unfolding is_leaf Bytes
first_missing-requires t c =
    let small = prev_small _ _ _ _ c.operand_shape.ensures (λ j. omega (arith, c.type_inv.t j)) _ _
    c.in-Prev.is in
    (omega arith, omega (arith, small))

pub first_missing-x-requires : goal.first_missing-x-requires
unfolding is_leaf Bytes
first_missing-x-requires t c =
    (omega arith, omega arith)

pub first_missing-y-requires : goal.first_missing-y-requires
unfolding is_leaf Bytes
first_missing-y-requires t c =
    (omega arith, omega arith)

pub newest_gone-requires : goal.newest_gone-requires
unfolding is_leaf Bytes
newest_gone-requires t c =
    let small = extreme_small _ _ _ _ c.operand_shape.ensures (λ j. omega (arith, c.type_inv.t j)) _ _ _
    c.in-Extreme.is in
    omega (arith, small, c.saturating_sub-more.ensures)

pub returns-in-Const : goal.returns-in-Const
unfolding is_leaf Bytes
returns-in-Const t c =
    gone_leaf _ _ _ _ _ _ _ _ c.if-left-eq0.false _ c.operand_shape.ensures _ c.in-Const.is refl c.leaf_gone-in-Const.ensures

pub returns-in-Ref : goal.returns-in-Ref
unfolding is_leaf Bytes
returns-in-Ref t c =
    gone_leaf _ _ _ _ _ _ _ _ c.if-left-eq0.false _ c.operand_shape.ensures _ c.in-Ref.is refl c.leaf_gone-in-Ref.ensures

pub returns-in-Price : goal.returns-in-Price
unfolding is_leaf Bytes
returns-in-Price t c =
    gone_leaf _ _ _ _ _ _ _ _ c.if-left-eq0.false _ c.operand_shape.ensures _ c.in-Price.is refl c.leaf_gone-in-Price.ensures

pub returns-in-Prev : goal.returns-in-Prev
unfolding is_leaf Bytes
returns-in-Prev t c =
    gone_prev _ _ _ _ _ _ _ _ c.if-left-eq0.false _ c.operand_shape.ensures _ _ c.in-Prev.is c.first_missing.ensures

pub returns-in-Arith : goal.returns-in-Arith
unfolding is_leaf Bytes
returns-in-Arith t c =
    gone_arith _ _ _ _ _ _ _ _ c.if-left-eq0.false _ c.operand_shape.ensures _ _ _ _ _ c.in-Arith.is
    c.first_missing-x.ensures c.first_missing-y.ensures c.first_found.ensures

pub returns-in-Extreme : goal.returns-in-Extreme
unfolding is_leaf Bytes
returns-in-Extreme t c =
    gone_extreme _ _ _ _ _ _ _ _ c.if-left-eq0.false _ c.operand_shape.ensures _ _ _ _ _ c.in-Extreme.is
    c.series_in-over.ensures c.saturating_sub-more.ensures c.newest_gone.ensures

pub returns-in-NoOperand : goal.returns-in-NoOperand
unfolding is_leaf Bytes
returns-in-NoOperand t c =
    gone_leaf _ _ _ _ _ _ _ _ c.if-left-eq0.false _ c.operand_shape.ensures _ c.in-NoOperand.is refl c.leaf_gone-in-NoOperand.ensures
