use Rattle.words.specs.Prelude.{sym, rules}
use Rattle.rows.specs.{History.history_of}
use Rattle.rules.specs.{Values.combined, Flat.grow_operand, Laws.Meaning.past, Laws.Meaning.const-value, Laws.Meaning.ref_value, Laws.Meaning.price-value}
use Rattle.rules.specs.{Laws.Meaning.early_value, Laws.Meaning.prev-value, Laws.Meaning.arith_value, Laws.Meaning.extreme_value}
use Rattle.rules.proofs.{Grown.no_operand, Grown.grown_operand, Grown.below, Grown.above}
use Rattle.rules.proofs.operands.+binary_eval_operand.Goals as goal

pub binary-returns-in_err-x : goal.binary-returns-in_err-x
unfolding combined grow_operand
binary-returns-in_err-x t c = rw (← c.eval_operand.ensures, c.in_err-x.was) (search rules)

pub binary-returns-in_err-y : goal.binary-returns-in_err-y
unfolding combined grow_operand
binary-returns-in_err-y t c = rw (← c.eval_operand.ensures, c.in_ok-x.was, ← c.eval_operand-2.ensures, c.in_err-y.was) (search rules)

pub binary-returns : goal.binary-returns
unfolding combined grow_operand
binary-returns t c = rw (← c.eval_operand.ensures, c.in_ok-x.was, ← c.eval_operand-2.ensures, c.in_ok-y.was, c.combine.ensures)

pub eval_operand-returns-then-row_count-bar : goal.eval_operand-returns-then-row_count-bar
unfolding combined grow_operand
eval_operand-returns-then-row_count-bar t c =
    sym (past _ _ _ (above c.row_count.ensures c.if-row_count-bar.true))

pub eval_operand-returns-then-left-eq0 : goal.eval_operand-returns-then-left-eq0
unfolding combined grow_operand
eval_operand-returns-then-left-eq0 t c =
    let a = c.args in rw (
      no_operand _ _ _ _ c.if-left-eq0.true,
      const-value (history_of a.slots a.rows.now) a.bar
          (below c.row_count.ensures c.if-row_count-bar.false),
    )

pub eval_operand-slot_of_bar-requires : goal.eval_operand-slot_of_bar-requires
unfolding combined grow_operand
eval_operand-slot_of_bar-requires t c =
    below c.row_count.ensures c.if-row_count-bar.false

pub eval_operand-price_of_bar-requires : goal.eval_operand-price_of_bar-requires
unfolding combined grow_operand
eval_operand-price_of_bar-requires t c =
    below c.row_count.ensures c.if-row_count-bar.false

pub eval_operand-returns-then-bar-back : goal.eval_operand-returns-then-bar-back
unfolding combined grow_operand
eval_operand-returns-then-bar-back t c =
    let a = c.args in rw
    (grown_operand _ _ _ _ c.if-left-eq0.false _ _ c.operand_shape.ensures c.in-Prev.is)
    (sym (early_value (history_of a.slots a.rows.now) a.bar (below c.row_count.ensures c.if-row_count-bar.false) _ _ c.if-bar-back.true))

pub eval_operand-extreme_of_bar-requires : goal.eval_operand-extreme_of_bar-requires
unfolding combined grow_operand
eval_operand-extreme_of_bar-requires t c =
    below c.row_count.ensures
    c.if-row_count-bar.false

pub eval_operand-returns-in-Const : goal.eval_operand-returns-in-Const
unfolding combined grow_operand
eval_operand-returns-in-Const t c =
    let a = c.args in rw (
      grown_operand _ _ _ _ c.if-left-eq0.false _ _ c.operand_shape.ensures c.in-Const.is,
      const-value
          (history_of a.slots a.rows.now) a.bar (below c.row_count.ensures c.if-row_count-bar.false),
      ← c.float_of.ensures,
    )

pub eval_operand-returns-in-Ref : goal.eval_operand-returns-in-Ref
unfolding combined grow_operand
eval_operand-returns-in-Ref t c =
    let a = c.args in rw (
      grown_operand _ _ _ _ c.if-left-eq0.false _ _ c.operand_shape.ensures c.in-Ref.is,
      ref_value
          (history_of a.slots a.rows.now) a.bar (below c.row_count.ensures c.if-row_count-bar.false),
    ) c.slot_of_bar.ensures

pub eval_operand-returns-in-Price : goal.eval_operand-returns-in-Price
unfolding combined grow_operand
eval_operand-returns-in-Price t c =
    let a = c.args in rw (
      grown_operand _ _ _ _ c.if-left-eq0.false _ _ c.operand_shape.ensures c.in-Price.is,
      price-value
          (history_of a.slots a.rows.now) a.bar (below c.row_count.ensures c.if-row_count-bar.false),
      ← c.price_of_bar.ensures,
    )

pub eval_operand-returns-else-bar-back : goal.eval_operand-returns-else-bar-back
unfolding combined grow_operand
eval_operand-returns-else-bar-back t c =
    let a = c.args in rw (
      grown_operand _ _ _ _ c.if-left-eq0.false _ _ c.operand_shape.ensures c.in-Prev.is,
      prev-value
          (history_of a.slots a.rows.now) a.bar (below c.row_count.ensures c.if-row_count-bar.false) _ _ c.if-bar-back.false,
    )
    c.eval_operand.ensures

pub eval_operand-returns-in-Arith : goal.eval_operand-returns-in-Arith
unfolding combined grow_operand
eval_operand-returns-in-Arith t c =
    rw (grown_operand _ _ _ _ c.if-left-eq0.false _ _ c.operand_shape.ensures c.in-Arith.is, arith_value)
    c.binary.ensures

pub eval_operand-returns-in-Extreme : goal.eval_operand-returns-in-Extreme
unfolding combined grow_operand
eval_operand-returns-in-Extreme t c =
    rw (
      grown_operand _ _ _ _ c.if-left-eq0.false _ _ c.operand_shape.ensures c.in-Extreme.is,
      extreme_value,
      ← c.series_in-over.ensures,
    ) c.extreme_of_bar.ensures

pub eval_operand-returns-in-NoOperand : goal.eval_operand-returns-in-NoOperand
unfolding combined grow_operand
eval_operand-returns-in-NoOperand t c =
    let a = c.args in rw (
      grown_operand _ _ _ _ c.if-left-eq0.false _ _ c.operand_shape.ensures c.in-NoOperand.is,
      const-value (history_of a.slots a.rows.now)
          a.bar (below c.row_count.ensures c.if-row_count-bar.false),
    )
