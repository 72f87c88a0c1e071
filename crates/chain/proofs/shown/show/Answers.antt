-- Each return is a case of `shown` at the condition that stands at the node. Assumes nothing.
use Rattle.words.specs.Prelude.{arith}
use Rattle.table.specs.{Bytes.Bytes}
use Rattle.chain.specs.{Laws.Shapes.trend_small}
use Rattle.chain.proofs.{Showing.gone, Showing.worth, Showing.shown_deep, Showing.shown_compare, Showing.shown_cross, Showing.shown_between}
use Rattle.chain.proofs.{Showing.shown_trend, Showing.shown-group, Showing.shown_not, Showing.shown_position, Showing.shown_since_lem, Showing.shown_none}
use Rattle.chain.proofs.shown.show.Goals as goal

pub returns-then-left-eq0 : goal.returns-then-left-eq0
unfolding gone worth Bytes
returns-then-left-eq0 c = shown_deep _ _ _ _ _ _ _ _ c.if-left-eq0.true c.bare.ensures

pub show_compare-requires : goal.show_compare-requires
unfolding gone worth Bytes
show_compare-requires c = omega arith

pub show_cross-requires : goal.show_cross-requires
unfolding gone worth Bytes
show_cross-requires c = omega arith

pub show_between-requires : goal.show_between-requires
unfolding gone worth Bytes
show_between-requires c = omega arith

pub show_trend-requires : goal.show_trend-requires
unfolding gone worth Bytes
show_trend-requires c =
    let small = trend_small _ _ _ _ c.condition_shape.ensures (λ j. omega (arith, c.type_inv.t j))
    _ _ _ c.in-Trend.is in
    omega (arith, small)

pub returns-in-Compare : goal.returns-in-Compare
unfolding gone worth Bytes
returns-in-Compare c =
    shown_compare _ _ _ _ _ _ _ _ c.if-left-eq0.false _ c.condition_shape.ensures _ _ _ c.in-Compare.is c.show_compare.ensures

pub returns-in-Cross : goal.returns-in-Cross
unfolding gone worth Bytes
returns-in-Cross c =
    shown_cross _ _ _ _ _ _ _ _ c.if-left-eq0.false _ c.condition_shape.ensures _ _ _ c.in-Cross.is c.show_cross.ensures

pub returns-in-Between : goal.returns-in-Between
unfolding gone worth Bytes
returns-in-Between c =
    shown_between _ _ _ _ _ _ _ _ c.if-left-eq0.false _ c.condition_shape.ensures _ _ _ c.in-Between.is c.show_between.ensures

pub returns-in-Trend : goal.returns-in-Trend
unfolding gone worth Bytes
returns-in-Trend c =
    shown_trend _ _ _ _ _ _ _ _ c.if-left-eq0.false _ c.condition_shape.ensures _ _ _ c.in-Trend.is c.show_trend.ensures

pub returns-in-Group : goal.returns-in-Group
unfolding gone worth Bytes
returns-in-Group c =
    shown-group _ _ _ _ _ _ _ _ c.if-left-eq0.false _ c.condition_shape.ensures _ _ _ c.in-Group.is c.bare-in-Group.ensures

pub returns-in-Not : goal.returns-in-Not
unfolding gone worth Bytes
returns-in-Not c =
    shown_not _ _ _ _ _ _ _ _ c.if-left-eq0.false _ c.condition_shape.ensures _ c.in-Not.is c.bare-in-Not.ensures

pub returns-in-InPosition : goal.returns-in-InPosition
unfolding gone worth Bytes
returns-in-InPosition c =
    shown_position _ _ _ _ _ _ _ _ c.if-left-eq0.false _ c.condition_shape.ensures _ c.in-InPosition.is c.bare-in-InPosition.ensures

pub returns-in-BarsSince : goal.returns-in-BarsSince
unfolding gone worth Bytes
returns-in-BarsSince c =
    shown_since_lem _ _ _ _ _ _ _ _ c.if-left-eq0.false _ c.condition_shape.ensures _ _ c.in-BarsSince.is c.show_since.ensures

pub returns-in-NoCondition : goal.returns-in-NoCondition
unfolding gone worth Bytes
returns-in-NoCondition c =
    shown_none _ _ _ _ _ _ _ _ c.if-left-eq0.false _ c.condition_shape.ensures c.in-NoCondition.is c.bare-in-NoCondition.ensures
