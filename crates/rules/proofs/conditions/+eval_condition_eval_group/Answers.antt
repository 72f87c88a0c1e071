use Rattle.rules.proofs.Groups.{group_end}
use Rattle.words.specs.Prelude.{◌+◌, ◌-◌, ◌<◌, ◌≤◌, ◌≡◌, sym, arith}
use Rattle.rules.specs.{Meaning.holds, Flat.grow_condition}
use Rattle.rules.proofs.{Grown.no_condition, Grown.grown_condition, Groups.group-none, Groups.group_on, Groups.group_off, Groups.group_front}
use Rattle.rules.proofs.conditions.+eval_condition_eval_group.Goals as goal

pub eval_condition-returns-then-left-eq0 : goal.eval_condition-returns-then-left-eq0
unfolding holds grow_condition
eval_condition-returns-then-left-eq0 t c =
    rw (no_condition _ _ _ _ c.if-left-eq0.true)

pub eval_condition-returns-in-Compare : goal.eval_condition-returns-in-Compare
unfolding holds grow_condition
eval_condition-returns-in-Compare t c =
    rw (grown_condition _ _ _ _ c.if-left-eq0.false _ _ c.condition_shape.ensures c.in-Compare.is)
    c.compare.ensures

pub eval_condition-returns-in-Cross : goal.eval_condition-returns-in-Cross
unfolding holds grow_condition
eval_condition-returns-in-Cross t c =
    rw (grown_condition _ _ _ _ c.if-left-eq0.false _ _ c.condition_shape.ensures c.in-Cross.is) c.cross.ensures

pub eval_condition-returns-in-Between : goal.eval_condition-returns-in-Between
unfolding holds grow_condition
eval_condition-returns-in-Between t c =
    rw (grown_condition _ _ _ _ c.if-left-eq0.false _ _ c.condition_shape.ensures c.in-Between.is) c.between.ensures

pub eval_condition-returns-in-Trend : goal.eval_condition-returns-in-Trend
unfolding holds grow_condition
eval_condition-returns-in-Trend t c =
    rw (grown_condition _ _ _ _ c.if-left-eq0.false _ _ c.condition_shape.ensures c.in-Trend.is)
    c.compare_prev.ensures

pub eval_condition-returns-in-Group : goal.eval_condition-returns-in-Group
unfolding holds grow_condition
eval_condition-returns-in-Group t c =
    rw (grown_condition _ _ _ _ c.if-left-eq0.false _ _ c.condition_shape.ensures c.in-Group.is)
    c.eval_group.ensures

pub eval_condition-returns-in-Not : goal.eval_condition-returns-in-Not
unfolding holds grow_condition
eval_condition-returns-in-Not t c =
    rw (
      grown_condition _ _ _ _ c.if-left-eq0.false _ _ c.condition_shape.ensures c.in-Not.is,
      ← c.eval_condition.ensures,
    )

pub eval_condition-returns-in-InPosition : goal.eval_condition-returns-in-InPosition
unfolding holds grow_condition
eval_condition-returns-in-InPosition t c =
    rw (grown_condition _ _ _ _ c.if-left-eq0.false _ _ c.condition_shape.ensures c.in-InPosition.is)
    c.in_position.ensures

pub eval_condition-returns-in-BarsSince : goal.eval_condition-returns-in-BarsSince
unfolding holds grow_condition
eval_condition-returns-in-BarsSince t c =
    rw (grown_condition _ _ _ _ c.if-left-eq0.false _ _ c.condition_shape.ensures c.in-BarsSince.is)
    c.since_entry.ensures

pub eval_condition-returns-in-NoCondition : goal.eval_condition-returns-in-NoCondition
unfolding holds grow_condition
eval_condition-returns-in-NoCondition t c =
    rw (grown_condition _ _ _ _ c.if-left-eq0.false _ _ c.condition_shape.ensures c.in-NoCondition.is)

pub eval_group-loop-m-init : goal.eval_group-loop-m-init
unfolding holds grow_condition
eval_group-loop-m-init t c =
    let all : c.args.n - 0 ≡ c.args.n = omega arith in
    rw all

pub eval_group-returns-then-eval_condition-all : goal.eval_group-returns-then-eval_condition-all
unfolding holds grow_condition
eval_group-returns-then-eval_condition-all t c =
    let l = c.loop-m in
    let some : 0 < c.args.n - l.m = omega arith in
    rw (l.invariant, group_front _ _ _ _ some)
    (sym (group_off _ _ _ _ _ _ _ c.eval_condition.ensures c.if-eval_condition-all.true))

pub eval_group-loop-m-preserved : goal.eval_group-loop-m-preserved
unfolding holds grow_condition
eval_group-loop-m-preserved t c =
    let l = c.loop-m in
    let some : 0 < c.args.n - l.m = omega arith in
    let rest : c.args.n - (l.m + 1) ≡ c.args.n - l.m - 1 = omega arith in
    rw (rest, l.invariant, group_front _ _ _ _ some)
    (rw c.end_in-at.ensures (group_on _ _ _ _ _ _ _ c.eval_condition.ensures c.if-eval_condition-all.false))

pub eval_group-returns : goal.eval_group-returns
unfolding holds grow_condition
eval_group-returns t c =
    let l = c.loop-m in
    let over : c.args.n - l.m ≤ 0 = omega arith in
    rw (l.invariant, group_end _ _ _ _ over) (sym (group-none _ _ _ _))
