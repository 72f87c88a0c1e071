-- Each return is a case of `holds` at the condition that stands at the node; what is left of the nesting falls, and a group
-- comes just above the conditions in it. The loop's invariant: the group says what is left of it says. Assumes nothing.
use Rattle.words.specs.Prelude.{◌≡◌, ◌+◌, ◌-◌, ◌*◌}
use Rattle.rows.specs.{History.history_of}
use Rattle.rules.specs.{Meaning.holds, Flat.grow_conditions, Flat.group, Flat.flat_condition_at}
use Rattle.rules.proofs.conditions.+eval_condition_eval_group.Given as goal

abbrev pub decreases-eval_condition : goal.decreases-eval_condition
decreases-eval_condition l = 2 * l.left

abbrev pub invariant-eval_group-loop-m : goal.invariant-eval_group-loop-m
invariant-eval_group-loop-m l = holds (history_of l.slots l.rows) l.s (group l.all (grow_conditions (flat_condition_at l.left l.t l.ends) l.ends l.n l.first)) l.bar
    ≡ holds (history_of l.slots l.rows) l.s (group l.all (grow_conditions (flat_condition_at l.left l.t l.ends) l.ends (l.n - l.m) l.at)) l.bar

abbrev pub decreases-eval_group : goal.decreases-eval_group
decreases-eval_group l = 2 * l.left + 1
