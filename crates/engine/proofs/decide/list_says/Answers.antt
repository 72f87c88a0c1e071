-- An empty list says no; else the run's answer.
use Rattle.words.specs.Prelude.{◌≡◌, sym, arith, length}
use Rattle.std.proofs.lemmas.Grind.{common_steps}
use Rattle.steps.specs.{Laws.Empty.empty_no}
use Rattle.engine.specs.{Decide.list_says}
use Rattle.engine.proofs.decide.list_says.Goals as goal

pub returns-then-is_empty : goal.returns-then-is_empty
unfolding list_says
returns-then-is_empty c =
    let none : length c.args.list.now ≡ 0 = grind (arith, common_steps) in
    sym (empty_no _ _ _ none)

pub returns : goal.returns
unfolding list_says
returns c = simp c.run_ring-ran.ensures
