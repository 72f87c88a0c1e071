-- What is left where the tests end is run with places for values.
use Rattle.words.specs.Prelude.{ℕ, ◌≤◌, List, ◌≡◌, arith}
use Rattle.steps.specs.{Bytes.ops_of, Bytes.steps_in, Bytes.steps_run}
use Rattle.steps.proofs.{Coming.came_end}
use Rattle.steps.proofs.machine.run_from.Goals as goal

-- the steps that are run are steps of the list, and at most 1,024
few_run : (bs : List ℕ) (n : ℕ) → n ≡ steps_run bs → (n ≤ steps_in bs) × (n ≤ 1024)
unfolding steps_run
few_run bs n e = (omega arith, omega arith)

pub run_tests-reached-requires : goal.run_tests-reached-requires
unfolding ops_of
run_tests-reached-requires c = let few = few_run _ _ c.steps_run-n.ensures in (few.0, few.1, c.requires)

pub returns-then-p-n : goal.returns-then-p-n
unfolding ops_of
returns-then-p-n c =
    rw (← c.steps_run-n.ensures)
    (came_end _ _ _ _ _ _ _ _ c.run_tests-reached.ensures (omega (arith, c.if-p-n.true)))

pub run_rest-requires : goal.run_rest-requires
unfolding ops_of
run_rest-requires c =
    let few = few_run _ _ c.steps_run-n.ensures in
    record { n_bound = few.0; n_bound_2 = (few.1, c.requires, c.run_tests-reached.ensures) }

pub returns : goal.returns
unfolding ops_of
returns c = rw (← c.steps_run-n.ensures) c.run_rest.ensures
