-- What a run with few places gives is the run; the last has a place for each step.
use Rattle.steps.proofs.{Going.tried_whole, Going.tried_through}
use Rattle.steps.proofs.machine.run_rest.Goals as goal

pub returns-in-Some : goal.returns-in-Some
returns-in-Some c = tried_through _ _ 16 _ _ c.in-Some.is c.run_in.ensures

pub returns-in-Some-run_in : goal.returns-in-Some-run_in
returns-in-Some-run_in c = tried_through _ _ 64 _ _ c.in-Some-run_in.is c.run_in-2.ensures

pub unwrap-requires : goal.unwrap-requires
unwrap-requires c = rw (tried_whole _ _ 1024 _ c.requires.n_bound_2.0 c.run_in-3.ensures)

pub returns : goal.returns
returns c = tried_through _ _ 1024 _ _ c.unwrap.ensures c.run_in-3.ensures
