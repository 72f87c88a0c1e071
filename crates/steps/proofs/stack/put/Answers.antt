-- Case by case.
use Rattle.words.specs.Prelude.{refl}
use Rattle.steps.specs.{Places.numbers_with, Places.is_there}
use Rattle.steps.proofs.stack.put.Goals as goal

pub returns-in-None : goal.returns-in-None
unfolding numbers_with is_there
returns-in-None c = rw c.in-None.is record { numbers_after = refl; there_after = refl }

pub returns-in-Some : goal.returns-in-Some
unfolding numbers_with is_there
returns-in-Some c = rw c.in-Some.is record { numbers_after = refl; there_after = refl }
