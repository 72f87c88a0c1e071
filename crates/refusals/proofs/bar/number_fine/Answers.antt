-- The float of a word is finite where the word says so. Assumes nothing.
use Rattle.refusals.proofs.bar.number_fine.Goals as goal

pub returns : goal.returns
returns c = cc
