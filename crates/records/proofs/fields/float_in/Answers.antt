-- The float of the word.
use Rattle.records.proofs.fields.float_in.Goals as goal

pub returns : goal.returns
returns c = cc
