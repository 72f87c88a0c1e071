-- The float of the word.
use Rattle.records.proofs.fields.float_at.Goals as goal

pub returns : goal.returns
returns c = cc
