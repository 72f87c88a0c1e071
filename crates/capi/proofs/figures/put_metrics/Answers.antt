-- `put` writes the words of the metrics.
use Rattle.capi.proofs.figures.put_metrics.Goals as goal

pub returns : goal.returns
returns c = simp (c.put.ensures, c.words_of-words.ensures)
