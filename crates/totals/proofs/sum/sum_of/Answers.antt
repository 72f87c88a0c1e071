-- The 34 words from word 8 on. Assumes nothing.
use Rattle.words.specs.Prelude.{◌∙◌, take, drop}
use Rattle.totals.specs.{Totals.sum_words}
use Rattle.totals.proofs.{Writing.copied, Writing.sum_long}
use Rattle.totals.proofs.sum.sum_of.Goals as goal

pub returns : goal.returns
unfolding sum_words
returns c =
    let totals = c.args.totals.now in
    c.put.ensures ∙ copied (take 34 (drop 8 totals)) (sum_long totals c.requires)
