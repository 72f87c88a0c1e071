-- Counts, sum and float fill the 43 words. Assumes nothing.
use Rattle.words.specs.Prelude.{arith, ap, ◌∙◌, List, ℕ, set}
use Rattle.words.specs.{Words.overwrite}
use Rattle.totals.proofs.{Writing.filled}
use Rattle.totals.proofs.put_totals.Goals as goal

pub returns : goal.returns
returns c =
    let totals = c.args.totals.now in
    c.put-3.ensures
    ∙ ap (λ (l : List ℕ). overwrite totals 0 (set l 42 c.args.float)) c.put-2.ensures
    ∙ ap (λ (l : List ℕ). overwrite totals 0 (set (overwrite l 8 c.args.sum.now) 42 c.args.float)) c.put.ensures
    ∙ ap (overwrite totals 0) (filled c.args.counts.now c.args.sum.now c.args.float (omega arith) (omega arith))
