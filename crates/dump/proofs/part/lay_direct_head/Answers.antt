-- None of the header, or its share.
use Rattle.words.specs.Prelude.{ap, ◌∙◌, List, ℕ}
use Rattle.dump.specs.{Laws.Placed.head_laid, Laws.Placed.no_head}
use Rattle.dump.proofs.part.lay_direct_head.Goals as goal

pub returns-then-at-ge-HEAD_BYTES : goal.returns-then-at-ge-HEAD_BYTES
returns-then-at-ge-HEAD_BYTES c = let a = c.args in no_head a.part.now _ a.at a.n c.if-at-ge-HEAD_BYTES.true

pub returns : goal.returns
returns c =
    let a = c.args in
    c.lay_head.ensures
    ∙ ap (λ (h : List ℕ). head_laid a.part.now h a.at a.n) (c.direct_head-head.ensures c.requires.0)
