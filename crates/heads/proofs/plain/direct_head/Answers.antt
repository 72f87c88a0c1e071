-- Where there are all of them, they are made plain and packed.
use Rattle.words.specs.Prelude.{ap, ◌∙◌, arith}
use Rattle.heads.specs.{Laws.Packed.head_words}
use Rattle.heads.proofs.plain.direct_head.Goals as goal

pub returns-then-w-lt-STATE_WORDS : goal.returns-then-w-lt-STATE_WORDS
returns-then-w-lt-STATE_WORDS c = λ h. absurd (omega (arith, h, c.if-w-lt-STATE_WORDS.true))

pub returns : goal.returns
returns c =
    λ h.
    let a = c.args in
    c.pack.ensures ∙ ap (head_words a.slots a.depth a.held) c.plain_words.ensures
