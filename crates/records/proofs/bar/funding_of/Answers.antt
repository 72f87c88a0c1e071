-- None where the word behind the slots is 0, else what the two words after it hold.
use Rattle.words.specs.Prelude.{sym, ◌∙◌, eq-eqb, ne_eqb}
use Rattle.records.specs.{Bar.funding_of}
use Rattle.records.proofs.bar.funding_of.Goals as goal

pub returns-then-word_from-eq0 : goal.returns-then-word_from-eq0
unfolding funding_of
returns-then-word_from-eq0 c =
    simp (eq-eqb _ _ (sym c.word_from.ensures ∙ c.if-word_from-eq0.true))

pub returns : goal.returns
unfolding funding_of
returns c =
    simp (
      c.float_of-rate.ensures,
      c.word_from-3.ensures,
      c.float_of-mark.ensures,
      c.word_from-2.ensures,
      ne_eqb _ _ (λ e. c.if-word_from-eq0.false (c.word_from.ensures ∙ e)),
    )
