-- One test.
use Rattle.words.specs.Prelude.{eq-eqb, ne_eqb}
use Rattle.heads.proofs.plain.limit_in.Goals as goal

pub returns-then-kind-eq3 : goal.returns-then-kind-eq3
returns-then-kind-eq3 c = simp (eq-eqb _ _ c.if-kind-eq3.true) c.plain_word.ensures

pub returns : goal.returns
returns c = simp (ne_eqb _ _ c.if-kind-eq3.false)
