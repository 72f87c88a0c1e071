-- The test is that of the definition.
use Rattle.words.specs.Prelude.{eq-eqb, ne_eqb}
use Rattle.steps.specs.{Bytes.slot_kind}
use Rattle.translation.proofs.emit.slot_kind.Goals as goal

pub returns-then-kind-eq-HIGHEST : goal.returns-then-kind-eq-HIGHEST
unfolding slot_kind
returns-then-kind-eq-HIGHEST c = rw (eq-eqb _ _ c.if-kind-eq-HIGHEST.true)

pub returns : goal.returns
unfolding slot_kind
returns c = rw (ne_eqb _ _ c.if-kind-eq-HIGHEST.false)
