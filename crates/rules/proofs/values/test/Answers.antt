-- Each return is what `tested` says where the tests that led there hold. Assumes nothing.
use Rattle.words.specs.Prelude.{◌≡◌, cond, eqb, eq-eqb, ne_eqb}
use Rattle.floats.specs.{Floats.◌⊖◌, Floats.◌≺◌, Floats.◌≼◌, Floats.abs, Floats.eps}
use Rattle.rules.specs.{Values.tested}
use Rattle.table.specs.Named as Named
use Rattle.rules.proofs.values.test.Goals as goal

pub returns-then-kind-eq-GT : goal.returns-then-kind-eq-GT
unfolding tested
returns-then-kind-eq-GT c = simp (eq-eqb _ _ c.if-kind-eq-GT.true)

pub returns-then-kind-eq-LT : goal.returns-then-kind-eq-LT
unfolding tested
returns-then-kind-eq-LT c = simp (ne_eqb _ _ c.if-kind-eq-GT.false, eq-eqb _ _ c.if-kind-eq-LT.true)

pub returns-then-kind-eq-GE : goal.returns-then-kind-eq-GE
unfolding tested
returns-then-kind-eq-GE c = simp (ne_eqb _ _ c.if-kind-eq-GT.false, ne_eqb _ _ c.if-kind-eq-LT.false, eq-eqb _ _ c.if-kind-eq-GE.true)

pub returns-then-kind-eq-LE : goal.returns-then-kind-eq-LE
unfolding tested
returns-then-kind-eq-LE c =
    simp (ne_eqb _ _ c.if-kind-eq-GT.false, ne_eqb _ _ c.if-kind-eq-LT.false, ne_eqb _ _ c.if-kind-eq-GE.false, eq-eqb _ _ c.if-kind-eq-LE.true)

pub returns-then-kind-eq-EQ : goal.returns-then-kind-eq-EQ
unfolding tested
returns-then-kind-eq-EQ c =
    let past4 : let a = c.args in
    tested a.kind a.x a.y ≡ cond (eqb a.kind Named.eq) (abs (a.x ⊖ a.y) ≺ eps) (eps ≼ abs (a.x ⊖ a.y)) = simp (ne_eqb _ _ c.if-kind-eq-GT.false, ne_eqb _ _ c.if-kind-eq-LT.false, ne_eqb _ _ c.if-kind-eq-GE.false, ne_eqb _ _ c.if-kind-eq-LE.false) in
    rw (past4, eq-eqb _ _ c.if-kind-eq-EQ.true, c.abs.ensures)

pub returns : goal.returns
unfolding tested
returns c =
    let past4 : let a = c.args in
    tested a.kind a.x a.y ≡ cond (eqb a.kind Named.eq) (abs (a.x ⊖ a.y) ≺ eps) (eps ≼ abs (a.x ⊖ a.y)) = simp (ne_eqb _ _ c.if-kind-eq-GT.false, ne_eqb _ _ c.if-kind-eq-LT.false, ne_eqb _ _ c.if-kind-eq-GE.false, ne_eqb _ _ c.if-kind-eq-LE.false) in
    rw (past4, ne_eqb _ _ c.if-kind-eq-EQ.false, c.abs-2.ensures)
