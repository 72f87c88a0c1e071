use Rattle.words.specs.Prelude.{◌≡◌, refl, ap, List, ℕ, ◌+◌, add-one, arith, rules}
use Rattle.table.specs.Header as Header
use Rattle.table.proofs.header.root.Goals as goal

root_next : (t : List ℕ) (x : ℕ) → Header.root t (x + 1) ≡ Header.root t x + Header.count t x
unfolding Header.root
root_next t x = ap (Header.root t) (add-one x)

pub loop-x-init : goal.loop-x-init
unfolding Header.root
loop-x-init c = (refl, search rules)

pub loop-x-preserved : goal.loop-x-preserved
loop-x-preserved c =
    let l = c.loop-x in
    (omega (arith, l.invariant.0, c.count-at.ensures.0, root_next c.args.t.now l.x), omega arith)
