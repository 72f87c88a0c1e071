use Rattle.words.specs.Prelude.{refl, sym, ◌∙◌, arith, rules}
use Rattle.table.specs.{Ends.Linked, Passes.WordsFrom}
use Rattle.table.proofs.{Weigh.deep_here, Weigh.deep_end, Weigh.deep_down, Weigh.deep_over}
use Rattle.table.proofs.nesting.deep_of.Goals as goal

pub loop-j-init : goal.loop-j-init
loop-j-init c = (search rules, search rules, search rules, refl)

pub returns-then-left-eq0 : goal.returns-then-left-eq0
returns-then-left-eq0 c = let l = c.loop-j in deep_here _ _ l.j l.left (search rules) (search rules) ∙ sym l.invariant.3

pub loop-j-preserved-then-left-tall : goal.loop-j-preserved-then-left-tall
unfolding WordsFrom
loop-j-preserved-then-left-tall c =
    let l = c.loop-j in (
      search rules,
      search rules,
      search rules,
      l.invariant.3 ∙ deep_down _ _ l.j l.left _ (search rules)
          (c.weigh_tree-tall.ensures l.j (search rules) (search rules)) (search rules) (search rules),
    )

pub loop-j-smaller : goal.loop-j-smaller
unfolding Linked
loop-j-smaller c =
    let l = c.loop-j in
    let k = c.requires.linked l.j (search rules) (search rules) in
    omega (arith, k.beyond, k.within)

pub loop-j-preserved : goal.loop-j-preserved
unfolding Linked WordsFrom
loop-j-preserved c =
    let l = c.loop-j in
    let k = c.requires.linked l.j (search rules) (search rules) in (
      omega (arith, k.beyond),
      k.within,
      search rules,
      l.invariant.3 ∙ deep_over _ _ l.j l.left _ (search rules)
          (c.weigh_tree-tall.ensures l.j (search rules) (search rules)) (search rules) _ (search rules)
          (search rules) k,
    )

pub returns : goal.returns
returns c = let l = c.loop-j in deep_end _ _ l.j l.left (search rules) ∙ sym l.invariant.3
