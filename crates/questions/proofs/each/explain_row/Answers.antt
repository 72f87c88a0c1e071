-- The place is a part of the list: the lines stand from its beginning on, and the rest of the list is as it was.
use Rattle.words.specs.Prelude.{ℕ, ◌+◌, ◌-◌, ◌*◌, ◌≡◌, ap, ◌∙◌, List, [], ◌∷◌, length, take, drop, arith}
use Rattle.words.specs.{Words.overwrite}
use Rattle.chain.specs.{Chain.ChainLine, Lines.put_lines}
use Rattle.questions.specs.{Laws.Places.place_written}
use Rattle.questions.proofs.each.explain_row.Goals as goal

wide : (n : ℕ) → n + 256 - n ≡ 256
wide n = omega arith

pub returns : goal.returns
returns c =
    let told = c.explain_tree-many in
    let a = c.args in
    let found = c.requires.0.found a.tree a.rows.now a.s in
    let at : ℕ = 256 * a.i in
    let part : List ℕ = take (at + 256 - at) (drop at a.lines.now) in record {
      lines_after = place_written _ (c.requires.0.short a.tree a.rows.now a.s) a.lines.now at (at + 256 - at) (wide at) c.requires.1 _
          (told.ensures.lines_after ∙ ap (λ (ls : List ChainLine). put_lines part 0 ls) found);
      counts_after = c.put.ensures
          ∙ ap (λ (n : ℕ). overwrite a.counts.now a.i (n ∷ [])) (told.ensures.value ∙ ap length found);
    }
