-- Words that pass are written; else nothing is.
use Rattle.words.specs.Prelude.{refl, sym, ◌∙◌}
use Rattle.dump.specs.{Laws.WordsFit.words_fit}
use Rattle.dump.proofs.part.part_words.Goals as goal

pub write_words_part-requires : goal.write_words_part-requires
write_words_part-requires c = words_fit _ _ _ (sym c.words_pass.ensures ∙ c.if-words_pass.true)

pub returns-then-words_pass : goal.returns-then-words_pass
returns-then-words_pass c =
    record {
      passes = sym c.if-words_pass.true ∙ c.words_pass.ensures;
      leaves = c.write_words_part.ensures.leaves;
      counts = c.write_words_part.ensures.count;
    }

pub returns : goal.returns
returns c = record { passes = sym c.if-words_pass.false ∙ c.words_pass.ensures; leaves = refl; counts = refl }
