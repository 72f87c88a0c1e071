-- Words that pass are written; else nothing is.
use Rattle.words.specs.Prelude.{refl, sym, ◌∙◌}
use Rattle.dumpable.specs.{Laws.Passing.words_fine}
use Rattle.dump.proofs.direct.dump_words.Goals as goal

pub write_words-requires : goal.write_words-requires
write_words-requires c = words_fine _ _ _ _ (sym c.words_pass.ensures ∙ c.if-words_pass.true)

pub returns-then-words_pass : goal.returns-then-words_pass
returns-then-words_pass c =
    record { passes = sym c.if-words_pass.true ∙ c.words_pass.ensures; leaves = c.write_words.ensures }

pub returns : goal.returns
returns c = record { passes = sym c.if-words_pass.false ∙ c.words_pass.ensures; leaves = refl }
