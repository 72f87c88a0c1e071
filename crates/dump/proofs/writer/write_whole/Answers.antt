-- The rows, the header's other words, the word with the mark.
use Rattle.dump.proofs.{Storing.whole_laid_lem}
use Rattle.dump.proofs.writer.write_whole.Goals as goal

pub returns : goal.returns
returns c =
    let a = c.args in
    whole_laid_lem a.area.now a.head.now a.rows.now a.words
    c.lay_words.ensures c.lay_words-2.ensures c.lay_words-3.ensures
