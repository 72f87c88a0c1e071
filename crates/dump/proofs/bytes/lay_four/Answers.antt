-- Four words, one after another.
use Rattle.dump.proofs.{Storing.four_words}
use Rattle.dump.proofs.bytes.lay_four.Goals as goal

pub returns : goal.returns
returns c =
    let a = c.args in
    four_words a.area.now a.base a.list.now a.k c.put_word.ensures c.put_word-2.ensures c.put_word-3.ensures
    c.put_word-4.ensures
