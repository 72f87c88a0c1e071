-- A state is made of its first words, and of zeros where the list is short.
use Rattle.words.specs.Prelude.{◌∙◌, arith}
use Rattle.words.specs.{Limits.state_words}
use Rattle.records.specs.{Laws.FirstWords.padded_agree, Laws.FirstWords.state_agree}
use Rattle.records.proofs.state_words.state_of.Goals as goal

pub returns-then-words-lt-STATE_WORDS : goal.returns-then-words-lt-STATE_WORDS
returns-then-words-lt-STATE_WORDS c =
    let ws = c.args.words.now in
    c.whole_state.ensures ∙ rw c.padded.ensures (state_agree _ ws (padded_agree state_words ws (omega (arith, c.if-words-lt-STATE_WORDS.true))))
