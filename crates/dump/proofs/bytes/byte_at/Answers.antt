-- The byte of the word that it stands in.
use Rattle.words.specs.Prelude.{ℕ, ◌%◌, sym, ap, ◌∙◌, List, get_or}
use Rattle.steps.specs.{Bytes.eight}
use Rattle.dump.specs.{Laws.WordBytes.byte_of}
use Rattle.dump.proofs.bytes.byte_at.Goals as goal

pub returns : goal.returns
returns c =
    let a = c.args in
    ap (λ (l : List ℕ). get_or l (a.k % 8) 0) (c.bytes_of-bytes.ensures ∙ ap eight c.word.ensures) ∙ sym (byte_of a.list.now a.k)
