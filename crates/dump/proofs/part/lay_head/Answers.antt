-- As many bytes as are the header's.
use Rattle.words.specs.Prelude.{ℕ, ap, ◌∙◌, drop}
use Rattle.images.specs.{Layout.words_bytes}
use Rattle.dump.specs.{Laws.Laid.laid}
use Rattle.dump.proofs.part.lay_head.Goals as goal

pub returns : goal.returns
returns c =
    let a = c.args in
    c.copy.ensures ∙ ap (λ (n : ℕ). laid a.part.now 0 (drop a.at (words_bytes a.head.now)) 0 n) c.clip.ensures
