-- What is left of them, from where the rows begin.
use Rattle.words.specs.Prelude.{ℕ, ◌-◌, ap, ◌∙◌, drop}
use Rattle.images.specs.{Layout.words_bytes}
use Rattle.dump.specs.{Laws.Laid.laid}
use Rattle.dump.proofs.part.lay_rows.Goals as goal

pub returns : goal.returns
returns c =
    let a = c.args in
    let s = c.clip-share.result in
    let bytes = words_bytes a.rows.now in
    c.copy.ensures
    ∙ ap (λ (k : ℕ). laid a.part.now s (drop k bytes) 0 (a.n - s)) c.among_rows.ensures
    ∙ ap (λ (k : ℕ). laid a.part.now k (drop (a.at - 256) bytes) 0 (a.n - k)) c.clip-share.ensures
