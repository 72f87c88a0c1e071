-- Words that there are, then zeros.
use Rattle.words.specs.Prelude.{ℕ, ◌-◌, ◌*◌, ap, ◌∙◌, arith, length}
use Rattle.images.specs.{Layout.words_bytes}
use Rattle.dump.specs.{Laws.Laid.laid}
use Rattle.dump.proofs.{Storing.laid_two}
use Rattle.dump.proofs.bytes.lay_words.Goals as goal

pub returns-then-j-n : goal.returns-then-j-n
returns-then-j-n c =
    let a = c.args in
    c.lay_known.ensures ∙ ap (λ (m : ℕ). laid a.area.now a.base (words_bytes a.list.now) (8 * a.i) m) (omega arith)

pub returns : goal.returns
returns c =
    let a = c.args in
    laid_two a.area.now a.base (words_bytes a.list.now) (8 * a.i) (8 * (length a.list.now - a.i)) (8 * length a.list.now)
    (8 * a.j - 8 * length a.list.now) (8 * a.j - 8 * a.i) c.lay_known-2.ensures c.lay_zeros-2.ensures
    (omega arith) (omega arith)
