-- The product is small; eight times it is that of eight times the width.
use Rattle.words.specs.Prelude.{ℕ, ◌+◌, ◌*◌, sym, ap, ◌∙◌, mul_assoc, mul_comm, arith}
use Rattle.rows.specs.{Laws.RowEnds.rows_most}
use Rattle.dump.proofs.writer.body_words.Goals as goal

pub overflow_mul-result : goal.overflow_mul-result
overflow_mul-result c = omega (arith, rows_most c.args.slots c.args.depth _ c.requires.0 c.requires.1)

pub returns : goal.returns
returns c =
    let a = c.args in
    let w = 7 + a.slots in
    sym (mul_assoc 8 a.depth w) ∙ ap (λ (m : ℕ). m * w) (mul_comm 8 a.depth) ∙ mul_assoc a.depth 8 w
