-- After i turns: the first i places and counts are written.
use Rattle.words.specs.Prelude.{◌≡◌}
use Rattle.questions.specs.{Over.lines_over, Over.counts_over, Over.explanation_over}
use Rattle.questions.proofs.each.explain_rows.Given as goal

abbrev pub invariant-loop-i : goal.invariant-loop-i
invariant-loop-i l = (l.lines ≡ lines_over (explanation_over l.t l.tree l.rows l.positions) l.i l.initial.lines) × (l.counts ≡ counts_over (explanation_over l.t l.tree l.rows l.positions) l.i l.initial.counts)
