-- The rows asked for are in the list.
use Rattle.words.specs.Prelude.{sym, ◌*◌, length-take-le}
use Rattle.questions.proofs.each.first_rows.Goals as goal

pub slice_bounds-result-end : goal.slice_bounds-result-end
slice_bounds-result-end c = sym (length-take-le (c.args.many * c.args.wide) c.args.rows.now c.requires)
