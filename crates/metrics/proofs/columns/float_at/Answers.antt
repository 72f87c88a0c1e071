-- A record that is whole has all of its words; past the last whole one there is no float.
use Rattle.words.specs.Prelude.{sym, ◌∙◌, ◌+◌, ◌*◌, ◌<◌, arith, length}
use Rattle.metrics.specs.{Laws.Columns.in_record, Laws.Columns.column_at, Laws.Columns.column_past}
use Rattle.metrics.proofs.columns.float_at.Goals as goal

pub overflow_mul-width : goal.overflow_mul-width
overflow_mul-width c =
    let there : let a = c.args in a.width * a.i + a.at < length a.words.now = in_record c.args.width c.args.at c.args.i (length c.args.words.now) c.requires c.if-i-words.true in
    omega (arith, there)

pub overflow_add-width : goal.overflow_add-width
overflow_add-width c =
    let there : let a = c.args in a.width * a.i + a.at < length a.words.now = in_record c.args.width c.args.at c.args.i (length c.args.words.now) c.requires c.if-i-words.true in
    omega (arith, there)

pub offset_bounds-words-width : goal.offset_bounds-words-width
offset_bounds-words-width c =
    let there : let a = c.args in a.width * a.i + a.at < length a.words.now = in_record c.args.width c.args.at c.args.i (length c.args.words.now) c.requires c.if-i-words.true in
    omega (arith, there)

pub bounds-words-width : goal.bounds-words-width
bounds-words-width c =
    let there : let a = c.args in a.width * a.i + a.at < length a.words.now = in_record c.args.width c.args.at c.args.i (length c.args.words.now) c.requires c.if-i-words.true in
    there

pub returns-then-i-words : goal.returns-then-i-words
returns-then-i-words c =
    let args = c.args in
    c.float_of.ensures ∙ sym (column_at _ args.width args.at args.words.now args.i c.if-i-words.true)

pub returns : goal.returns
returns c = let args = c.args in sym (column_past _ args.width args.at args.words.now args.i c.if-i-words.false)
