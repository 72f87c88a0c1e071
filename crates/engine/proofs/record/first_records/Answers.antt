-- The records asked for lie within the list, or there are no more than it has; records of no words are none. Assumes nothing.
use Rattle.words.specs.Prelude.{ℕ, ◌*◌, ◌<◌, ◌≡◌, sym, arith, mul-zero, length-take-le}
use Rattle.words.specs.{Laws.Records.records_fit}
use Rattle.engine.proofs.{Rows.all_of_them}
use Rattle.engine.proofs.record.first_records.Goals as goal

-- a record that has words
some : (words : ℕ) → (words ≡ 0 → ⊥) → 0 < words
some words e = omega (arith, e)

pub returns-then-words-eq0 : goal.returns-then-words-eq0
returns-then-words-eq0 c = let none : c.args.words ≡ 0 = c.if-words-eq0.true in rw (none, mul-zero)

pub returns-then-list-words : goal.returns-then-list-words
returns-then-list-words c =
    let a = c.args in
    all_of_them a.words a.n a.list.now (some _ c.if-words-eq0.false) c.if-list-words.true

pub overflow_mul-end : goal.overflow_mul-end
overflow_mul-end c =
    let a = c.args in
    omega (arith, records_fit _ a.words (some _ c.if-words-eq0.false) a.n c.if-list-words.false)

pub slice_bounds-result-end-2 : goal.slice_bounds-result-end-2
slice_bounds-result-end-2 c =
    let a = c.args in
    sym (length-take-le (a.n * a.words) a.list.now (records_fit _ a.words (some _ c.if-words-eq0.false) a.n c.if-list-words.false))
