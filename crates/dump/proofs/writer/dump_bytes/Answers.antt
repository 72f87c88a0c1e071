-- Three tests, and the sum.
use Rattle.words.specs.Prelude.{◌≤◌, arith, le-leb, lt-leb}
use Rattle.images.specs.{Layout.dump_bytes, Layout.size_for}
use Rattle.dump.proofs.{Whole.few_bytes}
use Rattle.dump.proofs.writer.dump_bytes.Goals as goal

pub returns-then-slots-gt-MOST_SLOTS : goal.returns-then-slots-gt-MOST_SLOTS
unfolding size_for
returns-then-slots-gt-MOST_SLOTS c = simp (lt-leb _ _ c.if-slots-gt-MOST_SLOTS.true)

pub returns-then-depth-lt1 : goal.returns-then-depth-lt1
unfolding size_for
returns-then-depth-lt1 c = simp (le-leb _ _ c.if-slots-gt-MOST_SLOTS.false, lt-leb _ _ c.if-depth-lt1.true)

pub returns-then-depth-gt-MOST_ROWS : goal.returns-then-depth-gt-MOST_ROWS
unfolding size_for
returns-then-depth-gt-MOST_ROWS c =
    simp (le-leb _ _ c.if-slots-gt-MOST_SLOTS.false, le-leb _ _ c.if-depth-lt1.false, lt-leb _ _ c.if-depth-gt-MOST_ROWS.true)

pub overflow_mul-result : goal.overflow_mul-result
unfolding size_for
overflow_mul-result c =
    let few : c.body_words.result ≤ 2326528 = let a = c.args in
    omega (arith, c.body_words.ensures, few_bytes a.slots a.depth c.if-slots-gt-MOST_SLOTS.false c.if-depth-gt-MOST_ROWS.false) in
    omega (arith, few)

pub overflow_add-result : goal.overflow_add-result
unfolding size_for
overflow_add-result c =
    let few : c.body_words.result ≤ 2326528 = let a = c.args in
    omega (arith, c.body_words.ensures, few_bytes a.slots a.depth c.if-slots-gt-MOST_SLOTS.false c.if-depth-gt-MOST_ROWS.false) in
    omega (arith, few)

pub returns : goal.returns
unfolding size_for dump_bytes
returns c =
    simp (
      le-leb _ _ c.if-slots-gt-MOST_SLOTS.false,
      le-leb _ _ c.if-depth-lt1.false,
      le-leb _ _ c.if-depth-gt-MOST_ROWS.false,
      c.body_words.ensures,
    )
