-- Test by test, from the last: those passed hold, and the first that does not decides.
use Rattle.words.specs.Prelude.{◌≡◌, refl, Bool, true, false, ◌&&◌}
use Rattle.records.specs.{Bar.candle_of}
use Rattle.refusals.specs.{Laws.Descent.so, Laws.Descent.not_so}
use Rattle.refusals.proofs.bar.candle_fine.Goals as goal

and_no : (b : Bool) → (b && false) ≡ false
and_no true = refl
and_no false = refl

and_yes : (b : Bool) → (b && true) ≡ b
and_yes true = refl
and_yes false = refl

pub returns-then-not-number_fine : goal.returns-then-not-number_fine
unfolding candle_of
returns-then-not-number_fine c = simp (not_so c.number_fine.ensures c.if-not-number_fine.true-raw, and_no)

pub returns-then-not-number_fine-2 : goal.returns-then-not-number_fine-2
unfolding candle_of
returns-then-not-number_fine-2 c =
    simp (so c.number_fine.ensures c.if-not-number_fine.false-raw, not_so c.number_fine-2.ensures c.if-not-number_fine-2.true-raw, and_no)

pub returns-then-not-number_fine-3 : goal.returns-then-not-number_fine-3
unfolding candle_of
returns-then-not-number_fine-3 c =
    simp (
      so c.number_fine.ensures c.if-not-number_fine.false-raw,
      so c.number_fine-2.ensures c.if-not-number_fine-2.false-raw,
      not_so c.number_fine-3.ensures c.if-not-number_fine-3.true-raw,
      and_no,
    )

pub returns-then-not-number_fine-4 : goal.returns-then-not-number_fine-4
unfolding candle_of
returns-then-not-number_fine-4 c =
    simp (
      so c.number_fine.ensures c.if-not-number_fine.false-raw,
      so c.number_fine-2.ensures c.if-not-number_fine-2.false-raw,
      so c.number_fine-3.ensures c.if-not-number_fine-3.false-raw,
      not_so c.number_fine-4.ensures c.if-not-number_fine-4.true-raw,
      and_no,
    )

pub returns : goal.returns
unfolding candle_of
returns c =
    simp (
      so c.number_fine.ensures c.if-not-number_fine.false-raw,
      so c.number_fine-2.ensures c.if-not-number_fine-2.false-raw,
      so c.number_fine-3.ensures c.if-not-number_fine-3.false-raw,
      so c.number_fine-4.ensures c.if-not-number_fine-4.false-raw,
      and_yes,
    ) c.number_fine-5.ensures
