-- What std writes for a number is the definition's text.
use Rattle.words.specs.Prelude.{arith, ap, ◌∙◌, List, ℕ, ◌<◌, ◌^◌}
use Rattle.answers.specs.{Text.put, Text.next}
use Rattle.answers.proofs.{Writing.decimal_is}
use Rattle.answers.proofs.put.put_decimal.Goals as goal

pub returns : goal.returns
returns c =
    let a = c.args in
    let h : a.n < 2 ^ 64 = omega arith in
    let e = c.as_bytes.ensures.value ∙ c.format.ensures.text ∙ decimal_is a.n h in
    record {
      value = c.put.ensures.value ∙ ap (λ (s : List ℕ). next a.room.now a.at s) e;
      room_after = c.put.ensures.room_after ∙ ap (λ (s : List ℕ). put a.room.now a.at s) e;
    }
