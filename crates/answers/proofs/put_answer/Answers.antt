-- `put_answer` meets its contract: each answer has its own two words.
use Rattle.words.specs.Prelude.{◌≡◌, sym, ◌∙◌, ap, List, ℕ}
use Rattle.words.specs.{Outcome.number_of}
use Rattle.answers.specs.{Text.put, Text.next, Lines.line_of, Lines.refused_line}
use Rattle.answers.proofs.put_answer.Goals as goal

pub returns-in-Ok : goal.returns-in-Ok
unfolding line_of
returns-in-Ok c =
    let r = c.put_numbers in
    let room = c.args.room.now in
    let e = sym (ap line_of c.in-Ok.is) in
    record { value = r.ensures.value ∙ ap (λ (l : List ℕ). next room 0 l) e; room_after = r.ensures.room_after ∙ ap (λ (l : List ℕ). put room 0 l) e; prefix_len = r.ensures.prefix_len }

pub returns-in-Err : goal.returns-in-Err
unfolding line_of
returns-in-Err c =
    let r = c.put_refused in
    let room = c.args.room.now in
    let why = c.in-Err.refusal in
    let e : refused_line c.number.result c.place.result ≡ line_of c.args.answer = ap (λ (k : ℕ). refused_line k c.place.result) c.number.ensures
    ∙ ap (refused_line (number_of why)) c.place.ensures ∙ sym (ap line_of c.in-Err.is) in
    record { value = r.ensures.value ∙ ap (λ (l : List ℕ). next room 0 l) e; room_after = r.ensures.room_after ∙ ap (λ (l : List ℕ). put room 0 l) e; prefix_len = r.ensures.prefix_len }
