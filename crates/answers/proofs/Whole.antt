-- The line of an answer is short: a room of 64 bytes has all of it.
use Rattle.std.specs.Prelude.{Err, Ok, Result}
use Rattle.words.specs.Prelude.{◌≡◌, sym, ap, ◌∙◌, List, ℕ, ◌+◌, ◌≤◌, arith, length, take, drop, replicate, length-append, length-replicate, take_at}
use Rattle.answers.specs.{Text.put, Text.next, Lines.two_numbers, Lines.line_of, Laws.Pieces.next_fits, Laws.Pieces.put_fits}
use Rattle.words.specs.{declared.refusal.Refusal.Refusal}
use Rattle.table.specs.{declared.answer.Accepted.Accepted}
use Rattle.answers.proofs.{Pieces.decimal_few}
use Rattle.words.specs.{Outcome.number_of, Outcome.place_of}

-- two words with a number after each
few : (what then : List ℕ) (x y : ℕ) → length what ≤ 15 → length then ≤ 6 → length (two_numbers what x then y) ≤ 62
unfolding two_numbers
few what then x y p q = simp length-append (omega (arith, p, q, decimal_few x, decimal_few y))

short : (a : Result Accepted Refusal) → length (line_of a) ≤ 62
unfolding line_of
short (Ok accepted) = few _ _ accepted.nodes accepted.rows (omega arith) (omega arith)
short (Err why) = few _ _ (number_of why) (place_of why) (omega arith) (omega arith)

-- what stands at the start of a room of 64 bytes is the line
pub whole : (a : Result Accepted Refusal) (n : ℕ) (line : List ℕ) → n ≡ next (replicate 64 0) 0 (line_of a) → line ≡ put (replicate 64 0) 0 (line_of a)
    → take n line ≡ line_of a
whole a n line e f =
    let room : List ℕ = replicate 64 0 in
    let fits : 0 + length (line_of a) ≤ length room = omega (arith, short a, length-replicate {A = ℕ} 64 0) in
    let count : n ≡ length (line_of a) = omega (arith, e ∙ next_fits room 0 (line_of a) fits) in
    ap (λ (r : List ℕ). take n r) (f ∙ put_fits room 0 (line_of a) fits) ∙ take_at (line_of a) (drop (0 + length (line_of a)) room) n (sym count)
