-- A refusal's number and place can be read off the word that a call answers.
use Rattle.std.specs.Prelude.{ℕ, ◌<◌, ◌/◌, ◌%◌, ◌^◌, ◌≡◌}
use Rattle.words.specs.Prelude.{arith}
use Rattle.words.specs.{declared.refusal.Refusal.Refusal}
use Rattle.replies.specs.{Call.answer_word, Call.two_halves}
use Rattle.words.specs.{Outcome.number_of, Outcome.place_of}

-- of any number and any place that have 32 bits
module _ (number place : ℕ) (n : number < 2 ^ 32) (p : place < 2 ^ 32) where
  pub number_half : two_halves number place / 2 ^ 32 ≡ number
  number_half = omega arith

  pub place_half : two_halves number place % 2 ^ 32 ≡ place
  place_half = omega arith

module _ (r : Refusal) (n : number_of r < 2 ^ 32) (p : place_of r < 2 ^ 32) where
  pub answer_number : answer_word r / 2 ^ 32 ≡ number_of r
  unfolding answer_word
  answer_number = number_half (number_of r) (place_of r) n p

  pub answer_place : answer_word r % 2 ^ 32 ≡ place_of r
  unfolding answer_word
  answer_place = place_half (number_of r) (place_of r) n p
