-- What a call of the C interface answers and leaves. Definitions only.
use Rattle.std.specs.Prelude.{ℕ, ◌+◌, ◌*◌, ◌%◌, ◌^◌, Bool, true, false, List, [], ◌∷◌, length, leb, Err, Ok}
use Rattle.words.specs.{declared.refusal.Refusal.Refusal, Limits.setting_words, Limits.state_words, Limits.metric_words, Outcome.Outcome, Outcome.gives}
use Rattle.words.specs.{Outcome.refuses}
use Rattle.refusals.specs.{Lines.Line}
use Rattle.refusals.specs.{Lines.line}
use Rattle.refusals.specs.{Lines.Verdict}
use Rattle.words.specs.{Outcome.number_of, Outcome.place_of}

-- a number times 2^32 plus a place, each by its 32 lowest bits
abbrev pub two_halves : ℕ → ℕ → ℕ
two_halves number place = number % 2 ^ 32 * 2 ^ 32 + place % 2 ^ 32

-- An answer in C: the refusal's number times 2^32 plus its place, each by its 32 lowest bits; 0 where the call did its work.
unfoldable pub answer_word : Refusal → ℕ
answer_word r = two_halves (number_of r) (place_of r)

-- the answer, and all that was lent for writing as it is left
pub record Call (A : Type 0) : Type 0 where
  pub answer : ℕ
  pub lent : A

-- "A refusal .. changes nothing lent." A call that does its work answers 0.
unfoldable pub call_of : {A : Type 0} → Outcome A → A → Call A
call_of (gives after) before = record { answer = 0; lent = after }
call_of (refuses r) before = record { answer = answer_word r; lent = before }

-- a verdict that is not fine is the outcome; else another decides
unfoldable pub unless_bad : {A : Type 0} → Verdict → Outcome A → Outcome A
unless_bad (Err r) o = refuses r
unless_bad (Ok _) o = o

-- yes is 1, no is 0
unfoldable pub bit_of : Bool → ℕ
bit_of true = 1
bit_of false = 0

-- "10: a lent room below the size these papers name": room 7 holds the settings, room 8 a state
unfoldable pub word_lines : List ℕ → List ℕ → List Line
word_lines settings state =
    line (leb setting_words (length settings)) (Refusal.Room 7)
    ∷ line (leb state_words (length state)) (Refusal.Room 8)
    ∷ []

-- and room 9 the metrics
unfoldable pub metric_lines : List ℕ → List Line
metric_lines metrics = line (leb metric_words (length metrics)) (Refusal.Room 9) ∷ []
