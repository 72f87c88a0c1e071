-- The call that compares two runs (request 12). Definitions only.
use Rattle.std.specs.Prelude.{ℕ, List, Result, Ok, Err}
use Rattle.words.specs.{Outcome.Outcome, Outcome.gives, Outcome.refuses}
use Rattle.differences.specs.{Compared.compared}
use Rattle.replies.specs.{Call.Call, Call.call_of}
use Rattle.words.specs.{declared.refusal.Refusal.Refusal}

-- lent: the buffer of the lines, and the word that says how many there are
pub record LineRooms : Type 0 where
  pub lines : List ℕ
  pub count : ℕ

unfoldable pub compare_gives : Result ℕ Refusal → List ℕ → Outcome LineRooms
compare_gives (Ok n) room = gives (record { lines = room; count = n })
compare_gives (Err why) room = refuses why

unfoldable pub compare_call : List ℕ → List ℕ → List ℕ → List ℕ → LineRooms → Call LineRooms
compare_call equity list otherEquity otherList before =
    let after = compared equity list otherEquity otherList before.lines in
    call_of (compare_gives after.answer after.room) before
