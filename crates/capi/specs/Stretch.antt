-- The calls for the high and the low of a stretch (request 10). Definitions only.
use Rattle.std.specs.Prelude.{ℕ, List, Result, Ok, Err}
use Rattle.words.specs.{Outcome.Outcome, Outcome.gives, Outcome.refuses}
use Rattle.blocks.specs.{declared.best.Best.Best, Append.appended, Stretch.stretched}
use Rattle.replies.specs.{Call.Call, Call.call_of}
use Rattle.words.specs.{declared.refusal.Refusal.Refusal}

-- ---- an append; lent: how many bars are held, their closes and their blocks

pub record BlockRooms : Type 0 where
  pub held : ℕ
  pub closes : List ℕ
  pub blocks : List ℕ

unfoldable pub append_gives : Result ℕ Refusal → List ℕ → List ℕ → Outcome BlockRooms
append_gives (Ok bars) closes blocks = gives (record { held = bars; closes = closes; blocks = blocks })
append_gives (Err why) closes blocks = refuses why

unfoldable pub append_call : ℕ → BlockRooms → Call BlockRooms
append_call close before =
    let after = appended before.held close before.closes before.blocks in
    call_of (append_gives after.answer after.closes after.blocks) before

-- ---- a question; lent: the four words that it fills

unfoldable pub stretch_gives : Result Best Refusal → Outcome Best
stretch_gives (Ok best) = gives best
stretch_gives (Err why) = refuses why

unfoldable pub stretch_call : ℕ → ℕ → ℕ → List ℕ → List ℕ → Best → Call Best
stretch_call held first last closes blocks before = call_of (stretch_gives (stretched held first last closes blocks)) before
