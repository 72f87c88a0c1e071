-- A LOSS OF THE SUPPLY, in the words of the C calls: the bars before it, the dump, the flash, and the restore. Definitions only.
use Rattle.std.specs.Prelude.{ℕ, ◌≤◌, ◌≡◌, List, [], ◌∷◌, ◌++◌, length, take}
use Rattle.records.specs.{Lent.Lists, Lent.rooms, Settings.settings_of, StateWords.state_of}
use Rattle.engine.specs.{Books.held_points, Books.held_trades}
use Rattle.images.specs.{Layout.dump_bytes}
use Rattle.restart.specs.{FirstWord.Unmarked, Plans.CutIn, Plans.in_order, Plans.Plan}
use Rattle.replies.specs.{Call.Call}
use Rattle.stepping.specs.{Bars.StepLent, WordRun.calls_over}
use Rattle.capi.specs.{Power.RestoreLent, Power.dump_call, Power.restore_call}

pub record Loss : Type 0 where
  -- the bars since the box was begun, or restored last
  pub bars : List (List ℕ)
  -- the memory that `ysh_dump` writes the image into
  pub buffer : List ℕ
  -- the flash before the dump; the programs of the dump, the last apart; and the flash when the supply is back
  pub area : List ℕ
  pub before : List (List ℕ)
  pub last : List ℕ
  pub found : List ℕ
  -- the memory that the box is lent from then on
  pub state : List ℕ
  pub rows : List ℕ
  pub equity : List ℕ
  pub trades : List ℕ

-- the size of an image, as `ysh_dump_bytes` answers it (`dump_bytes_lem`)
abbrev pub size_of : List ℕ → ℕ
size_of settings = dump_bytes (settings_of settings).slots (settings_of settings).depth

-- `ysh_step` for each bar
abbrev pub box_before : List ℕ → Lists → StepLent → Loss → StepLent
box_before settings ls box l = (calls_over settings ls box l.bars).lent

-- `ysh_dump` of what the bars came to, whole, and the image that it leaves in the buffer
abbrev pub dump_of : List ℕ → Lists → StepLent → Loss → Call (List ℕ)
dump_of settings ls box l =
    let b = box_before settings ls box l in
    dump_call settings b.state b.rooms.rows l.buffer 0 (size_of settings)

abbrev pub image_in : List ℕ → Lists → StepLent → Loss → List ℕ
image_in settings ls box l = take (size_of settings) (dump_of settings ls box l).lent

-- `ysh_restore` of what the flash holds, and the box that it leaves
abbrev pub restore_of : List ℕ → Loss → Call RestoreLent
restore_of settings l = restore_call settings l.state (take (size_of settings) l.found) l.rows

abbrev pub box_after : List ℕ → Loss → StepLent
box_after settings l =
    let r = (restore_of settings l).lent in
    record { state = r.state; rooms = rooms r.rows l.equity l.trades }

-- What a driver sees to.
pub record Driven (settings : List ℕ) (ls : Lists) (box : StepLent) (l : Loss) : Type 0 where
  -- each bar was taken, and the dump too: `ysh_step` and `ysh_dump` answered 0
  pub taken : (calls_over settings ls box l.bars).answer ≡ 0
  pub dumped : (dump_of settings ls box l).answer ≡ 0
  -- the flash has room for the image, and byte 2 of it was not the mark's before the dump
  pub fits : size_of settings ≤ length l.area
  pub unmarked : Unmarked l.area
  -- the image's first word is programmed last and alone, and the supply failed anywhere, or after all
  pub plan : Plan (image_in settings ls box l) l.area l.before l.last
  pub cut : CutIn (image_in settings ls box l) (in_order l.before l.last) l.area l.found

-- Losses one after another, after each of which `ysh_restore` answered 0.
unfoldable pub Restored : List ℕ → Lists → StepLent → List Loss → Type 0
Restored settings ls box [] = Unit {0}
Restored settings ls box (l ∷ losses) =
    Driven settings ls box l × ((restore_of settings l).answer ≡ 0) × Restored settings ls (box_after settings l) losses

-- ---- what came of them: the box, the bars, and the points and trades that it held at each loss, one after another

unfoldable pub last_box : List ℕ → StepLent → List Loss → StepLent
last_box settings box [] = box
last_box settings box (l ∷ losses) = last_box settings (box_after settings l) losses

unfoldable pub bars_before : List Loss → List (List ℕ)
bars_before [] = []
bars_before (l ∷ losses) = l.bars ++ bars_before losses

-- by the counts in the words of its state
abbrev pub points_in : StepLent → List ℕ
points_in box = held_points (state_of box.state) box.rooms

abbrev pub trades_in : StepLent → List ℕ
trades_in box = held_trades (state_of box.state) box.rooms

unfoldable pub points_before : List ℕ → Lists → StepLent → List Loss → List ℕ
points_before settings ls box [] = []
points_before settings ls box (l ∷ losses) = points_in (box_before settings ls box l) ++ points_before settings ls (box_after settings l) losses

unfoldable pub trades_before : List ℕ → Lists → StepLent → List Loss → List ℕ
trades_before settings ls box [] = []
trades_before settings ls box (l ∷ losses) = trades_in (box_before settings ls box l) ++ trades_before settings ls (box_after settings l) losses
