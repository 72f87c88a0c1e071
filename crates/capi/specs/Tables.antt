-- The calls over a rule table. Definitions only.
use Rattle.std.specs.Prelude.{ℕ, ◌*◌, cond, List, leb, eqb, length, Err, Ok, Result}
use Rattle.words.specs.{Limits.trees, Outcome.Outcome, Outcome.gives, Outcome.refuses}
use Rattle.table.specs.{declared.trees.Tree.Tree, declared.trees.Tree.TheVariants.Entry}
use Rattle.table.specs.{declared.trees.Tree.TheVariants.Exit, declared.trees.Tree.TheVariants.ShortEntry, declared.trees.Tree.TheVariants.ShortExit}
use Rattle.table.specs.{Checked.checked, Silent.silent_tests, Silent.silent_answer, Silent.list_after_answer}
use Rattle.needed.specs.{Depth.depth_answer}
use Rattle.steps.specs.{Translating.after_table, Translating.translates, Translating.room_left}
use Rattle.replies.specs.{Call.Call, Call.call_of}
use Rattle.words.specs.{declared.refusal.Refusal.Refusal}
use Rattle.needed.specs.{Outcome.needs}
use Rattle.table.specs.{declared.answer.Accepted.Accepted}
use Rattle.needed.specs.{declared.depth.Needs.Needs}

-- a tree by its number; that of a higher number is absent, as each call says
unfoldable pub numbered_tree : ℕ → Tree
numbered_tree number = cond (eqb number 0) Entry (cond (eqb number 1) Exit (cond (eqb number 2) ShortEntry ShortExit))

-- ---- lent: the nodes, and the rows that the rules need
pub record CheckLent : Type 0 where
  pub nodes : ℕ
  pub rows : ℕ

unfoldable pub check_gives : Result Accepted Refusal → Outcome CheckLent
check_gives (Err why) = refuses why
check_gives (Ok accepted) = gives (record { nodes = accepted.nodes; rows = accepted.rows })

unfoldable pub check_call : List ℕ → CheckLent → Call CheckLent
check_call table before = call_of (check_gives (checked table)) before

-- ---- lent: the rows of the window, and the bytes that they take
pub record DepthLent : Type 0 where
  pub rows : ℕ
  pub bytes : ℕ

unfoldable pub depth_gives : Result Needs Refusal → Outcome DepthLent
depth_gives (Err why) = refuses why
depth_gives (Ok needs) = gives (record { rows = needs.rows; bytes = needs.window })

unfoldable pub depth_call : List ℕ → ℕ → DepthLent → Call DepthLent
depth_call table lookback before = call_of (depth_gives (depth_answer (checked table) table lookback)) before

-- ---- lent: how many tests fall silent, and the list of their nodes
pub record SilentLent : Type 0 where
  pub count : ℕ
  pub list : List ℕ

unfoldable pub silent_gives : Result ℕ Refusal → List ℕ → Outcome SilentLent
silent_gives (Err why) list = refuses why
silent_gives (Ok many) list = gives (record { count = many; list = list })

unfoldable pub silent_call : List ℕ → ℕ → SilentLent → Call SilentLent
silent_call table rows before =
    let numbers = silent_tests table rows in
    let answer = silent_answer (checked table) numbers (length before.list) in
    call_of (silent_gives answer (list_after_answer answer numbers before.list)) before

-- ---- lent: the bytes that the steps take, and the room of steps
pub record TranslateLent : Type 0 where
  pub used : ℕ
  pub room : List ℕ

-- "16 bytes a step"
abbrev pub step_bytes : ℕ
step_bytes = 16

unfoldable pub translate_gives : Result ℕ Refusal → List ℕ → Outcome TranslateLent
translate_gives (Err why) room = refuses why
translate_gives (Ok count) room = gives (record { used = step_bytes * count; room = room })

-- a tree that no table has writes nothing, once the table is accepted
unfoldable pub translate_outcome : List ℕ → ℕ → List ℕ → Outcome TranslateLent
translate_outcome table tree room =
    cond (leb trees tree) (translate_gives (after_table (checked table) (Ok 0)) room)
    (translate_gives (translates table (numbered_tree tree) room) (room_left table (numbered_tree tree) room))

unfoldable pub translate_call : List ℕ → ℕ → TranslateLent → Call TranslateLent
translate_call table tree before = call_of (translate_outcome table tree before.room) before
