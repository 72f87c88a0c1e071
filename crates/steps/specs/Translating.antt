-- What the translation of a tree of a table answers, and what it leaves in the lent room. Definitions only.
use Rattle.std.specs.Prelude.{ℕ, ◌+◌, ◌*◌, cond, List, [], ◌++◌, length, drop, ltb, Err, Ok, Result}
use Rattle.table.specs.{Header.count}
use Rattle.table.specs.{Checked.checked, Reading.tree_of, Reading.present, declared.trees.Tree.Tree, Header.tree_number}
use Rattle.steps.specs.{declared.step.Op.Op}
use Rattle.steps.specs.{Bytes.bytes_of, Translation.code_of}
use Rattle.words.specs.{declared.refusal.Refusal.Refusal}
use Rattle.table.specs.{declared.answer.Accepted.Accepted}

-- "Each tree is translated into its own lent room": its steps, none where the tree is absent.
unfoldable pub steps_of : List ℕ → ℕ → List Op
steps_of t x = cond (present t x) (code_of (tree_of t x)) []

-- "at most four steps a node; room below 64 bytes a node is refused"
abbrev pub room_for : List ℕ → ℕ → ℕ
room_for t x = 64 * count t x

-- "10: a lent room below the size these papers name: room number". The rooms of steps are 3 to 6, in the order of the trees.
unfoldable pub writes_or : List ℕ → ℕ → List ℕ → Result ℕ Refusal
writes_or t x room = cond (ltb (length room) (room_for t x)) (Err (Refusal.Room (3 + x))) (Ok (length (steps_of t x)))

-- "1 to 9 come first"
unfoldable pub after_table : Result Accepted Refusal → Result ℕ Refusal → Result ℕ Refusal
after_table (Err why) a = Err why
after_table (Ok accepted) a = a

unfoldable pub translates : List ℕ → Tree → List ℕ → Result ℕ Refusal
translates t tree room = after_table (checked t) (writes_or t (tree_number tree) room)

-- "The bytes used are those of a written definition; the rest of the room is untouched." "A refusal .. changes nothing lent."
unfoldable pub room_after : Result ℕ Refusal → List ℕ → List ℕ → List ℕ
room_after (Err why) bytes room = room
room_after (Ok n) bytes room = bytes ++ drop (length bytes) room

unfoldable pub room_left : List ℕ → Tree → List ℕ → List ℕ
room_left t tree room = room_after (translates t tree room) (bytes_of (steps_of t (tree_number tree))) room
