-- The steps that a translation writes lie within its room.
use Rattle.std.specs.Prelude.{Ok}
use Rattle.words.specs.Prelude.{ℕ, ◌+◌, ◌*◌, ◌≤◌, ◌≡◌, ap, ◌∙◌, List, ◌++◌, arith, ltb, length, drop, length-append}
use Rattle.table.specs.{declared.trees.Tree.Tree, Checked.checked, Header.tree_number}
use Rattle.steps.specs.{Bytes.bytes_of, Laws.Encoding.steps_long, Demand.counted, Translating.steps_of}
use Rattle.steps.specs.{Translating.room_for, Translating.writes_or, Translating.translates, Translating.room_after, Translating.room_left}

pub writes_within : (t : List ℕ) (tree : Tree) (room after : List ℕ) (n : ℕ) → translates t tree room ≡ Ok n → after ≡ room_left t tree room
    → 16 * n ≤ length after
unfolding translates writes_or room_left room_after
writes_within t tree room after n e left =
    let xs = steps_of t (tree_number tree) in
    let m : length xs ≡ n = counted (checked t) (ltb (length room) (room_for t (tree_number tree))) (3 + tree_number tree) (length xs) n e in
    let k : after ≡ bytes_of xs ++ drop (length (bytes_of xs)) room = left ∙ simp e in
    omega (arith, m, steps_long xs, ap length k ∙ length-append (bytes_of xs) (drop (length (bytes_of xs)) room))
