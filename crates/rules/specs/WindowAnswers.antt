-- A rule answered over the window is the rule answered over all rows. Assumes nothing.
use Rattle.std.specs.Prelude.{ℕ, ◌+◌, ◌-◌, ◌*◌, ◌%◌, ◌≤◌, ◌<◌, ◌≡◌, List, length}
use Rattle.words.specs.Prelude.{ap, ◌∙◌, arith, le-div_iff_mul-le, length-drop}
use Rattle.rows.specs.{History.history_of, History.whole_rows, History.last_rows}
use Rattle.table.specs.{Trees.reach_of, Header.slots, Checked.checked, Reading.tree_of, declared.trees.Tree.Tree}
use Rattle.table.specs.{declared.trees.Tree.TheVariants.Entry, declared.trees.Tree.TheVariants.Exit, declared.trees.Tree.TheVariants.ShortEntry}
use Rattle.table.specs.{declared.trees.Tree.TheVariants.ShortExit, Header.tree_number}
use Rattle.roundtrip.specs.{Laws.Reach.rows_are}
use Rattle.rules.specs.{declared.position.PositionState.PositionState, Answers.judged, Answers.after_check, Answers.answered, Window.window}
use Rattle.table.specs.{Outcome.accepts}
use Rattle.std.proofs.Math.Nat.{mul-add-mod_self_right}

-- The last rows are whole where all are.
pub window_whole : (K D : ℕ) (ws : List ℕ) → whole_rows K (last_rows K D ws) ≡ whole_rows K ws
unfolding whole_rows last_rows history_of
window_whole K D ws =
    let s : ℕ = (history_of K ws).rows - D in
    let long : s * (7 + K) ≤ length ws = (le-div_iff_mul-le {k = 7 + K} (omega arith)).0 (omega arith) in
    let split : length ws ≡ s * (7 + K) + (length ws - s * (7 + K)) = omega arith in
    let same : length ws % (7 + K) ≡ (length ws - s * (7 + K)) % (7 + K) =
    ap (λ (n : ℕ). n % (7 + K)) split ∙ mul-add-mod_self_right s (7 + K) (length ws - s * (7 + K)) in
    rw (length-drop, same)

-- "The window is D = 1 + the greatest of the four reaches": it reaches further than each tree.
pub tree_near : (t : List ℕ) (n r : ℕ) → checked t ≡ accepts n r → (tree : Tree) → reach_of (tree_of t (tree_number tree)) < r
tree_near t n r ok Entry = omega (arith, rows_are t n r ok)
tree_near t n r ok Exit = omega (arith, rows_are t n r ok)
tree_near t n r ok ShortEntry = omega (arith, rows_are t n r ok)
tree_near t n r ok ShortExit = omega (arith, rows_are t n r ok)

-- THE WINDOW OF A TABLE: where D is at least the rows that the check says, a rule answers over the last D rows what it answers
-- over all of them.
pub window_answers : (t : List ℕ) (n r : ℕ) → checked t ≡ accepts n r → (D : ℕ) → r ≤ D → (tree : Tree) (rows : List ℕ) (s : PositionState)
    → answered t tree (last_rows (slots t) D rows) s ≡ answered t tree rows s
unfolding answered after_check judged
window_answers t n r ok D enough tree rows s =
    let near : reach_of (tree_of t (tree_number tree)) < D = omega (arith, tree_near t n r ok tree) in
    rw (ok, window_whole (slots t) D rows, window (slots t) D rows s (tree_of t (tree_number tree)) near)
