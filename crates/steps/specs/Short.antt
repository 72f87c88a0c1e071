-- What the steps of a table's tree answer over a window of any length, too short ones as well.
use Rattle.std.specs.Prelude.{ℕ, ◌*◌, ◌≤◌, ◌<◌, ◌≡◌, true, List, take, Ok}
use Rattle.words.specs.Prelude.{◌∙◌, arith, le-ltb}
use Rattle.words.specs.{Limits.most_slots, Limits.most_rows}
use Rattle.rows.specs.{History.history_of, History.last_rows, History.whole_rows}
use Rattle.table.specs.{Trees.reach_of, Header.slots, Checked.checked, Reading.tree_of, Laws.Accepted.header_of_lem}
use Rattle.table.specs.{declared.trees.Tree.Tree, Header.tree_number, Bytes.Bytes}
use Rattle.rules.specs.{declared.position.PositionState.PositionState, Meaning.says, Answers.state_right, Laws.Answers.tree_of_four, WindowAnswers.window_whole}
use Rattle.rules.specs.{Shortage.struck_out, AnyWindow.any-window}
use Rattle.needed.specs.{Depth.depth_answer}
use Rattle.steps.specs.{Bytes.bytes_of, Bytes.ops_of}
use Rattle.steps.specs.{Machine.visits_of, Translating.steps_of, Translating.translates, Translating.room_left, Running.ran_if, Running.runs}
use Rattle.steps.specs.{Window.translated_well_formed, Window.translated_says, Demand.written_there, Demand.deep, Demand.depth_above, Demand.depth_most}
use Rattle.needed.specs.{Outcome.needs}
use Rattle.table.specs.{Outcome.accepts}

-- the public run of a translated tree, over any rows
runs_any : (t : List ℕ) (n r : ℕ) → checked t ≡ accepts n r → Bytes t → (x : ℕ) → x < 4 → (D : ℕ) → reach_of (tree_of t x) < D → D ≤ most_rows
    → (ws : List ℕ) (s : PositionState) → whole_rows (slots t) ws ≡ true → state_right s ≡ true
    → runs (bytes_of (steps_of t x)) ws (slots t) D s
    ≡ Ok (record {
      answer = says (history_of (slots t) ws) s (tree_of t x);
      visits = visits_of (history_of (slots t) ws) s (ops_of (bytes_of (steps_of t x)));
    })
unfolding runs ran_if
runs_any t n r ok bytes x four D above most ws s whole fine =
    rw (
      le-ltb most_slots (slots t) (header_of_lem t n r ok).few_slots,
      le-ltb D 1 (omega arith),
      le-ltb most_rows D most,
      whole,
      fine,
      translated_well_formed t n r ok bytes x four D above most,
      translated_says t n r ok bytes x four (history_of (slots t) ws) s,
    )

-- ANY SHORTAGE. As in demand 3, but over the last d rows, d being any number, none and fewer than D as well: the run refuses nothing,
-- and answers what the tree means over ALL rows with each test that reaches back d bars or more replaced by no.
pub short_runs : (t : List ℕ) → Bytes t
    → (lookback D row window : ℕ) → depth_answer (checked t) t lookback ≡ needs D row window
    → (tree : Tree) (room : List ℕ) (used : ℕ) → translates t tree room ≡ Ok used
    → (ws : List ℕ) → whole_rows (slots t) ws ≡ true
    → (s : PositionState) → state_right s ≡ true
    → (d : ℕ)
    → runs (take (16 * used) (room_left t tree room)) (last_rows (slots t) d ws) (slots t) D s
    ≡ Ok (record {
      answer = says (history_of (slots t) ws) s (struck_out d (tree_of t (tree_number tree)));
      visits = visits_of (history_of (slots t) (last_rows (slots t) d ws)) s (ops_of (take (16 * used) (room_left t tree room)));
    })
short_runs t bytes lookback D row window needs tree room used writes ws whole s fine d =
    let K = slots t in
    let x = tree_number tree in
    let known = deep t lookback D row window needs in
    let ok = known.accepted in
    let above : reach_of (tree_of t x) < D = rw known.is (depth_above t _ _ ok lookback tree) in
    let most : D ≤ most_rows = rw known.is (depth_most t _ _ ok lookback known.near) in
    rw (written_there t tree room used writes)
    (runs_any t _ _ ok bytes x (tree_of_four tree) D above most (last_rows K d ws) s (window_whole K d ws ∙ whole) fine
    ∙ rw (any-window K d ws s (tree_of t x)))
