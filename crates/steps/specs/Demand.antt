-- DEMAND 3 in one statement, from the bytes of a table to the answer of the public run.
use Rattle.std.specs.Prelude.{ℕ, ◌+◌, ◌*◌, ◌≤◌, ◌<◌, ◌≡◌, refl, Bool, true, false, cond, List, ◌++◌, ltb, length, take, drop, Err, Ok, Result}
use Rattle.words.specs.Prelude.{ap, ◌∙◌, arith, take_at, le-ltb}
use Rattle.words.specs.Prelude.{ltb-false}
use Rattle.words.specs.{Limits.most_rows, Limits.most_reach}
use Rattle.rows.specs.{History.history_of, History.last_rows, History.whole_rows}
use Rattle.table.specs.{Trees.reach_of}
use Rattle.table.specs.{Header.slots, Checked.checked, Reading.tree_of, Laws.Accepted.tree_reach_lem, declared.trees.Tree.Tree, Header.tree_number}
use Rattle.table.specs.{Depth.greatest_reach, Depth.depth_of, Depth.row_bytes, Bytes.Bytes}
use Rattle.roundtrip.specs.{Laws.Reach.rows_are, Laws.Reach.tree_reach_is}
use Rattle.rules.specs.{declared.position.PositionState.PositionState, Meaning.says, Answers.state_right, Laws.Answers.tree_of_four, WindowAnswers.tree_near}
use Rattle.rules.specs.{WindowAnswers.window_whole}
use Rattle.needed.specs.{Depth.depth_answer}
use Rattle.steps.specs.{declared.machine.Ran.Ran}
use Rattle.steps.specs.{Bytes.bytes_of, Bytes.ops_of, Machine.visits_of, Laws.Encoding.steps_long}
use Rattle.steps.specs.{Translating.steps_of, Translating.room_for, Translating.writes_or, Translating.after_table, Translating.translates}
use Rattle.steps.specs.{Translating.room_after, Translating.room_left, Running.runs, Window.translated_well_formed, Window.window-runs, AnyList.window_any}
use Rattle.words.specs.{declared.refusal.Refusal.Refusal}
use Rattle.needed.specs.{declared.depth.Needs.Needs, Outcome.needs}
use Rattle.table.specs.{declared.answer.Accepted.Accepted}
use Rattle.table.specs.{Outcome.accepts}

-- ---- the start of the room is what was written

pub counted : (a : Result Accepted Refusal) (short : Bool) (place m n : ℕ) → after_table a (cond short (Err (Refusal.Room place)) (Ok m)) ≡ Ok n → m ≡ n
unfolding after_table
counted (Err why) short place m n e = absurd (let z : ◌≡◌ {A = ℕ} 0 1 = cc in omega arith)
counted (Ok accepted) true place m n e = absurd (let z : ◌≡◌ {A = ℕ} 0 1 = cc in omega arith)
counted (Ok accepted) false place m n e = cc

pub written_there : (t : List ℕ) (tree : Tree) (room : List ℕ) (used : ℕ) → translates t tree room ≡ Ok used
    → take (16 * used) (room_left t tree room) ≡ bytes_of (steps_of t (tree_number tree))
unfolding translates writes_or room_left room_after
written_there t tree room used e =
    let xs = steps_of t (tree_number tree) in
    let short = ltb (length room) (room_for t (tree_number tree)) in
    let m : length xs ≡ used = counted (checked t) short (3 + tree_number tree) (length xs) used e in
    let left : room_after (Ok used) (bytes_of xs) room ≡ bytes_of xs ++ drop (length (bytes_of xs)) room = refl in
    simp e (take_at (bytes_of xs) (drop (length (bytes_of xs)) room) (16 * used) (steps_long xs ∙ omega (arith, m)))

-- ---- what an answered depth tells

-- a depth is answered for an accepted table and a lookback that is not refused, and is D
pub record Deep (t : List ℕ) (lookback D : ℕ) : Type 0 where
  pub nodes : ℕ
  pub rows : ℕ
  pub accepted : checked t ≡ accepts nodes rows
  pub near : lookback ≤ most_reach
  pub is : D ≡ depth_of t lookback

module _ (t : List ℕ) (lookback D row window : ℕ) where
  told : (a : Result Accepted Refusal) (far : Bool) → checked t ≡ a → ltb most_reach lookback ≡ far → depth_answer a t lookback ≡ needs D row window → Deep t lookback D
  unfolding depth_answer
  told (Err why) far e f d = absurd (let z : ◌≡◌ {A = ℕ} 0 1 = cc in omega arith)
  told (Ok accepted) true e f d = absurd (let z : ◌≡◌ {A = ℕ} 0 1 = cc (f, d) in omega arith)
  told (Ok accepted) false e f d =
      let same : ◌≡◌ {A = Needs} (record { rows = D; row = row; window = window })
      (record { rows = depth_of t lookback; row = row_bytes t; window = depth_of t lookback * row_bytes t }) = cc (f, d) in
      record { nodes = accepted.nodes; rows = accepted.rows; accepted = e; near = ltb-false most_reach lookback f; is = ap (λ (n : Needs). n.rows) same }

  pub deep : depth_answer (checked t) t lookback ≡ needs D row window → Deep t lookback D
  deep = told (checked t) (ltb most_reach lookback) refl refl

module _ (t : List ℕ) (n r : ℕ) (ok : checked t ≡ accepts n r) (lookback : ℕ) where
  -- every lookback up to 4,095 is answered, with D rows
  pub depth_answers : lookback ≤ most_reach → depth_answer (checked t) t lookback ≡ needs (depth_of t lookback) (row_bytes t) (depth_of t lookback * row_bytes t)
  unfolding depth_answer
  depth_answers l = rw (ok, le-ltb most_reach lookback l)

  -- D lies above every reach,
  pub depth_above : (tree : Tree) → reach_of (tree_of t (tree_number tree)) < depth_of t lookback
  unfolding depth_of greatest_reach
  depth_above tree = omega (arith, tree_near t n r ok tree, rows_are t n r ok)

  -- and is no more than 4,096
  pub depth_most : lookback ≤ most_reach → depth_of t lookback ≤ most_rows
  unfolding depth_of greatest_reach
  depth_most l =
      omega (
        arith,
        l,
        tree_reach_lem t n r ok 0 (omega arith),
        tree_reach_lem t n r ok 1 (omega arith),
        tree_reach_lem t n r ok 2 (omega arith),
        tree_reach_lem t n r ok 3 (omega arith),
        tree_reach_is t n r 0 ok (omega arith),
        tree_reach_is t n r 1 ok (omega arith),
        tree_reach_is t n r 2 ok (omega arith),
        tree_reach_is t n r 3 ok (omega arith),
      )

-- ---- the statement

-- DEMAND 3. Let t be the bytes of a table, for which, with some lookback, `depth` answers D rows; let `translate` write one of its
-- trees (absent ones too) as `used` steps into any room. Then, over any whole rows (none included) and in any state that is not
-- refused, the run of those steps over the last D rows refuses nothing, answers what the tree means over ALL rows, and
-- reports the visits that the run over all rows makes.
pub demand_three : (t : List ℕ) → Bytes t
    → (lookback D row window : ℕ) → depth_answer (checked t) t lookback ≡ needs D row window
    → (tree : Tree) (room : List ℕ) (used : ℕ) → translates t tree room ≡ Ok used
    → (ws : List ℕ) → whole_rows (slots t) ws ≡ true
    → (s : PositionState) → state_right s ≡ true
    → runs (take (16 * used) (room_left t tree room)) (last_rows (slots t) D ws) (slots t) D s
    ≡ Ok (record {
      answer = says (history_of (slots t) ws) s (tree_of t (tree_number tree));
      visits = visits_of (history_of (slots t) ws) s (ops_of (take (16 * used) (room_left t tree room)));
    })
demand_three t bytes lookback D row window needs tree room used writes ws whole s fine =
    let K = slots t in
    let x = tree_number tree in
    let four = tree_of_four tree in
    let d = deep t lookback D row window needs in
    let ok = d.accepted in
    let above : reach_of (tree_of t x) < D = rw d.is (depth_above t _ _ ok lookback tree) in
    let most : D ≤ most_rows = rw d.is (depth_most t _ _ ok lookback d.near) in
    let well = translated_well_formed t _ _ ok bytes x four D above most in
    let seen = ap (λ (a : Ran). a.visits) (window_any K D ws (bytes_of (steps_of t x)) s well) in
    rw (written_there t tree room used writes)
    (window-runs t _ _ ok bytes x four D above most ws s (window_whole K D ws ∙ whole) fine ∙ rw seen)
