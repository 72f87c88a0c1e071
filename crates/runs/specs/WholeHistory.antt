-- The engine over the whole history: a box that keeps the last D rows decides by the rows of all bars.
use Rattle.std.specs.Prelude.{ℕ, ◌+◌, ◌≤◌, ◌≡◌, refl, List, [], ◌∷◌, ◌++◌, length, take, Ok}
use Rattle.words.specs.Prelude.{flat_map}
use Rattle.words.specs.Prelude.{sym, ◌∙◌, append-nil, append_assoc, zero-mul, arith, lt-ltb}
use Rattle.rows.specs.{Room.held_with}
use Rattle.records.specs.{declared.settings.Settings.Settings, declared.state.State.State, Lent.Lists, Lent.Rooms, Lent.row_places, State.fresh_state}
use Rattle.engine.specs.{Boxes.Grown, Boxes.Follows, Laws.Lengths.row_long, Laws.Lengths.row_fits, Laws.Runs.run_none}
use Rattle.engine.specs.{Record.row_of, Record.held_rows, Rules.rules_of, Rules.FromTable, Run.Run, Run.run_over, Step.stepped, Step.step_verdict}
use Rattle.engine.specs.{Whole.account_of, Whole.rows_held, Whole.by_meaning, Whole.taken, Whole.last_of, Whole.rows_of}
use Rattle.runs.specs.{Laws.AccountStep.taken_as_meant, Laws.Follows.step_follows, Laws.Follows.step_grows, Laws.Follows.run_follows}
use Rattle.runs.specs.{Laws.FirstBar.by_first_bar, Laws.Window.row_added}

-- ---- a room with a place for every bar

-- a bar's row after those held, where there is a place
module _ (s : Settings) (ls : Lists) (t : State) (m : Rooms) (bar : List ℕ) (place : t.counts.rows_held + 1 ≤ row_places s.slots m.rows) where
  row_appended : let d = stepped s t bar m ls in
      rows_held s d.result d.rooms ≡ rows_held s t m ++ row_of s.slots bar
  unfolding stepped
  row_appended = row_added s.slots m.rows t.counts.rows_held (row_of s.slots bar) (row_long s.slots bar) (omega arith)

  rows_more : let d = stepped s t bar m ls in
      (d.result.counts.rows_held ≡ t.counts.rows_held + 1) × (row_places s.slots d.rooms.rows ≡ row_places s.slots m.rows)
  unfolding stepped held_with
  rows_more = (
    rw (row_long s.slots bar, lt-ltb t.counts.rows_held (row_places s.slots m.rows) (omega arith)),
    rw (row_fits s.slots m.rows t.counts.rows_held bar).1,
  )

-- all rows are there
rows_all : (s : Settings) (ls : Lists) (bars : List (List ℕ)) (t : State) (m : Rooms)
    → t.counts.rows_held + length bars ≤ row_places s.slots m.rows
    → let r = run_over s ls t m bars in
    rows_held s r.state r.rooms ≡ rows_held s t m ++ rows_of s (take r.done bars)
unfolding flat_map
rows_all s ls [] t m fit = rw (run_none s ls t m) (sym (append-nil _))
rows_all s ls (bar ∷ bars) t m fit =
    let more = rows_more s ls t m bar (omega arith) in
    by_first_bar s ls t m bar bars (λ took u n. rows_held s u n ≡ rows_held s t m ++ rows_of s took) (sym (append-nil _))
    (λ fine. rows_all s ls bars (stepped s t bar m ls).result (stepped s t bar m ls).rooms (rw (more.0, more.1) (omega arith))
    ∙ rw (row_appended s ls t m bar (omega arith)) (append_assoc (rows_held s t m) (row_of s.slots bar) _))

-- ---- any room

-- a fresh state holds no rows
fresh_rows : (s : Settings) (m : Rooms) → rows_held s (fresh_state s) m ≡ []
unfolding fresh_state held_rows
fresh_rows s m = rw zero-mul

pub fresh_follows : (s : Settings) (m : Rooms) → Follows s (fresh_state s) m (account_of (fresh_state s)) []
fresh_follows s m = record { account = refl; window = rw (fresh_rows s m) }

-- What a run knows of the bars that it took.
pub record WholeHistory (s : Settings) (ls : Lists) (m : Rooms) (bars : List (List ℕ)) (r : Run) : Type 0 where
  -- the last D rows held are the last D of all bars' rows
  pub window : last_of s (rows_held s r.state r.rooms) ≡ last_of s (rows_of s (take r.done bars))
  -- a room with a place for every bar holds exactly all bars' rows
  pub everything : length bars ≤ row_places s.slots m.rows
      → rows_held s r.state r.rooms ≡ rows_of s (take r.done bars)
  -- The next bar that is taken: its fill, volatility sizing too, is over the rows of ALL bars before it, and its decision is what
  -- the table's rules mean over the rows of all bars and its own; so are the point and the trades that it adds.
  pub next : (table : List ℕ) → FromTable table s ls → (bar : List ℕ) → step_verdict s r.state bar r.rooms ls ≡ Ok tt
      → let d = stepped s r.state bar r.rooms ls in
      let b = taken s (by_meaning s (rules_of table)) (account_of r.state) (rows_of s (take r.done bars)) bar in
      (account_of d.result ≡ b.account) × Grown r.state r.rooms d.result d.rooms (b.point ∷ []) b.trades

-- THE WHOLE HISTORY: from a fresh state, over any room and any bars.
pub whole_history : (s : Settings) (ls : Lists) (m : Rooms) (bars : List (List ℕ)) → WholeHistory s ls m bars (run_over s ls (fresh_state s) m bars)
whole_history s ls m bars =
    let r : Run = run_over s ls (fresh_state s) m bars in
    let w = (run_follows s ls bars (fresh_state s) m (account_of (fresh_state s)) [] (fresh_follows s m)).follows.window in
    let here : Follows s r.state r.rooms (account_of r.state) (rows_of s (take r.done bars)) =
    record { account = refl; window = w } in
    record {
      window = w;
      everything = λ fit. rows_all s ls bars (fresh_state s) m (unfold fresh_state in omega arith) ∙ rw (fresh_rows s m);
      next = λ table f bar fine.
          rw (← (taken_as_meant s (account_of r.state) (rows_of s (take r.done bars)) bar table ls f))
          ((step_follows s ls r.state r.rooms bar fine _ _ here).account, step_grows s ls r.state r.rooms bar fine _ _ here);
    }
