-- A box keeps the last D rows, and its run is one that keeps every row.
use Rattle.std.specs.Prelude.{ℕ, ◌≡◌, List, [], ◌∷◌, ◌++◌, take, Ok}
use Rattle.words.specs.Prelude.{flat_map}
use Rattle.words.specs.Prelude.{◌∙◌, append-nil, append_assoc}
use Rattle.records.specs.{declared.settings.Settings.Settings, declared.state.State.State, Lent.Lists, Lent.Rooms}
use Rattle.engine.specs.{Boxes.Grown, Boxes.Follows, Laws.Runs.run_none, Laws.Verdict.verdict_fine, Record.row_of}
use Rattle.engine.specs.{Run.run_over, Step.stepped, Step.step_verdict, Whole.Account, Whole.account_of, Whole.rows_held, Whole.by_lists}
use Rattle.engine.specs.{Whole.taken, Whole.whole_run, Whole.whole_run_by, Whole.rows_of}
use Rattle.runs.specs.{Laws.AccountStep.window_after, Laws.AccountStep.account_after, Laws.AccountStep.last_alike, Laws.AccountStep.taken_alike}
use Rattle.runs.specs.{Laws.BooksGrow.grown_none, Laws.BooksGrow.grown_more, Laws.BooksGrow.books_grow, Laws.FirstBar.by_first_bar}

-- ---- a bar

module _ (s : Settings) (ls : Lists) (t : State) (m : Rooms) (bar : List ℕ) (fine : step_verdict s t bar m ls ≡ Ok tt)
    (a : Account) (rows : List ℕ) (f : Follows s t m a rows) where
  -- what the bar comes to over all rows is what it comes to over those held
  same_taken : taken s (by_lists s ls) (account_of t) (rows_held s t m) bar ≡ taken s (by_lists s ls) a rows bar
  same_taken = rw (← f.account) (taken_alike s (account_of t) (rows_held s t m) bar ls rows (verdict_fine s t bar m ls fine).settings.behind f.window)

  pub step_follows : let d = stepped s t bar m ls in
      Follows s d.result d.rooms (taken s (by_lists s ls) a rows bar).account (rows ++ row_of s.slots bar)
  step_follows = record {
    account = account_after s t bar m ls (verdict_fine s t bar m ls fine) ∙ rw same_taken;
    window = window_after s t bar m ls (verdict_fine s t bar m ls fine) ∙ last_alike s a (rows_held s t m) bar rows f.window;
  }

  pub step_grows : let d = stepped s t bar m ls in
      let b = taken s (by_lists s ls) a rows bar in
      Grown t m d.result d.rooms (b.point ∷ []) b.trades
  step_grows =
      let there = verdict_fine s t bar m ls fine in
      rw (← same_taken) (books_grow s (by_lists s ls) t bar m ls there.points there.trades)

-- ---- bars

-- From (t, m) to (u, n): what these bars come to in a run that keeps every row, and what they add to the books.
pub record RunsWhole (s : Settings) (ls : Lists) (t : State) (m : Rooms) (a : Account) (rows : List ℕ) (bars : List (List ℕ)) (u : State) (n : Rooms)
    : Type 0 where
  pub follows : Follows s u n (whole_run s (by_lists s ls) a rows bars).account (rows ++ rows_of s bars)
  pub grows : Grown t m u n (whole_run s (by_lists s ls) a rows bars).points (whole_run s (by_lists s ls) a rows bars).trades

module _ (s : Settings) (ls : Lists) (t : State) (m : Rooms) (a : Account) (rows : List ℕ) (f : Follows s t m a rows) where
  whole_none : RunsWhole s ls t m a rows [] t m
  unfolding whole_run_by flat_map
  whole_none = record { follows = record { account = f.account; window = rw append-nil f.window }; grows = grown_none t m }

  whole_more : (bar : List ℕ) (bars : List (List ℕ)) (u : State) (n : Rooms) → step_verdict s t bar m ls ≡ Ok tt
      → let d = stepped s t bar m ls in
      RunsWhole s ls d.result d.rooms (taken s (by_lists s ls) a rows bar).account (rows ++ row_of s.slots bar) bars u n
      → RunsWhole s ls t m a rows (bar ∷ bars) u n
  unfolding whole_run_by flat_map
  whole_more bar bars u n fine later = record {
    follows = record { account = later.follows.account; window = rw (← append_assoc) later.follows.window };
    grows = grown_more (step_grows s ls t m bar fine a rows f) later.grows;
  }

-- THE RUN OF A BOX is the run that keeps every row, over the bars that it took.
pub run_follows : (s : Settings) (ls : Lists) (bars : List (List ℕ)) (t : State) (m : Rooms) (a : Account) (rows : List ℕ) → Follows s t m a rows
    → let r = run_over s ls t m bars in
    RunsWhole s ls t m a rows (take r.done bars) r.state r.rooms
run_follows s ls [] t m a rows f = rw (run_none s ls t m) (whole_none s ls t m a rows f)
run_follows s ls (bar ∷ bars) t m a rows f =
    by_first_bar s ls t m bar bars (λ took u n. RunsWhole s ls t m a rows took u n) (whole_none s ls t m a rows f)
    (λ fine. whole_more s ls t m a rows f bar _ _ _ fine
    (run_follows s ls bars (stepped s t bar m ls).result (stepped s t bar m ls).rooms _ _ (step_follows s ls t m bar fine a rows f)))
