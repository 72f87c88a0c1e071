-- What a step does to the account is what a bar does to it over the rows held; and no row older than the last D matters.
use Rattle.std.specs.Prelude.{ℕ, ◌<◌, ◌≡◌, List, ◌++◌}
use Rattle.words.specs.Prelude.{sym, ap, ◌∙◌}
use Rattle.rows.specs.{History.history_of}
use Rattle.records.specs.{declared.settings.Settings.Settings, declared.state.State.State, Bar.candle_of, Lent.Lists, Lent.Rooms}
use Rattle.refusals.specs.{Laws.Fine.StepFine, Settings.lookback}
use Rattle.engine.specs.{Account.filled, Decide.decided, Laws.Lengths.row_long, Record.row_of, Rules.rules_of, Rules.FromTable, Step.stepped, Whole.Account}
use Rattle.engine.specs.{Whole.account_of, Whole.rows_held, Whole.by_lists, Whole.by_meaning, Whole.taken, Whole.taken_by, Whole.last_of}
use Rattle.runs.specs.{Laws.FillWindow.fill_over_last, Laws.Window.last_added, Laws.Window.window_added, Laws.Meaning.lists_mean}

-- the parts of an account
pub record SameParts (t t' : State) : Type 0 where
  pub seen : t.counts.bars_seen ≡ t'.counts.bars_seen
  pub order : t.order ≡ t'.order
  pub position : t.position ≡ t'.position
  pub last : t.last ≡ t'.last

pub same_parts : (t t' : State) → account_of t ≡ account_of t' → SameParts t t'
same_parts t t' e = record {
  seen = ap (λ (a : Account). a.seen) e;
  order = ap (λ (a : Account). a.order) e;
  position = ap (λ (a : Account). a.position) e;
  last = ap (λ (a : Account). a.last) e;
}

module _ (s : Settings) (t : State) (bar : List ℕ) (m : Rooms) (ls : Lists) (f : StepFine s t bar m) where
  -- the last D rows after a step are those of the rows held before it and the bar's row
  pub window_after : last_of s (rows_held s (stepped s t bar m ls).result (stepped s t bar m ls).rooms) ≡ last_of s (rows_held s t m ++ row_of s.slots bar)
  unfolding stepped
  window_after =
      window_added s.slots m.rows t.counts.rows_held (row_of s.slots bar) (row_long s.slots bar)
      s.depth f.settings.depth f.room f.held

  -- THE ACCOUNT after a step: nothing in it depends on the books.
  pub account_after : account_of (stepped s t bar m ls).result ≡ (taken s (by_lists s ls) (account_of t) (rows_held s t m) bar).account
  unfolding stepped taken_by by_lists decided
  account_after = rw window_after

module _ (s : Settings) (a : Account) (rows : List ℕ) (bar : List ℕ) where
  -- a fill reads fewer than D
  pub fill_alike : (rows' : List ℕ) → lookback s.terms.sizing < s.depth → last_of s rows ≡ last_of s rows'
      → filled s a.order a.position (candle_of bar) (history_of s.slots rows) a.seen
      ≡ filled s a.order a.position (candle_of bar) (history_of s.slots rows') a.seen
  fill_alike rows' h e =
      sym (fill_over_last s.slots s.depth rows s a.order a.position (candle_of bar) a.seen h)
      ∙ rw e (fill_over_last s.slots s.depth rows' s a.order a.position (candle_of bar) a.seen h)

  -- a row after the same last D leaves the same last D
  pub last_alike : (rows' : List ℕ) → last_of s rows ≡ last_of s rows' → last_of s (rows ++ row_of s.slots bar) ≡ last_of s (rows' ++ row_of s.slots bar)
  last_alike rows' e =
      last_added s.slots s.depth rows (row_of s.slots bar) (row_long s.slots bar)
      ∙ rw e (sym (last_added s.slots s.depth rows' (row_of s.slots bar) (row_long s.slots bar)))

  -- NO ROW OLDER THAN THE LAST D matters to a bar whose rules are asked of their lists.
  pub taken_alike : (ls : Lists) (rows' : List ℕ) → lookback s.terms.sizing < s.depth → last_of s rows ≡ last_of s rows'
      → taken s (by_lists s ls) a rows bar ≡ taken s (by_lists s ls) a rows' bar
  unfolding taken_by by_lists
  taken_alike ls rows' h e = rw (fill_alike rows' h e, last_alike rows' e)

  -- Asked of a table's lists, a bar comes to what it comes to by the rules' meaning over all rows.
  pub taken_as_meant : (table : List ℕ) (ls : Lists) → FromTable table s ls
      → taken s (by_lists s ls) a rows bar ≡ taken s (by_meaning s (rules_of table)) a rows bar
  unfolding taken_by
  taken_as_meant table ls f = rw (lists_mean table s ls f (rows ++ row_of s.slots bar))
