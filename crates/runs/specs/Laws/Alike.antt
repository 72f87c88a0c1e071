-- Two boxes with the same account and the same last D rows, and a bar that both take.
use Rattle.std.specs.Prelude.{ℕ, ◌≡◌, refl, List, Ok}
use Rattle.words.specs.Prelude.{sym, ◌∙◌}
use Rattle.records.specs.{declared.settings.Settings.Settings, declared.state.State.State, Lent.Lists, Lent.Rooms}
use Rattle.engine.specs.{Boxes.Follows, Boxes.Sound, Boxes.SameCounts, Boxes.Alike, Boxes.SameButRows, Step.stepped, Step.step_verdict, Whole.account_of}
use Rattle.engine.specs.{Whole.rows_held}
use Rattle.runs.specs.{Laws.Counts.step_within, Laws.Counts.step_lengths, Laws.Follows.step_follows, Laws.Follows.step_grows}

module _ (s : Settings) (ls : Lists) (t : State) (m : Rooms) (t' : State) (m' : Rooms) (bar : List ℕ) (alike : Alike s t m t' m')
    (fine : step_verdict s t bar m ls ≡ Ok tt) (fine' : step_verdict s t' bar m' ls ≡ Ok tt) where
  -- both follow the first
  one : Follows s t m (account_of t) (rows_held s t m)
  one = record { account = refl; window = refl }

  other : Follows s t' m' (account_of t) (rows_held s t m)
  other = record { account = sym alike.account; window = sym alike.window }

  -- NO ROW OLDER THAN THE LAST D, and nothing in the books, matters to the account: boxes that are alike are so again.
  pub step_alike : let d = stepped s t bar m ls in
      let d' = stepped s t' bar m' ls in
      Alike s d.result d.rooms d'.result d'.rooms
  step_alike =
      let f = step_follows s ls t m bar fine _ _ one in
      let f' = step_follows s ls t' m' bar fine' _ _ other in
      record { account = f.account ∙ sym f'.account; window = f.window ∙ sym f'.window }

  -- boxes that differ in their rows alone do so again
  pub step_same : SameButRows t m t' m'
      → let d = stepped s t bar m ls in
      let d' = stepped s t' bar m' ls in
      SameButRows d.result d.rooms d'.result d'.rooms
  step_same same =
      let g = step_grows s ls t m bar fine _ _ one in
      let g' = step_grows s ls t' m' bar fine' _ _ other in
      record {
        account = step_alike.account;
        points = g.points ∙ rw same.points (sym g'.points);
        trades = g.trades ∙ rw same.trades (sym g'.trades);
        equity = g.equity ∙ rw same.equity (sym g'.equity);
        closed = g.closed ∙ rw same.closed (sym g'.closed);
      }

  -- books that count as much and have places for as much do so again
  pub step_counts : Sound s t m → Sound s t' m' → SameCounts t m t' m'
      → let d = stepped s t bar m ls in
      let d' = stepped s t' bar m' ls in
      SameCounts d.result d.rooms d'.result d'.rooms
  step_counts r r' c =
      let g = step_grows s ls t m bar fine _ _ one in
      let g' = step_grows s ls t' m' bar fine' _ _ other in
      let l = step_lengths s t bar m ls r.within in
      let l' = step_lengths s t' bar m' ls r'.within in
      record {
        points = g.points ∙ rw c.points (sym g'.points);
        trades = g.trades ∙ rw c.trades (sym g'.trades);
        equity = rw (l.equity, l'.equity) c.equity;
        closed = rw (l.trades, l'.trades) c.closed;
      }

-- a box that is sound is so again
pub step_sound : (s : Settings) (t : State) (bar : List ℕ) (m : Rooms) (ls : Lists) → Sound s t m
    → Sound s (stepped s t bar m ls).result (stepped s t bar m ls).rooms
step_sound s t bar m ls r = record {
  depth = rw (step_lengths s t bar m ls r.within).rows r.depth;
  within = step_within s t bar m ls r.within;
}
