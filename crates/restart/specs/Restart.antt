-- THE RESTART, over the bytes of an image. "From a whole image of a state reached from a fresh one, with the same table and settings and empty trade
-- and equity rooms counted from 0, further bars give the trades, equity points and decisions that the unbroken run gives for them, until
-- either refuses." What runs/specs/Restart says of a box that was started again holds of the box that a restore leaves.
use Rattle.std.specs.Prelude.{ℕ, ◌+◌, ◌/◌, ◌≤◌, ◌≡◌, refl, List, length, drop}
use Rattle.words.specs.Prelude.{zero-add, arith, take_at}
use Rattle.words.specs.{Limits.row_words, Words.overwrite, Laws.Overwrite.overwrite_fits, Laws.Records.records_fit}
use Rattle.words.specs.{Laws.Overwrite.overwrite-length}
use Rattle.records.specs.{declared.settings.Settings.Settings, declared.state.State.State, Lent.Lists, Lent.Rooms, Lent.rooms, Lent.row_places, State.fresh_state}
use Rattle.engine.specs.{Boxes.NotFull, Record.held_rows, Run.Run, Run.run_over}
use Rattle.runs.specs.{OtherBooks.Emptied, Restart.Restarted, Restart.restart, Laws.TwoRuns.fresh_sound, Laws.TwoRuns.run_sound}
use Rattle.images.specs.{Layout.window_of, Layout.image_of, Reading.state_in, Reading.window_in}
use Rattle.restart.specs.{Boxes.Storable, RoundTrip.restored_of, RoundTrip.state_comes_back, Window.WholeWindow, Window.window_whole}
use Rattle.restart.specs.{Window.window_comes_back}

-- the box that a restore of its image leaves, over any row room, and any equity and trade rooms
abbrev pub state_again : Settings → State → Rooms → State
state_again s t m = state_in (image_of s t m.rows)

abbrev pub rooms_again : Settings → State → Rooms → List ℕ → List ℕ → List ℕ → Rooms
rooms_again s t m rows equity trades = rooms (overwrite rows 0 (window_in (image_of s t m.rows))) equity trades

module _ (s : Settings) (t : State) (m : Rooms) (rows equity trades : List ℕ) (held : t.counts.rows_held ≤ row_places s.slots m.rows)
    (kept : Storable s t m) (place : s.depth ≤ row_places s.slots rows) where
  W : List ℕ
  W = window_of s t m.rows

  whole : WholeWindow s t m.rows
  whole = window_whole s t m.rows held

  state_is : state_again s t m ≡ restored_of s t m.rows
  state_is = state_comes_back s t m.rows kept.small (omega (arith, whole.few, kept.depth))

  rooms_are : rooms_again s t m rows equity trades ≡ rooms (overwrite rows 0 W) equity trades
  unfolding W
  rooms_are = rw (window_comes_back s t m.rows held kept.slots kept.depth kept.words)

  fits : length W ≤ length rows
  unfolding W
  fits =
      let few = records_fit (length rows) (row_words s.slots) (omega arith) (length W / row_words s.slots) (omega (arith, whole.few)) in
      omega (arith, whole.words, few)

  -- the rows that the restored state counts are the window
  rows_are : held_rows s.slots (length W / row_words s.slots) (overwrite rows 0 W) ≡ W
  unfolding held_rows W
  rows_are =
      rw (← whole.words, overwrite_fits rows 0 W (rw (zero-add (length W)) fits)) (take_at W (drop (0 + length W) rows) (length W) refl)

  -- A RESTORE OF A WHOLE IMAGE is a box that was started again.
  pub image_restarts : Restarted s t m (state_again s t m) (rooms_again s t m rows equity trades)
  unfolding restored_of window_of W
  image_restarts =
      rw (state_is, rooms_are)
      (record {
        account = refl;
        rows = rows_are;
        held = whole.held;
        places = rw (overwrite-length rows 0 W) (omega (arith, whole.few));
        depth = rw (overwrite-length rows 0 W) place;
        points = refl;
        trades = refl;
      })

-- REQUEST 11, THE RESTART: after any bars `before` from a fresh state, over any `bars` from then on, as long as neither run is refused with 14: what the
-- unbroken run holds is what was held at the dump, and then what the run from the restored image holds.
pub restart_from_image : (s : Settings) (ls : Lists) (m : Rooms) (before bars : List (List ℕ)) (rows equity trades : List ℕ)
    → s.depth ≤ row_places s.slots m.rows → s.depth ≤ row_places s.slots rows
    → let b = run_over s ls (fresh_state s) m before in
    Storable s b.state b.rooms
    → let u = run_over s ls b.state b.rooms bars in
    let e = run_over s ls (state_again s b.state b.rooms) (rooms_again s b.state b.rooms rows equity trades) bars in
    NotFull u.verdict → NotFull e.verdict → Emptied s b.state b.rooms u e
restart_from_image s ls m before bars rows equity trades deep place kept free free' =
    let b : Run = run_over s ls (fresh_state s) m before in
    let sound = run_sound s ls before (fresh_state s) m (fresh_sound s m deep) in
    restart s ls m before bars _ _ deep (image_restarts s b.state b.rooms rows equity trades sound.within.rows kept place) free free'
