-- THE LIVES OF A BOX. A box lives from one loss of its supply to the next: it takes bars, is dumped, and is restored over rooms that it is lent then.
-- Definitions only.
use Rattle.std.specs.Prelude.{ℕ, ◌+◌, ◌≤◌, ◌≡◌, List, [], ◌∷◌, ◌++◌, Ok}
use Rattle.words.specs.{Words.overwrite}
use Rattle.records.specs.{declared.settings.Settings.Settings, declared.state.State.State, Lent.Lists, Lent.Rooms, Lent.rooms, Lent.row_places}
use Rattle.engine.specs.{Books.held_points, Books.held_trades, Boxes.Alike, Boxes.Sound, Run.Run, Run.run_over, Whole.account_of}
use Rattle.images.specs.{Layout.image_of, Reading.state_in, Reading.window_in}

-- a life: its bars, the bytes that the restore after it is lent, and the rooms that the box is lent from then on
pub record Life : Type 0 where
  pub bars : List (List ℕ)
  pub image : List ℕ
  pub rows : List ℕ
  pub equity : List ℕ
  pub trades : List ℕ

-- the box that the restore after a life leaves
abbrev pub restored_state : Life → State
restored_state l = state_in l.image

abbrev pub restored_rooms : Life → Rooms
restored_rooms l = rooms (overwrite l.rows 0 (window_in l.image)) l.equity l.trades

-- and after the last of them
unfoldable pub last_state : State → List Life → State
last_state t [] = t
last_state t (l ∷ lives) = last_state (restored_state l) lives

unfoldable pub last_rooms : Rooms → List Life → Rooms
last_rooms m [] = m
last_rooms m (l ∷ lives) = last_rooms (restored_rooms l) lives

-- the bars of all lives
unfoldable pub all_bars : List Life → List (List ℕ)
all_bars [] = []
all_bars (l ∷ lives) = l.bars ++ all_bars lives

-- what the books of each life held at its end, one life after another
unfoldable pub all_points : Settings → Lists → State → Rooms → List Life → List ℕ
all_points s ls t m [] = []
all_points s ls t m (l ∷ lives) =
    let r = run_over s ls t m l.bars in
    held_points r.state r.rooms ++ all_points s ls (restored_state l) (restored_rooms l) lives

unfoldable pub all_trades : Settings → Lists → State → Rooms → List Life → List ℕ
all_trades s ls t m [] = []
all_trades s ls t m (l ∷ lives) =
    let r = run_over s ls t m l.bars in
    held_trades r.state r.rooms ++ all_trades s ls (restored_state l) (restored_rooms l) lives

-- A life that begins with the box (t, m): it took all of its bars, the restore is lent the whole image of what they came to, and the row room that it
-- is lent has places for D rows.
pub record LifeOf (s : Settings) (ls : Lists) (t : State) (m : Rooms) (l : Life) : Type 0 where
  pub fine : (run_over s ls t m l.bars).verdict ≡ Ok tt
  pub image : l.image ≡ image_of s (run_over s ls t m l.bars).state (run_over s ls t m l.bars).rooms.rows
  pub place : s.depth ≤ row_places s.slots l.rows

-- lives, one after another
unfoldable pub LivesOf : Settings → Lists → State → Rooms → List Life → Type 0
LivesOf s ls t m [] = Unit {0}
LivesOf s ls t m (l ∷ lives) = LifeOf s ls t m l × LivesOf s ls (restored_state l) (restored_rooms l) lives

-- The unbroken run u took all of its bars and holds these points and trades; the box (t', m'), whose books are empty, is alike to what u left.
pub record Survived (s : Settings) (u : Run) (t' : State) (m' : Rooms) (points trades : List ℕ) : Type 0 where
  pub fine : u.verdict ≡ Ok tt
  pub alike : Alike s u.state u.rooms t' m'
  pub sound : Sound s t' m'
  pub no_points : t'.counts.equity_points ≡ 0
  pub no_trades : t'.counts.trades ≡ 0
  pub equity : held_points u.state u.rooms ≡ points
  pub closed : held_trades u.state u.rooms ≡ trades

-- The run e, of the life that is under way, and the unbroken run u, which took `taken` bars before it, end alike; u holds what the lives before held and
-- then what e holds; and a dump of either writes the same image.
pub record SinceLosses (s : Settings) (u e : Run) (taken : ℕ) (points trades : List ℕ) : Type 0 where
  pub done : u.done ≡ taken + e.done
  pub verdict : u.verdict ≡ e.verdict
  pub account : account_of u.state ≡ account_of e.state
  pub sound : Sound s e.state e.rooms
  pub equity : held_points u.state u.rooms ≡ points ++ held_points e.state e.rooms
  pub closed : held_trades u.state u.rooms ≡ trades ++ held_trades e.state e.rooms
  pub image : image_of s u.state u.rooms.rows ≡ image_of s e.state e.rooms.rows
