-- Where a row goes in a room that holds some: a place is left, or the rows move up, or it goes over the oldest. No number is divided: the rows
-- held are no more than there are places, so one more fits or all places are taken.
use Rattle.words.specs.Prelude.{ℕ, ◌+◌, ◌-◌, ◌*◌, ◌/◌, ◌<◌, ◌≤◌, ◌≡◌, refl, sym, ◌∙◌, List, ◌++◌, append_assoc, div-lt_iff_lt-mul}
use Rattle.words.specs.Prelude.{le-div_iff_mul-le, mul-le-mul_right, arith, lt-ltb, le-ltb, lt-leb, length, take, drop, length-append, length-take, length-drop}
use Rattle.words.specs.Prelude.{drop-drop}
use Rattle.words.specs.{Words.overwrite, Words.shifted, Laws.Overwrite.overwrite_fits, Laws.Overwrite.shifted_fits, Laws.Records.records_fit}
use Rattle.words.specs.{Laws.Records.record_ends}
use Rattle.rows.specs.{declared.ring.Ring.Ring, Laws.Ring.RingFine, Ring.ring_with, Ring.ring_after, Ring.next_start, Room.places_for, Room.with_row, Room.held_with}
use Rattle.rows.specs.{Laws.Added.moved_up}
use Rattle.engine.specs.{declared.record.Place.Place, InPlace.kept_ring, InPlace.kept_room, InPlace.row_placed, InPlace.PlaceFor}
use Rattle.refusals.specs.{declared.day.Span.Span, declared.day.Span.TheVariants.One, declared.day.Span.TheVariants.Many}

module _ (room : List ℕ) (before : Ring) (w : ℕ) (some : 0 < w) (ok : RingFine (length room / w) before) where
  -- the rows held end by the room's end
  pub held_ends : before.held * w ≤ length room
  held_ends = records_fit (length room) w some before.held ok.few

  -- and so does the oldest of them
  pub oldest_ends : before.start * w + w ≤ length room
  oldest_ends = record_ends (length room) w some before.start ok.within

  -- one more fits: there is a place
  free : w ≤ length room - before.held * w → before.held < length room / w
  free h =
      let more : (before.held + 1) * w ≤ length room = omega (arith, held_ends) in
      let l : before.held + 1 ≤ length room / w = (le-div_iff_mul-le {k = w} some).1 more in
      omega arith

  -- none more fits: all are taken
  pub full : length room - before.held * w < w → length room / w ≡ before.held
  full h =
      let less : length room < (before.held + 1) * w = omega (arith, held_ends) in
      let l : length room / w < before.held + 1 = (div-lt_iff_lt-mul {k = w} some).1 less in
      omega (arith, ok.few)

  -- a full room has a row
  pub some_held : length room - before.held * w < w → w ≤ before.held * w
  some_held h = let l : 1 * w ≤ before.held * w = mul-le-mul_right w (omega (arith, full h, ok.within)) in omega arith

-- where none move up the room stands
unmoved : (room : List ℕ) (w : ℕ) → 0 < w → shifted room w 0 ≡ room
unfolding shifted
unmoved room w some = simp (lt-leb w 0 some)

-- a room whose rows move up is as long as it was
moved_length : (room : List ℕ) (w end : ℕ) → w ≤ end → end ≤ length room → length (shifted room w end) ≡ length room
moved_length room w end h k = rw (shifted_fits room w end h k) (simp (length-append, length-drop, length-take) (omega arith))

module _ (room : List ℕ) (before : Ring) (w : ℕ) (some : 0 < w) (ok : RingFine (length room / w) before) where
  -- A PLACE IS LEFT
  pub behind : (span : Span) → (span ≡ One → before.start ≡ 0) → w ≤ length room - before.held * w
      → PlaceFor span w room before (record { at = before.held * w; moved = 0; ring = record { held = before.held + 1; start = before.start } })
  unfolding row_placed
  behind span first h = record { fits = ends; ring = λ row e. ringed span first row e; added = λ row e. written span row e }
    where
      place : before.held < length room / w
      place = free room before w some ok h

      ends : before.held * w + w ≤ length room
      ends = record_ends (length room) w some before.held place

      ringed : (span : Span) → (span ≡ One → before.start ≡ 0) → (row : List ℕ) → length row ≡ w
          → ◌≡◌ {A = Ring} (record { held = before.held + 1; start = before.start }) (kept_ring span room before row)
      ringed One first row e = unfold kept_ring held_with in rw (e, lt-ltb before.held (length room / w) place, first refl)
      ringed Many first row e = unfold kept_ring ring_after in rw (e, lt-ltb before.held (length room / w) place)

      written : (span : Span) (row : List ℕ) → length row ≡ w → overwrite (shifted room (length row) 0) (before.held * w) row ≡ kept_room span room before row
      written One row e =
          unfold kept_room with_row in
          rw (e, unmoved room w some, lt-ltb before.held (length room / w) place) (rw e at (overwrite_fits room (before.held * w) row (rw e ends)))
      written Many row e = unfold kept_room ring_with in rw (e, unmoved room w some, lt-ltb before.held (length room / w) place)

  -- THE ROWS MOVE UP
  pub behind_moved : length room - before.held * w < w
      → PlaceFor One w room before (record { at = before.held * w - w; moved = before.held * w; ring = record { held = before.held; start = 0 } })
  unfolding row_placed kept_room
  behind_moved h = record { fits = omega (arith, ends, hold); ring = λ row e. ringed row e; added = λ row e. written row e }
    where
      all : length room / w ≡ before.held
      all = full room before w some ok h

      ends : before.held * w ≤ length room
      ends = held_ends room before w some ok

      hold : w ≤ before.held * w
      hold = some_held room before w some ok h

      ringed : (row : List ℕ) → length row ≡ w → ◌≡◌ {A = Ring} (record { held = before.held; start = 0 }) (kept_ring One room before row)
      ringed row e = unfold kept_ring held_with in rw (e, all, le-ltb before.held before.held (omega arith))

      written : (row : List ℕ) → length row ≡ w
          → overwrite (shifted room (length row) (before.held * w)) (before.held * w - w) row ≡ kept_room One room before row
      written row e =
          let places : places_for room row ≡ before.held = rw (e, all) in
          let moved : List ℕ = shifted room (length row) (before.held * w) in
          let is = moved_up room before.held row (omega (arith, e)) (omega (arith, places)) (λ z. omega (arith, ok.within, all, places))
          moved (overwrite moved (before.held * w - w) row) (rw e (moved_length room w (before.held * w) hold ends)) (rw (places, e)) (rw (places, e)) in
          is.1

  -- IT GOES OVER THE OLDEST
  pub over_oldest : length room - before.held * w < w → (next : ℕ) → next ≡ next_start before.held before.start
      → PlaceFor Many w room before (record { at = before.start * w; moved = 0; ring = record { held = before.held; start = next } })
  unfolding row_placed
  over_oldest h next n = record { fits = oldest_ends room before w some ok; ring = λ row e. ringed row e; added = λ row e. written row e }
    where
      all : length room / w ≡ before.held
      all = full room before w some ok h

      ringed : (row : List ℕ) → length row ≡ w → ◌≡◌ {A = Ring} (record { held = before.held; start = next }) (kept_ring Many room before row)
      ringed row e = unfold kept_ring ring_after in rw (e, all, le-ltb before.held before.held (omega arith), n)

      written : (row : List ℕ) → length row ≡ w → overwrite (shifted room (length row) 0) (before.start * w) row ≡ kept_room Many room before row
      written row e =
          unfold kept_room ring_with in
          rw (e, unmoved room w some, all, le-ltb before.held before.held (omega arith), lt-ltb before.start before.held (rw all at ok.within))

-- the row after the oldest
pub next_row : (held start : ℕ) → start < held - 1 → start + 1 ≡ next_start held start
unfolding next_start
next_row held start h = rw (lt-ltb (start + 1) held (omega arith))

-- and after the last the first
pub next_first : (held start : ℕ) → held - 1 ≤ start → 0 ≡ next_start held start
unfolding next_start
next_first held start h = rw (le-ltb (start + 1) held (omega arith))

-- THE ROW WRITTEN THERE, all else standing
pub written : (room : List ℕ) (w : ℕ) (p : Place) (row : List ℕ) → length row ≡ w → {moved new : List ℕ} → moved ≡ shifted room w p.moved
    → p.at + w ≤ length moved → new ≡ row → take p.at moved ++ (new ++ drop (p.at + w - p.at) (drop p.at moved)) ≡ row_placed room p row
unfolding row_placed
written room w p row e {moved} up fits is =
    let wide : p.at + w - p.at ≡ w = omega arith in
    let put : overwrite moved p.at row ≡ (take p.at moved ++ row) ++ drop (p.at + w) moved = rw e at (overwrite_fits moved p.at row (rw e fits)) in
    rw (is, wide, drop-drop w p.at moved, e, ← up) (sym (append_assoc (take p.at moved) row (drop (p.at + w) moved)) ∙ sym put)
