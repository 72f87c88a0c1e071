-- What is written into a room stays within it: its length is kept, and it holds no more than it has places for.
use Rattle.std.specs.Prelude.{ℕ, zero, suc, ◌+◌, ◌-◌, ◌*◌, ◌/◌, ◌≤◌, ◌<◌, ◌≡◌, refl, Bool, true, false, cond, List, [], ◌∷◌, ◌++◌, length, take, drop, ltb, None, Option, Some}
use Rattle.std.specs.Prelude.{eqb}
use Rattle.words.specs.Prelude.{ap, ◌∙◌, le-div_iff_mul-le}
use Rattle.words.specs.Prelude.{suc-mul, le_refl, mul-le-mul_right, arith, ltb-true, eqb-false, length-append, length-drop, length-take-le}
use Rattle.words.specs.{Words.overwrite, Laws.Overwrite.overwrite-length}
use Rattle.rows.specs.{History.width, Room.places_for, Room.with_row, Room.held_with}
use Rattle.portfolio.specs.{declared.Candle.Candle, Trade.words_of_trade}
use Rattle.records.specs.{declared.state.Position.Position, Lent.point_places, Lent.trade_places}
use Rattle.engine.specs.{Books.Held, Books.words_of_point, Books.point_of, Books.booked, Books.marked, Record.listed, Record.row_word, Record.row_of}
use Rattle.words.specs.Limits as Limits
use Rattle.portfolio.specs.{declared.Closed.Closed}

-- ---- lengths

pasted_length : (l w : List ℕ) (at : ℕ) → at + length w ≤ length l → length (take at l ++ w ++ drop (at + length w) l) ≡ length l
pasted_length l w at h =
    let a : length (take at l) ≡ at = length-take-le at l (omega arith) in
    omega (arith, a, length-append (take at l ++ w) (drop (at + length w) l), length-append (take at l) w, length-drop (at + length w) l)

-- the oldest w words go, and the rest move up
shifted_length : (l row : List ℕ) (end : ℕ) → length row ≤ end → end ≤ length l
    → length (drop (length row) (take end l) ++ row ++ drop end l) ≡ length l
shifted_length l row end h k =
    let a : length (take end l) ≡ end = length-take-le end l k in
    let b : length (drop (length row) (take end l)) ≡ end - length row = length-drop (length row) (take end l) ∙ ap (λ (n : ℕ). n - length row) a in
    omega (arith, b, length-append (drop (length row) (take end l) ++ row) (drop end l), length-append (drop (length row) (take end l)) row, length-drop end l)

module _ (room : List ℕ) (held : ℕ) (row : List ℕ) (wide : 0 < length row) where
  -- the places of a room lie within it
  within : (n : ℕ) → n ≤ places_for room row → n * length row ≤ length room
  within n h = (le-div_iff_mul-le {k = length row} wide).0 h

  row_length : length (with_row room held row) ≡ length room
  unfolding with_row
  row_length = go (ltb held (places_for room row)) (eqb (places_for room row) 0) refl refl
    where
      go : (a b : Bool) → ltb held (places_for room row) ≡ a → eqb (places_for room row) 0 ≡ b
          → length (cond a (take (held * length row) room ++ row ++ drop (held * length row + length row) room)
          (cond b room (drop (length row) (take (places_for room row * length row) room) ++ row ++ drop (places_for room row * length row) room)))
          ≡ length room
      go true b e d =
          let f : suc held * length row ≤ length room = within (suc held) (omega (arith, ltb-true held (places_for room row) e)) in
          pasted_length room row (held * length row) (rw (suc-mul held (length row)) at f)
      go false true e d = refl
      go false false e d =
          let f : places_for room row * length row ≤ length room = within (places_for room row) (le_refl _) in
          let p : 1 ≤ places_for room row = omega (arith, eqb-false (places_for room row) 0 d) in
          let g : 1 * length row ≤ places_for room row * length row = mul-le-mul_right (length row) p in
          shifted_length room row (places_for room row * length row) (omega (arith, g)) f

  row_held : held_with room held row ≤ places_for room row
  unfolding held_with
  row_held = go (ltb held (places_for room row)) refl
    where
      go : (b : Bool) → ltb held (places_for room row) ≡ b → cond b (held + 1) (places_for room row) ≤ places_for room row
      go true e = omega (arith, ltb-true held (places_for room row) e)
      go false e = le_refl _

-- n words listed are n
pub listed_long : (n : ℕ) (f : ℕ → ℕ) → length (listed n f) ≡ n
unfolding listed
listed_long zero f = refl
listed_long (suc n) f = length-append (listed n f) (f n ∷ []) ∙ omega (arith, listed_long n f)

-- a row is 7 + K words
pub row_long : (K : ℕ) (bar : List ℕ) → length (row_of K bar) ≡ width K
unfolding row_of
row_long K bar = listed_long (width K) (row_word bar)

-- a bar's row in a room
pub row_fits : (K : ℕ) (room : List ℕ) (held : ℕ) (bar : List ℕ)
    → (held_with room held (row_of K bar) ≤ length room / (width K)) × (length (with_row room held (row_of K bar)) ≡ length room)
row_fits K room held bar =
    let w : length (row_of K bar) ≡ width K = row_long K bar in
    (rw w at (row_held room held (row_of K bar) (omega (arith, w))), row_length room held (row_of K bar) (omega (arith, w)))

-- ---- counts

abbrev Fits : ℕ → Held → List ℕ → Type 0
Fits w h room = (length h.room ≡ length room) × (h.count ≤ length room / w)

pub booked_fits : (room : List ℕ) (n : ℕ) (x : Option Closed) → n ≤ trade_places room → Fits Limits.trade_words (booked room n x) room
unfolding booked
booked_fits room n None h = (refl, h)
booked_fits room n (Some c) h = go (ltb n (trade_places room)) refl
  where
    go : (b : Bool) → ltb n (trade_places room) ≡ b
        → Fits Limits.trade_words
        (cond b (record { count = n + 1; room = overwrite room (n * Limits.trade_words) (words_of_trade c.trade) }) (record { count = n; room = room })) room
    go true e = (overwrite-length room (n * Limits.trade_words) (words_of_trade c.trade), omega (arith, ltb-true n (trade_places room) e))
    go false e = (refl, h)

-- and another after it
pub twice_booked_fits : (room : List ℕ) (n : ℕ) (x y : Option Closed) → n ≤ trade_places room
    → Fits Limits.trade_words (booked (booked room n x).room (booked room n x).count y) room
twice_booked_fits room n x y h =
    let a = booked_fits room n x h in
    let b = booked_fits (booked room n x).room (booked room n x).count y (rw a.0 a.1) in
    (b.0 ∙ a.0, rw a.0 at b.1)

pub marked_fits : (room : List ℕ) (n : ℕ) (k : Candle) (p : Position) → n ≤ point_places room → Fits Limits.point_words (marked room n k p) room
unfolding marked
marked_fits room n k p h = go (ltb n (point_places room)) refl
  where
    point : List ℕ
    point = words_of_point (point_of k p)

    go : (b : Bool) → ltb n (point_places room) ≡ b
        → Fits Limits.point_words
        (cond b (record { count = n + 1; room = overwrite room (n * Limits.point_words) point }) (record { count = n; room = room })) room
    go true e = (overwrite-length room (n * Limits.point_words) point, omega (arith, ltb-true n (point_places room) e))
    go false e = (refl, h)
