-- The books after a bar are the books before it, its point and its trades at their end, whatever stale words lie behind.
use Rattle.std.specs.Prelude.{ℕ, ◌+◌, ◌-◌, ◌*◌, ◌/◌, ◌≤◌, ◌<◌, ◌≡◌, refl, List, [], ◌∷◌, ◌++◌, length, take, drop, None, Option, Some}
use Rattle.words.specs.Prelude.{flat_map}
use Rattle.words.specs.Prelude.{sym, ◌∙◌, append-nil, append_assoc, le-div_iff_mul-le}
use Rattle.words.specs.Prelude.{suc-mul, add-one, arith, lt-ltb, le-ltb, length-append, take-append-drop, length-take-le, take_at, drop_at}
use Rattle.words.specs.Prelude.{drop-drop}
use Rattle.words.specs.{Words.overwrite, Laws.Overwrite.overwrite_fits}
use Rattle.portfolio.specs.{declared.Candle.Candle, declared.Closed.Closed, declared.Trade.Trade, Trade.words_of_trade}
use Rattle.records.specs.{declared.settings.Settings.Settings, declared.state.Position.Position, declared.state.State.State, Lent.Lists, Lent.Rooms}
use Rattle.records.specs.{Lent.point_places, Lent.trade_places}
use Rattle.engine.specs.{Books.Point, Books.point_of, Books.words_of_point, Books.trades_of, Books.Held, Books.booked, Books.marked, Books.held_points}
use Rattle.engine.specs.{Books.held_trades, Boxes.Grown, Step.stepped, Whole.Asked, Whole.account_of, Whole.rows_held, Whole.taken, Whole.taken_by}
use Rattle.runs.specs.{Laws.OneTrade.one_exit}
use Rattle.words.specs.Limits as Limits

-- ---- growth after growth

pub flat_append : {A : Type 0} (f : A → List ℕ) (xs ys : List A) → flat_map f (xs ++ ys) ≡ flat_map f xs ++ flat_map f ys
unfolding flat_map
flat_append f [] ys = refl
flat_append f (x ∷ xs) ys = rw (flat_append f xs ys, append_assoc)

pub grown_none : (t : State) (m : Rooms) → Grown t m t m [] []
unfolding flat_map
grown_none t m = record {
  points = omega arith;
  trades = omega arith;
  equity = sym (append-nil _);
  closed = sym (append-nil _);
  behind_points = refl;
  behind_trades = refl;
}

-- what is the same behind i is so behind a later j
behind : (i j : ℕ) (room room' : List ℕ) → i ≤ j → drop i room ≡ drop i room' → drop j room ≡ drop j room'
behind i j room room' h e =
    let sum : i + (j - i) ≡ j = omega arith in
    rw (← sum, ← (drop-drop (j - i) i room), ← (drop-drop (j - i) i room'), e)

pub grown_more : {t u w : State} {m n o : Rooms} {ps qs : List Point} {xs ys : List Trade} → Grown t m u n ps xs → Grown u n w o qs ys
    → Grown t m w o (ps ++ qs) (xs ++ ys)
grown_more {u = u} {w = w} {m = m} {n = n} {ps = ps} {qs = qs} {xs = xs} {ys = ys} a b = record {
  points = omega (arith, a.points, b.points, length-append ps qs);
  trades = omega (arith, a.trades, b.trades, length-append xs ys);
  equity = rw (b.equity, a.equity, flat_append words_of_point ps qs, append_assoc);
  closed = rw (b.closed, a.closed, flat_append words_of_trade xs ys, append_assoc);
  behind_points =
      b.behind_points
      ∙ behind (u.counts.equity_points * Limits.point_words) (w.counts.equity_points * Limits.point_words) n.equity m.equity
      (omega (arith, b.points)) a.behind_points;
  behind_trades =
      b.behind_trades
      ∙ behind (u.counts.trades * Limits.trade_words) (w.counts.trades * Limits.trade_words) n.trades m.trades
      (omega (arith, b.trades)) a.behind_trades;
}

-- rooms that are the same before a place and behind it are the same
pub same_room : (i j : ℕ) (room room' : List ℕ) → take i room ≡ take j room' → drop i room ≡ drop j room' → room ≡ room'
same_room i j room room' held rest = sym (take-append-drop i room) ∙ rw (held, rest) (take-append-drop j room')

-- ---- a record

-- a record that is written just past the n that a room holds is held after them, and what lies behind is untouched
written_last : (w n : ℕ) (room words : List ℕ) → 0 < w → length words ≡ w → n < length room / w
    → (take ((n + 1) * w) (overwrite room (n * w) words) ≡ take (n * w) room ++ words)
    × (drop ((n + 1) * w) (overwrite room (n * w) words) ≡ drop ((n + 1) * w) room)
written_last w n room words some long place =
    let end : (n + 1) * w ≡ n * w + w = rw (add-one, suc-mul) in
    let fits : (n + 1) * w ≤ length room = (le-div_iff_mul-le {k = w} some).0 (omega arith) in
    let old : length (take (n * w) room) ≡ n * w = length-take-le (n * w) room (omega arith) in
    let both : length (take (n * w) room ++ words) ≡ (n + 1) * w = omega (arith, length-append (take (n * w) room) words) in
    let at : n * w + length words ≡ (n + 1) * w = omega arith in
    rw (overwrite_fits room (n * w) words (omega arith)) (
      take_at (take (n * w) room ++ words) (drop (n * w + length words) room) ((n + 1) * w) both,
      drop_at (take (n * w) room ++ words) (drop (n * w + length words) room) ((n + 1) * w) both ∙ rw at,
    )

-- ---- a trade, a point

-- a room that held n holds count after it, with these words at the end, and is untouched behind
abbrev pub Added : ℕ → List ℕ → ℕ → Held → ℕ → List ℕ → Type 0
Added w room n h more words =
    (h.count ≡ n + more) × (take (h.count * w) h.room ≡ take (n * w) room ++ words) × (drop (h.count * w) h.room ≡ drop (h.count * w) room)

-- no trade
pub none_added : (room : List ℕ) (n : ℕ)
    → Added Limits.trade_words room n (booked room n None) (length (trades_of None)) (flat_map words_of_trade (trades_of None))
unfolding booked trades_of flat_map
none_added room n = (omega arith, sym (append-nil _), refl)

-- a trade, where there is one and a place for it
pub trade_booked : (room : List ℕ) (n : ℕ) (x : Option Closed) → n < trade_places room
    → Added Limits.trade_words room n (booked room n x) (length (trades_of x)) (flat_map words_of_trade (trades_of x))
unfolding booked trades_of flat_map
trade_booked room n None h = none_added room n
trade_booked room n (Some c) h =
    let w = written_last Limits.trade_words n room (words_of_trade c.trade) (omega arith) (unfold words_of_trade in refl) h in
    rw (lt-ltb n (trade_places room) h, append-nil) (refl, w.0, w.1)

-- where there is no place, nothing is booked
pub none_booked : (room : List ℕ) (n : ℕ) (x : Option Closed) → trade_places room ≤ n → booked room n x ≡ record { count = n; room = room }
unfolding booked
none_booked room n None h = refl
none_booked room n (Some c) h = rw (le-ltb n (trade_places room) h)

-- two exits of which the second comes only where the first did not
two_booked : (room : List ℕ) (n : ℕ) (x y : Option Closed) → ((c : Closed) → x ≡ Some c → y ≡ None) → n < trade_places room
    → let first = booked room n x in
    let second = booked first.room first.count y in
    Added Limits.trade_words room n second (length (trades_of x ++ trades_of y)) (flat_map words_of_trade (trades_of x ++ trades_of y))
unfolding booked trades_of
two_booked room n None y only h = trade_booked room n y h
two_booked room n (Some c) y only h = rw (only c refl) (trade_booked room n (Some c) h)

-- a point, where there is a place for it
point_marked : (room : List ℕ) (n : ℕ) (k : Candle) (p : Position) → n < point_places room
    → Added Limits.point_words room n (marked room n k p) 1 (flat_map words_of_point (point_of k p ∷ []))
unfolding marked flat_map
point_marked room n k p h =
    let w = written_last Limits.point_words n room (words_of_point (point_of k p)) (omega arith) (unfold words_of_point in refl) h in
    rw (lt-ltb n (point_places room) h, append-nil) (refl, w.0, w.1)

-- THE BOOKS of a step for which there is a place. How the rules are asked does not matter.
pub books_grow : (s : Settings) (asked : Asked) (t : State) (bar : List ℕ) (m : Rooms) (ls : Lists)
    → t.counts.equity_points < point_places m.equity → t.counts.trades < trade_places m.trades
    → let after = stepped s t bar m ls in
    let b = taken s asked (account_of t) (rows_held s t m) bar in
    Grown t m after.result after.rooms (b.point ∷ []) b.trades
unfolding stepped taken_by held_points held_trades
books_grow s asked t bar m ls p q =
    let point = point_marked m.equity t.counts.equity_points _ _ p in
    let trades = two_booked m.trades t.counts.trades _ _ (one_exit s t.order t.position _ _ t.counts.bars_seen) q in
    record { points = point.0; trades = trades.0; equity = point.1; closed = trades.1; behind_points = point.2; behind_trades = trades.2 }
