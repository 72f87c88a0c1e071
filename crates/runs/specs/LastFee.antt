-- Request 7. "the closing fee at finish reaches the trade but not the equity": after a finish nothing is missing any more, and a second
-- finish changes nothing.
use Rattle.std.specs.Prelude.{ℕ, ◌+◌, ◌-◌, ◌*◌, ◌≤◌, ◌<◌, ◌≡◌, refl, Bool, true, false, ◌&&◌, List, [], ◌∷◌, ◌++◌, ltb, leb, length, take, drop, get_or, Err, None, Ok}
use Rattle.words.specs.Prelude.{◌∙◌, append_assoc, le_of_lt, arith}
use Rattle.words.specs.Prelude.{ltb-false, lt-ltb, le-leb, length-take-le, get_or-append-add, get_or-set_same}
use Rattle.words.specs.{Words.overwrite, Laws.Overwrite.overwrite_fits, Laws.Overwrite.overwrite-length}
use Rattle.floats.specs.{Floats.word_of}
use Rattle.portfolio.specs.{Portfolio.fresh, Portfolio.in_position, Portfolio.equity}
use Rattle.metrics.specs.{declared.Metrics.Metrics, Figures.metrics_of, Records.equity_of, Records.pnls_of}
use Rattle.records.specs.{declared.settings.Settings.Settings, declared.state.State.State, Lent.Lists, Lent.Rooms, Lent.row_places, Lent.point_places}
use Rattle.records.specs.{Lent.trade_places, State.fresh_state}
use Rattle.refusals.specs.{Judgement.finish_lines, Judgement.finish_judged, Lines.judged, Laws.Lines.and_true, Laws.Lines.first_holds, Laws.Lines.below_fine}
use Rattle.refusals.specs.{Laws.Lines.both_fine, Rooms.room_lines, Rooms.state_lines, Rooms.to_close, Rooms.close_lines, Settings.setting_lines}
use Rattle.engine.specs.{declared.answer.Ended.Ended, Account.leaving, Books.words_of_point, Books.booked}
use Rattle.engine.specs.{Books.marked, Books.held_points, Books.held_trades, Finish.last_exit, Finish.remarked, Finish.end_state, Finish.measured, Finish.ended}
use Rattle.engine.specs.{Finish.concluded, Finish.finish_of, Laws.Lengths.booked_fits, Laws.Runs.run_keeps, Laws.Verdict.verdict_fine, Run.Run, Run.run_over}
use Rattle.engine.specs.{Step.With, Step.stepped, Step.step_verdict}
use Rattle.runs.specs.{AsMeant.figures, Laws.Finishes.close_place, Laws.LastPoint.remarked-length, Laws.OneTrade.closed_is_flat, Laws.OneTrade.books}
use Rattle.std.specs.Float.Ieee as Ieee
use Rattle.words.specs.Limits as Limits
use Rattle.floats.specs.Floats as Floats
use Rattle.engine.specs.{Ended.at_end}
use Rattle.refusals.specs.{Lines.Verdict}

-- what a finish that is not refused gives
finish_gives : (v : Verdict) (t : State) (m : Rooms) (done : With Ended) (u : State) (f : Metrics) → (concluded v t m done).result ≡ at_end u f
    → (v ≡ Ok tt) × (u ≡ done.result.state) × (f ≡ done.result.metrics) × ((concluded v t m done).rooms ≡ done.rooms)
unfolding concluded
finish_gives (Err why) t m done u f e = absurd (let z : ◌≡◌ {A = ℕ} 0 1 = cc in omega arith)
finish_gives (Ok _) t m done u f e = (refl, cc, cc, refl)

-- ---- nothing is missing

-- the word of the last point's equity
abbrev pub last_equity : State → Rooms → ℕ
last_equity t m = get_or m.equity ((t.counts.equity_points - 1) * Limits.point_words + 1) 0

-- the last point is what the account is worth at the last close
abbrev pub LastWorth : State → Rooms → Type 0
LastWorth t m = 0 < t.counts.equity_points → last_equity t m ≡ word_of (equity t.position.portfolio t.last.close)

-- what a run from a fresh state has at each bar
record WorthMarked (t : State) (m : Rooms) : Type 0 where
  places : t.counts.equity_points ≤ point_places m.equity
  worth : LastWorth t m
  unseen : t.counts.bars_seen ≡ 0 → in_position t.position.portfolio ≡ false

fresh-marked : (s : Settings) (m : Rooms) → WorthMarked (fresh_state s) m
unfolding fresh_state fresh in_position Floats.abs Ieee.lt Ieee.of_bits
fresh-marked s m = record { places = omega arith; worth = λ h. absurd (omega arith); unseen = λ h. refl }

-- the second word of a point just written
second_word : (room : List ℕ) (n a b : ℕ) → n < point_places room → get_or (overwrite room (n * Limits.point_words) (a ∷ b ∷ [])) (n * Limits.point_words + 1) 0 ≡ b
second_word room n a b h =
    let at : ℕ = n * Limits.point_words in
    let long : length (take at room) ≡ at = length-take-le at room (omega arith) in
    rw (overwrite_fits room at (a ∷ b ∷ []) (omega arith), append_assoc (take at room) (a ∷ b ∷ []) (drop (at + 2) room))
    (rw long at (get_or-append-add (take at room) ((a ∷ b ∷ []) ++ drop (at + 2) room) 1 0))

-- the step marks what the account is worth
step_marked : (s : Settings) (ls : Lists) (t : State) (m : Rooms) (bar : List ℕ) → step_verdict s t bar m ls ≡ Ok tt
    → WorthMarked (stepped s t bar m ls).result (stepped s t bar m ls).rooms
unfolding stepped marked words_of_point
step_marked s ls t m bar fine =
    let n : ℕ = t.counts.equity_points in
    let place = (verdict_fine s t bar m ls fine).points in
    let back : n + 1 - 1 ≡ n = omega arith in
    rw (lt-ltb n (point_places m.equity) place)
    (record {
      places = rw overwrite-length (omega arith);
      worth = λ h. rw back (second_word m.equity n _ _ place);
      unseen = λ h. absurd (omega arith);
    })

-- where finish closes the position, the account is flat
closed_flat : (s : Settings) (t : State) → to_close t ≡ true → in_position (leaving t.position (last_exit s t)).portfolio ≡ false
unfolding last_exit leaving
closed_flat s t e = rw e (closed_is_flat _ _ _ _ _)

closed_never : (s : Settings) (t : State) → to_close t ≡ true → (leaving t.position (last_exit s t)).entered ≡ None
unfolding last_exit leaving
closed_never s t e = rw e

-- and its worth is in the last point
closed_worth : (s : Settings) (t : State) (m : Rooms) → t.counts.equity_points ≤ point_places m.equity → to_close t ≡ true
    → LastWorth (ended s t m).result.state (ended s t m).rooms
unfolding ended end_state last_exit leaving remarked
closed_worth s t m places e h = rw (e, lt-ltb 0 _ h) (get_or-set_same m.equity _ _ 0 (omega arith))

-- where it closes none, there is no exit
not_closing : (s : Settings) (t : State) → to_close t ≡ false → last_exit s t ≡ None
unfolding last_exit
not_closing s t e = rw e

-- a finish that closes nothing changes nothing
unclosed : (s : Settings) (t : State) (m : Rooms) → to_close t ≡ false
    → ended s t m
    ≡ record { result = record { state = t; metrics = measured s m.equity t.counts.equity_points m.trades t.counts.trades }; rooms = m }
unfolding ended end_state booked remarked leaving
unclosed s t m h = rw (not_closing s t h)

-- and none was open
unopened : (t : State) (m : Rooms) → WorthMarked t m → to_close t ≡ false → in_position t.position.portfolio ≡ false
unfolding to_close
unopened t m h e = go (in_position t.position.portfolio) (ltb 0 t.counts.bars_seen) refl refl e
  where
    go : (a b : Bool) → in_position t.position.portfolio ≡ a → ltb 0 t.counts.bars_seen ≡ b → (a && b) ≡ false
        → in_position t.position.portfolio ≡ false
    go false b ea eb n = ea
    go true false ea eb n = h.unseen (omega (arith, ltb-false 0 t.counts.bars_seen eb))
    go true true ea eb n = absurd (let z : ◌≡◌ {A = ℕ} 0 1 = cc in omega arith)

-- a finish of such a box
end_flat : (s : Settings) (t : State) (m : Rooms) → WorthMarked t m → in_position (ended s t m).result.state.position.portfolio ≡ false
end_flat s t m h = go (to_close t) refl
  where
    go : (b : Bool) → to_close t ≡ b → in_position (ended s t m).result.state.position.portfolio ≡ false
    go true e = unfold ended end_state in closed_flat s t e
    go false e = rw (unclosed s t m e) (unopened t m h e)

end_worth : (s : Settings) (t : State) (m : Rooms) → WorthMarked t m → LastWorth (ended s t m).result.state (ended s t m).rooms
end_worth s t m h = go (to_close t) refl
  where
    go : (b : Bool) → to_close t ≡ b → LastWorth (ended s t m).result.state (ended s t m).rooms
    go true e = closed_worth s t m h.places e
    go false e = rw (unclosed s t m e) h.worth

-- What a finish leaves: nothing open, a last point that is what the account is worth at the last close, and the figures of what is held.
pub record Settled (s : Settings) (u : State) (n : Rooms) (f : Metrics) : Type 0 where
  pub flat : in_position u.position.portfolio ≡ false
  pub worth : LastWorth u n
  pub figures : f ≡ metrics_of s.capital (equity_of (held_points u n)) (pnls_of (held_trades u n))

-- NOTHING IS MISSING: of any run from a fresh state that is finished, the last equity point, where there is one, is the account's equity at
-- the last close with nothing open; and the figures are of these points. So return, drawdown and ratios count every fee.
pub nothing_missing : (s : Settings) (ls : Lists) (m : Rooms) (bars : List (List ℕ)) (u : State) (f : Metrics)
    → let r = run_over s ls (fresh_state s) m bars in
    let d = finish_of s r.state r.rooms in
    d.result ≡ at_end u f → Settled s u d.rooms f
unfolding finish_of
nothing_missing s ls m bars u f e =
    let r : Run = run_over s ls (fresh_state s) m bars in
    let d = finish_gives (finish_judged s r.state r.rooms) r.state r.rooms (ended s r.state r.rooms) u f e in
    let marked = run_keeps s ls WorthMarked (λ t m bar h p. step_marked s ls t m bar h) bars (fresh_state s) m (fresh-marked s m) in
    rw (d.1, d.2, d.3) (record {
      flat = end_flat s r.state r.rooms marked;
      worth = end_worth s r.state r.rooms marked;
      figures = figures s r.state r.rooms;
    })

-- ---- a second finish

module _ (s : Settings) (t : State) (m : Rooms) where
  -- after a finish nothing is to be closed
  none_to_close : to_close (ended s t m).result.state ≡ false
  none_to_close = go (to_close t) refl
    where
      go : (b : Bool) → to_close t ≡ b → to_close (ended s t m).result.state ≡ false
      go true h = unfold ended end_state to_close in rw (closed_flat s t h)
      go false h = rw (unclosed s t m h) h

  ended_again : ended s (ended s t m).result.state (ended s t m).rooms ≡ ended s t m
  ended_again = unclosed s _ _ none_to_close ∙ (unfold ended end_state in refl)

-- what a fine state counts, but for its trades, is below the limit and in its rooms
counts_fine_lem : (s : Settings) (t : State) (m : Rooms) → judged (state_lines s t m) ≡ Ok tt
    → ((leb t.counts.bars_seen Limits.most_count && leb t.counts.rows_held Limits.most_count
    && leb t.counts.equity_points Limits.most_count) ≡ true)
    × ((leb t.counts.rows_held (row_places s.slots m.rows) && leb t.counts.equity_points (point_places m.equity)) ≡ true)
unfolding state_lines
counts_fine_lem s t m h = let first = first_holds _ _ h in ((and_true _ _ first.0).0, (and_true _ _ (first_holds _ _ first.1).0).0)

-- a state that has lost its position, and has a place for its trades, is as fine as the one before
state_again : (s : Settings) (t u : State) (m n : Rooms) → judged (state_lines s t m) ≡ Ok tt
    → u.counts.bars_seen ≡ t.counts.bars_seen → u.counts.rows_held ≡ t.counts.rows_held
    → u.counts.equity_points ≡ t.counts.equity_points → u.counts.trades ≤ Limits.most_count → u.counts.trades ≤ trade_places n.trades
    → n.rows ≡ m.rows → point_places n.equity ≡ point_places m.equity → u.position.entered ≡ None
    → judged (state_lines s u n) ≡ Ok tt
state_again s t u m n h seen held points few place rows same never =
    let fine = counts_fine_lem s t m h in
    unfold state_lines judged in
    rw (
      seen,
      held,
      points,
      fine.0,
      le-leb u.counts.trades Limits.most_count few,
      rows,
      same,
      fine.1,
      le-leb u.counts.trades (trade_places n.trades) place,
      never,
    )

closed_again : (s : Settings) (t : State) (m : Rooms) → finish_judged s t m ≡ Ok tt → t.counts.trades < Limits.most_count → to_close t ≡ true
    → finish_judged s (ended s t m).result.state (ended s t m).rooms ≡ Ok tt
unfolding finish_judged finish_lines close_lines ended end_state
closed_again s t m fine few closes =
    let rooms = both_fine (room_lines s m.rows) _ fine in
    let settings = both_fine (setting_lines s) _ rooms.1 in
    let state = both_fine (state_lines s t m) _ settings.1 in
    let b = booked_fits m.trades t.counts.trades (last_exit s t) (le_of_lt (close_place s t m fine closes)) in
    let u : State = (ended s t m).result.state in
    let n : Rooms = (ended s t m).rooms in
    below_fine (room_lines s m.rows) _ rooms.0
    ∙ below_fine (setting_lines s) _ settings.0
    ∙ below_fine (state_lines s u n) (close_lines u n.trades)
    (state_again s t u m n state.0 refl refl refl (omega (arith, books m.trades t.counts.trades (last_exit s t))) (rw b.0 b.1) refl
    (rw (remarked-length m.equity t.counts.equity_points t.last.close (last_exit s t))) (closed_never s t closes))
    ∙ (unfold judged in rw (none_to_close s t m))

judged_again : (s : Settings) (t : State) (m : Rooms) → finish_judged s t m ≡ Ok tt → t.counts.trades < Limits.most_count
    → finish_judged s (ended s t m).result.state (ended s t m).rooms ≡ Ok tt
judged_again s t m fine few = go (to_close t) refl
  where
    go : (b : Bool) → to_close t ≡ b → finish_judged s (ended s t m).result.state (ended s t m).rooms ≡ Ok tt
    go true h = closed_again s t m fine few h
    go false h = rw (unclosed s t m h) fine

-- A SECOND FINISH changes nothing and gives the same figures, where fewer than 4,294,967,295 trades were counted before the first.
pub finish_twice : (s : Settings) (t : State) (m : Rooms) (u : State) (f : Metrics) → t.counts.trades < Limits.most_count
    → let d = finish_of s t m in
    d.result ≡ at_end u f → finish_of s u d.rooms ≡ record { result = at_end u f; rooms = d.rooms }
unfolding finish_of
finish_twice s t m u f few e =
    let d = finish_gives (finish_judged s t m) t m (ended s t m) u f e in
    rw (d.1, d.2, d.3) (unfold concluded in rw (judged_again s t m d.0 few, ended_again s t m))
