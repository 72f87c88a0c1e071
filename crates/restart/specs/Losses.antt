-- ANY NUMBER OF LOSSES: after any number of lives a box is alike to the one that was never without supply, and what its lives held, one after another, is
-- what that box holds.
use Rattle.std.specs.Prelude.{ℕ, ◌≤◌, ◌≡◌, refl, List, [], ◌∷◌, ◌++◌, length, Ok}
use Rattle.words.specs.Prelude.{sym, ap, subst, ◌∙◌, append_assoc, append-nil, arith}
use Rattle.records.specs.{declared.settings.Settings.Settings, declared.state.State.State, Lent.Lists, Lent.Rooms, Lent.row_places, State.fresh_state}
use Rattle.records.specs.{Laws.RoundTrip.Floats64}
use Rattle.refusals.specs.{Lines.judged, Settings.setting_lines, Laws.Lines.never}
use Rattle.engine.specs.{Books.held_points, Books.held_trades, Boxes.NotFull, Boxes.Sound, Laws.Runs.run_none, Laws.Runs.fine_took_all, Run.Run, Run.run_over}
use Rattle.runs.specs.{RunOn.joined_run, RunOn.run_on, RunOn.run_over_lem, Laws.TwoRuns.fresh_sound, Laws.TwoRuns.run_sound, OtherBooks.SameFromHere}
use Rattle.runs.specs.{OtherBooks.books_do_not_matter, Restart.Restarted, Restart.restarted_alike, Restart.restarted_sound, Restart.no_points_lem}
use Rattle.runs.specs.{Restart.no_trades_lem, WholeHistory.fresh_follows}
use Rattle.restart.specs.{Laws.Reached64.Bars64, Laws.Reached64.reached_storable, Laws.Times.Word64, Lives.Life, Lives.restored_state, Lives.restored_rooms}
use Rattle.restart.specs.{Lives.last_state, Lives.last_rooms, Lives.all_bars, Lives.all_points, Lives.all_trades, Lives.LifeOf, Lives.LivesOf, Lives.Survived}
use Rattle.restart.specs.{Lives.SinceLosses, Boxes.Storable, Restart.image_restarts, SameImage.same_image, SameImage.kept_alike}
use Rattle.refusals.specs.{Lines.Verdict}

-- ---- lists of bars

pub front_words : (a b : List (List ℕ)) → Bars64 (a ++ b) → Bars64 a
unfolding Bars64
front_words [] b h = tt
front_words (bar ∷ a) b h = (h.0, front_words a b h.1)

fine_free : (v : Verdict) → v ≡ Ok tt → NotFull v
unfolding NotFull
fine_free v h why e n = never (sym e ∙ h)

-- a run that is not refused with 14 was not so before
free_front : (s : Settings) (ls : Lists) (before bars : List (List ℕ)) (t : State) (m : Rooms) → NotFull (run_over s ls t m (before ++ bars)).verdict
    → NotFull (run_over s ls t m before).verdict
unfolding NotFull
free_front s ls before bars t m free why e n = free why (ap (λ (r : Run). r.verdict) (run_over_lem s ls before bars t m why e) ∙ e) n

free_on : (r r' : Run) → r.verdict ≡ r'.verdict → NotFull r.verdict → NotFull r'.verdict
free_on r r' e free = subst NotFull e free

-- ---- one life

module _ (s : Settings) (ls : Lists) (u : Run) (t' : State) (m' : Rooms) (ps xs : List ℕ) (was : Survived s u t' m' ps xs) (l : Life)
    (sound : Sound s u.state u.rooms) (free : NotFull (run_over s ls u.state u.rooms l.bars).verdict) (life : LifeOf s ls t' m' l) where
  abbrev unbroken : Run
  unbroken = run_over s ls u.state u.rooms l.bars

  abbrev own : Run
  own = run_over s ls t' m' l.bars

  same : SameFromHere s u.state u.rooms t' m' unbroken own
  same = books_do_not_matter s ls l.bars u.state u.rooms t' m' was.alike sound was.sound free (fine_free _ life.fine)

  again : Storable s unbroken.state unbroken.rooms → Restarted s own.state own.rooms (restored_state l) (restored_rooms l)
  again kept =
      let sound' = run_sound s ls l.bars t' m' was.sound in
      rw life.image
      (image_restarts s own.state own.rooms l.rows l.equity l.trades sound'.within.rows
      (kept_alike s unbroken.state unbroken.rooms own.state own.rooms same.alike kept) life.place)

  life_survived : Storable s unbroken.state unbroken.rooms
      → Survived s unbroken (restored_state l) (restored_rooms l) (ps ++ held_points own.state own.rooms) (xs ++ held_trades own.state own.rooms)
  life_survived kept =
      let x = same in
      let r = again kept in
      let a = restarted_alike s own.state own.rooms (restored_state l) (restored_rooms l) r in
      record {
        fine = x.verdict ∙ life.fine;
        alike = record { account = x.alike.account ∙ a.account; window = x.alike.window ∙ a.window };
        sound = restarted_sound s own.state own.rooms (restored_state l) (restored_rooms l) r (run_sound s ls l.bars t' m' was.sound);
        no_points = r.points;
        no_trades = r.trades;
        equity = x.grown.equity ∙ rw (x.grown'.equity, no_points_lem t' m' was.no_points, was.equity);
        closed = x.grown.closed ∙ rw (x.grown'.closed, no_trades_lem t' m' was.no_trades, was.closed);
      }

joined_survived : (s : Settings) (b r : Run) (t' : State) (m' : Rooms) (ps xs : List ℕ) → Survived s r t' m' ps xs → Survived s (joined_run b r) t' m' ps xs
joined_survived s b r t' m' ps xs h = record {
  fine = h.fine;
  alike = record { account = h.alike.account; window = h.alike.window };
  sound = h.sound;
  no_points = h.no_points;
  no_trades = h.no_trades;
  equity = h.equity;
  closed = h.closed;
}

-- ---- all lives

module _ (s : Settings) (ls : Lists) (m : Rooms) (deep : s.depth ≤ row_places s.slots m.rows) (twelve : judged (setting_lines s) ≡ Ok tt)
    (floats : Floats64 (fresh_state s)) (delay : Word64 s.delay) where
  abbrev run : List (List ℕ) → Run
  run bars = run_over s ls (fresh_state s) m bars

  one_life : (before : List (List ℕ)) (l : Life) (t' : State) (m' : Rooms) (ps xs : List ℕ) → Survived s (run before) t' m' ps xs
      → Bars64 (before ++ l.bars) → NotFull (run (before ++ l.bars)).verdict → LifeOf s ls t' m' l
      → let e = run_over s ls t' m' l.bars in
      Survived s (run (before ++ l.bars)) (restored_state l) (restored_rooms l) (ps ++ held_points e.state e.rooms) (xs ++ held_trades e.state e.rooms)
  one_life before l t' m' ps xs was words free life =
      let u : Run = run_over s ls (run before).state (run before).rooms l.bars in
      let on = run_on s ls before l.bars (fresh_state s) m was.fine in
      let sound = run_sound s ls before (fresh_state s) m (fresh_sound s m deep) in
      let kept = reached_storable s ls m (before ++ l.bars) deep twelve floats delay words in
      let kept' : Storable s u.state u.rooms = subst (λ (r : Run). Storable s r.state r.rooms) on kept in
      rw on
      (joined_survived s (run before) u _ _ _ _
      (life_survived s ls (run before) t' m' ps xs was l sound (free_on (run (before ++ l.bars)) u (ap (λ (r : Run). r.verdict) on) free) life kept'))

  all_lives : (lives : List Life) (before : List (List ℕ)) (t' : State) (m' : Rooms) (ps xs : List ℕ) → Survived s (run before) t' m' ps xs
      → Bars64 (before ++ all_bars lives) → NotFull (run (before ++ all_bars lives)).verdict → LivesOf s ls t' m' lives
      → Survived s (run (before ++ all_bars lives)) (last_state t' lives) (last_rooms m' lives)
      (ps ++ all_points s ls t' m' lives) (xs ++ all_trades s ls t' m' lives)
  unfolding all_bars last_state last_rooms all_points all_trades LivesOf
  all_lives [] before t' m' ps xs was words free lived = rw (append-nil before, append-nil ps, append-nil xs) was
  all_lives (l ∷ lives) before t' m' ps xs was words free lived =
      let assoc = append_assoc before l.bars (all_bars lives) in
      let words' = subst Bars64 (sym assoc) words in
      let free' : NotFull (run ((before ++ l.bars) ++ all_bars lives)).verdict = subst (λ (bs : List (List ℕ)). NotFull (run bs).verdict) (sym assoc) free in
      let next = one_life before l t' m' ps xs was (front_words (before ++ l.bars) (all_bars lives) words')
      (free_front s ls (before ++ l.bars) (all_bars lives) (fresh_state s) m free') lived.0 in
      let later = all_lives lives (before ++ l.bars) (restored_state l) (restored_rooms l) _ _ next words' free' lived.1 in
      let e = run_over s ls t' m' l.bars in
      rw (
        assoc,
        append_assoc ps (held_points e.state e.rooms) (all_points s ls (restored_state l) (restored_rooms l) lives),
        append_assoc xs (held_trades e.state e.rooms) (all_trades s ls (restored_state l) (restored_rooms l) lives),
      ) at later

  -- at first: two fresh boxes, each over its own rooms
  fresh_survived : (m₀ : Rooms) → s.depth ≤ row_places s.slots m₀.rows → Survived s (run []) (fresh_state s) m₀ [] []
  unfolding fresh_state held_points held_trades
  fresh_survived m₀ deep₀ =
      rw (run_none s ls (fresh_state s) m)
      (record {
        fine = refl;
        alike = record { account = refl; window = (fresh_follows s m).window ∙ sym (fresh_follows s m₀).window };
        sound = fresh_sound s m₀ deep₀;
        no_points = refl;
        no_trades = refl;
        equity = refl;
        closed = refl;
      })

  -- ANY NUMBER OF LOSSES: a box that starts fresh over the rooms m₀, and is restored after each of its lives, is alike to a box that takes the bars of
  -- all lives over the rooms m and is never without supply, as long as that box is not refused with 14. It takes them all, and what it holds in its
  -- books is what the lives held at their ends.
  pub losses : (m₀ : Rooms) → s.depth ≤ row_places s.slots m₀.rows → (lives : List Life) → Bars64 (all_bars lives)
      → NotFull (run_over s ls (fresh_state s) m (all_bars lives)).verdict → LivesOf s ls (fresh_state s) m₀ lives
      → Survived s (run_over s ls (fresh_state s) m (all_bars lives)) (last_state (fresh_state s) lives) (last_rooms m₀ lives)
      (all_points s ls (fresh_state s) m₀ lives) (all_trades s ls (fresh_state s) m₀ lives)
  losses m₀ deep₀ lives words free lived = all_lives lives [] (fresh_state s) m₀ [] [] (fresh_survived m₀ deep₀) words free lived

  -- The life that is under way: the box that was restored last takes further bars.
  module _ (m₀ : Rooms) (deep₀ : s.depth ≤ row_places s.slots m₀.rows) (lives : List Life) (words : Bars64 (all_bars lives))
      (lived : LivesOf s ls (fresh_state s) m₀ lives) (bars : List (List ℕ)) where
    abbrev now : Run
    now = run_over s ls (last_state (fresh_state s) lives) (last_rooms m₀ lives) bars

    pub losses_run : NotFull (run_over s ls (fresh_state s) m (all_bars lives ++ bars)).verdict
        → NotFull (run_over s ls (last_state (fresh_state s) lives) (last_rooms m₀ lives) bars).verdict
        → SinceLosses s (run_over s ls (fresh_state s) m (all_bars lives ++ bars))
        (run_over s ls (last_state (fresh_state s) lives) (last_rooms m₀ lives) bars) (length (all_bars lives))
        (all_points s ls (fresh_state s) m₀ lives) (all_trades s ls (fresh_state s) m₀ lives)
    losses_run free free' =
        let u : Run = run (all_bars lives) in
        let h : Survived s u (last_state (fresh_state s) lives) (last_rooms m₀ lives)
        (all_points s ls (fresh_state s) m₀ lives) (all_trades s ls (fresh_state s) m₀ lives) =
        losses m₀ deep₀ lives words (free_front s ls (all_bars lives) bars (fresh_state s) m free) lived in
        let v : Run = run_over s ls u.state u.rooms bars in
        let on = run_on s ls (all_bars lives) bars (fresh_state s) m h.fine in
        let sound = run_sound s ls (all_bars lives) (fresh_state s) m (fresh_sound s m deep) in
        let x : SameFromHere s u.state u.rooms (last_state (fresh_state s) lives) (last_rooms m₀ lives) v now =
        books_do_not_matter s ls bars u.state u.rooms (last_state (fresh_state s) lives) (last_rooms m₀ lives) h.alike sound h.sound
        (free_on (run (all_bars lives ++ bars)) v (ap (λ (r : Run). r.verdict) on) free) free' in
        rw on
        (record {
          done = omega (arith, fine_took_all s ls (all_bars lives) (fresh_state s) m h.fine, x.done);
          verdict = x.verdict;
          account = x.alike.account;
          sound = run_sound s ls bars (last_state (fresh_state s) lives) (last_rooms m₀ lives) h.sound;
          equity = x.grown.equity ∙ rw (x.grown'.equity, no_points_lem (last_state (fresh_state s) lives) (last_rooms m₀ lives) h.no_points, h.equity);
          closed = x.grown.closed ∙ rw (x.grown'.closed, no_trades_lem (last_state (fresh_state s) lives) (last_rooms m₀ lives) h.no_trades, h.closed);
          image = same_image s v.state v.rooms now.state now.rooms x.alike;
        })
