-- A bar of a call over many bars is a step that is judged by less; and a turn of the loop over them.
use Rattle.std.specs.Prelude.{Err, Ok, Result}
use Rattle.words.specs.Prelude.{ℕ, ◌+◌, ◌-◌, ◌*◌, ◌/◌, ◌<◌, ◌≤◌, ◌≡◌, refl, sym, ◌∙◌, Bool, ◌&&◌, List, [], ◌∷◌, arith, leb-true, leb, length, take, drop}
use Rattle.words.specs.Prelude.{length-drop, length-take-le}
use Rattle.words.specs.{Laws.Records.record_ends, Limits.bar_words, Limits.most_count, Limits.most_slots, declared.refusal.Refusal.Refusal}
use Rattle.rows.specs.{History.width, Laws.Turned.turned_none, Ring.turned}
use Rattle.records.specs.{declared.settings.Settings.Settings, declared.state.State.State, Lent.Lists, Lent.Rooms, Lent.rooms, Lent.row_places, Lent.point_places}
use Rattle.records.specs.{Lent.trade_places}
use Rattle.refusals.specs.{Day.next_lines, Judgement.step_judged, Laws.Fine.settings_fine, Laws.Lines.and_true, Laws.Lines.first_holds}
use Rattle.refusals.specs.{Laws.Lines.fine_adds_nothing, Laws.Steady.next_judged, Lines.line, Lines.judged, Lists.list_lines, Rooms.room_lines}
use Rattle.engine.specs.{declared.answer.Advanced.Advanced}
use Rattle.engine.specs.{Boxes.SameLengths, Day.Underway, Day.in_records, Day.day_of, InPlace.RingAt}
use Rattle.engine.specs.{InPlace.Turns, Laws.Days.answer_in, Laws.Days.day_one, Laws.Days.stays_underway, Laws.Days.After, Laws.Days.after_none}
use Rattle.engine.specs.{Laws.Days.next_bar, Laws.Days.after_all, Laws.Days.after_more, Laws.Days.after_refused, Run.run_over, Step.Is}
use Rattle.engine.specs.{Step.advanced, Step.step_answer}
use Rattle.engine.proofs.{OneBar.ready, OneBar.refused, OneBar.went}
use Rattle.refusals.specs.{declared.day.Span.Span, declared.day.Span.TheVariants.One}
use Rattle.refusals.specs.{Lines.Verdict}

-- ---- a bar

module _ (s : Settings) (t : State) (bar : List ℕ) (m : Rooms) (ls : Lists) {v : Verdict} (whole : length bar ≡ bar_words s.slots)
    (c : Underway s t m ls) (judges : v ≡ judged (next_lines s.slots t.counts bar m.equity m.trades)) where
  judged_so : step_judged s t bar m ls ≡ v
  judged_so = next_judged s t bar m ls c.steady whole ∙ (fine_adds_nothing _ (list_lines s.slots s.depth ls) c.lists ∙ sym judges)

  pub next_ready : v ≡ Ok tt → (s.slots ≤ most_slots) × (t.counts.bars_seen < most_count)
  next_ready fine = ready s t bar m ls (judged_so ∙ fine)

  pub next_refused : (why : Refusal) → v ≡ Err why → Is (Result State (Refusal × State)) (step_answer s t bar m ls) (Err (why, t)) m.rows m.equity m.trades
  next_refused why bad = refused s t bar m ls why (judged_so ∙ bad)

  pub next_went : {span : Span} {r : Advanced} {ws es us : List ℕ} → v ≡ Ok tt → Turns span s (advanced s t bar m ls) r ws es us
      → Turns span s (step_answer s t bar m ls) r ws es us
  next_went fine d = record { answer = went s t bar m ls (judged_so ∙ fine) _ _ _ _ d.answer; at = d.at }

-- ---- bar after bar

-- what holds whenever the loop over the bars is at its test: so many are done, and the run goes on from here, over the room as it would stand
pub record Turn (span : Span) (s : Settings) (ls : Lists) (t₀ : State) (m₀ : Rooms) (bars : List ℕ) (done start : ℕ) (t : State) (rows equity trades : List ℕ)
    : Type 0 where
  pub within : done ≤ length bars / bar_words s.slots
  pub underway : Underway s t (rooms (turned (width s.slots) start rows) equity trades) ls
  pub after : After s ls t₀ m₀ bars (length bars / bar_words s.slots) (bar_words s.slots) done t
      (rooms (turned (width s.slots) start rows) equity trades)
  pub at : RingAt span s t rows start
  pub lengths : SameLengths m₀ (rooms rows equity trades)

-- a room for D rows is a ring that begins at its first
fresh_ring : (span : Span) (s : Settings) (t : State) (m : Rooms) (ls : Lists) → Underway s t m ls → RingAt span s t m.rows 0
fresh_ring span s t m ls c =
    let fine = settings_fine s c.steady.settings in
    let lines : judged (line (leb s.depth (row_places s.slots m.rows)) (Refusal.Room 0) ∷ []) ≡ (Ok tt) = unfold room_lines in c.steady.room in
    let room : s.depth ≤ row_places s.slots m.rows = leb-true _ _ (first_holds _ _ lines).0 in
    let n = t.counts in
    let rowed : Bool = leb n.rows_held (row_places s.slots m.rows) in
    let pointed : Bool = leb n.equity_points (point_places m.equity) in
    let both = and_true (rowed && pointed) (leb n.trades (trade_places m.trades)) c.steady.held in
    record {
      ring = record { few = leb-true _ _ (and_true rowed pointed both.0).0; begins = λ h. refl; within = omega (arith, fine.depth, room) };
      first = λ h. refl;
    }

pub begins : (span : Span) (s : Settings) (ls : Lists) (t : State) (m : Rooms) (bars : List ℕ) → Underway s t m ls
    → Turn span s ls t m bars 0 0 t m.rows m.equity m.trades
begins span s ls t m bars c = record {
  within = omega arith;
  underway = rw turned_none c;
  after = rw turned_none (after_none s ls t m bars _ _);
  at = fresh_ring span s t m ls c;
  lengths = record { rows = refl; equity = refl; trades = refl };
}

-- a bar within the list
pub bar_ends : (K n done : ℕ) → done < n / bar_words K → done * bar_words K + bar_words K ≤ n
bar_ends K n done h = record_ends n (bar_words K) (omega arith) done h

module _ (span : Span) (s : Settings) (ls : Lists) (t₀ : State) (m₀ : Rooms) (bars : List ℕ) (done start : ℕ) (t : State) (rows equity trades : List ℕ)
    (c : Turn span s ls t₀ m₀ bars done start t rows equity trades) (more : done < length bars / bar_words s.slots) where
  -- the bar that the code takes: from its first word up to the next bar's
  abbrev pub bar : List ℕ
  bar = take (done * bar_words s.slots + bar_words s.slots - done * bar_words s.slots) (drop (done * bar_words s.slots) bars)

  -- the rooms as they would stand
  abbrev pub room : Rooms
  room = rooms (turned (width s.slots) start rows) equity trades

  same_bar : bar ≡ next_bar s ls t₀ m₀ bars (length bars / bar_words s.slots) (bar_words s.slots) done
  same_bar = let w : done * bar_words s.slots + bar_words s.slots - done * bar_words s.slots ≡ bar_words s.slots = omega arith in rw w

  pub bar_long : length bar ≡ bar_words s.slots
  bar_long =
      let long : length (drop (done * bar_words s.slots) bars) ≡ length bars - done * bar_words s.slots = length-drop _ bars in
      rw same_bar (length-take-le (bar_words s.slots) _ (omega (arith, long, bar_ends s.slots (length bars) done more)))

  module _ {r : Advanced} {ws es ts : List ℕ} (d : Turns span s (step_answer s t bar room ls) r ws es ts) where
    pub one_more : {u : State} → r.answer ≡ Ok u → length ws ≡ length rows → length es ≡ length equity → length ts ≡ length trades
        → Turn span s ls t₀ m₀ bars (done + 1) r.start u ws es ts
    one_more {u} e rowed pointed traded =
        let went : Is (Result State (Refusal × State)) (step_answer s t bar room ls) (Ok u) (turned (width s.slots) r.start ws) es ts = rw e at d.answer in
        record {
          within = omega arith;
          underway = stays_underway s ls t room bar went c.underway;
          after = after_more s ls t₀ m₀ bars _ _ done more t room c.after (rw same_bar at went);
          at = rw e at d.at;
          lengths = record { rows = rowed ∙ c.lengths.rows; equity = pointed ∙ c.lengths.equity; trades = traded ∙ c.lengths.trades };
        }

    pub stops : {why : Refusal} {u : State} → r.answer ≡ Err (why, u)
        → run_over s ls t₀ m₀ (in_records (length bars / bar_words s.slots) (bar_words s.slots) bars)
        ≡ record { done = done; verdict = Err why; state = u; rooms = rooms (turned (width s.slots) r.start ws) es ts }
    stops {why} {u} e =
        let went : Is (Result State (Refusal × State)) (step_answer s t bar room ls) (Err (why, u)) (turned (width s.slots) r.start ws) es ts = rw e at d.answer in
        after_refused s ls t₀ m₀ bars _ _ done more t room c.after (rw same_bar at went)

pub all_done : (span : Span) (s : Settings) (ls : Lists) (t₀ : State) (m₀ : Rooms) (bars : List ℕ) (done start : ℕ) (t : State) (rows equity trades : List ℕ)
    → Turn span s ls t₀ m₀ bars done start t rows equity trades → done ≡ length bars / bar_words s.slots
    → run_over s ls t₀ m₀ (in_records (length bars / bar_words s.slots) (bar_words s.slots) bars)
    ≡ record { done = length bars / bar_words s.slots; verdict = Ok tt; state = t; rooms = rooms (turned (width s.slots) start rows) equity trades }
all_done span s ls t₀ m₀ bars done start t rows equity trades c h = let all = after_all s ls t₀ m₀ bars _ _ done (omega arith) c.after in cc

-- ---- one bar

module _ (s : Settings) (t : State) (bar : List ℕ) (m : Rooms) (ls : Lists) {n : ℕ} {v : Verdict} {u : State} {ws es ts : List ℕ}
    (ran : day_of One s t bar m ls ≡ record { done = n; verdict = v; state = u; rooms = rooms ws es ts }) where
  pub one_refused : {why : Refusal} → v ≡ Err why → Is (Result State (Refusal × State)) (step_answer s t bar m ls) (Err (why, u)) ws es ts
  unfolding answer_in
  one_refused bad = rw bad at (day_one s t bar m ls _ ran)

  pub one_done : v ≡ Ok tt → Is (Result State (Refusal × State)) (step_answer s t bar m ls) (Ok u) ws es ts
  unfolding answer_in
  one_done fine = rw fine at (day_one s t bar m ls _ ran)
