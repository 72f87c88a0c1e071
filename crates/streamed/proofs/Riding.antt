-- An account over the bars of a stream: calls of step, one after another, over its own part of each.
use Rattle.words.specs.Prelude.{ℕ, ◌+◌, ◌-◌, ◌*◌, ◌/◌, ◌<◌, ◌≤◌, ◌≡◌, ◌∙◌, Bool, true, false, cond, List, [], ◌∷◌, map}
use Rattle.words.specs.Prelude.{le-div_iff_mul-le, arith, ne_eqb, eqb, length, take, drop, length-drop, length-take-le}
use Rattle.words.specs.{Laws.Records.record_ends, Limits.bar_words}
use Rattle.records.specs.{Lent.Rooms, Lent.Lists, Lent.rooms}
use Rattle.engine.specs.{Day.in_records}
use Rattle.accounts.specs.{Laws.Own.own_front, Laws.Stream.records_length, Laws.Stream.next_record, Laws.Stream.record_at, Laws.Stream.same_record, Own.own_bar}
use Rattle.accounts.specs.{Own.own_into}
use Rattle.replies.specs.{Call.Call}
use Rattle.stepping.specs.{Bars.StepLent, Bars.step_call, WordRun.WordRun, WordRun.calls_over}
use lib.ListN.{length-map}

-- k calls more, before those of a run
abbrev pub more_calls : ℕ → WordRun → WordRun
more_calls k r = record { done = r.done + k; answer = r.answer; lent = r.lent }

module _ (settings : List ℕ) (ls : Lists) (own : List ℕ → List ℕ) (bars : List ℕ) (count w : ℕ) (given : StepLent) where
  abbrev all : WordRun
  all = calls_over settings ls given (map own (in_records count w bars))

  -- the calls over all bars are those over the bars left, after those done
  abbrev pub CallsAfter : ℕ → StepLent → Type 0
  CallsAfter done lent = all ≡ more_calls done (calls_over settings ls lent (map own (in_records (count - done) w (drop (done * w) bars))))

  pub calls_none : CallsAfter 0 given
  calls_none =
      let left : count - 0 ≡ count = omega arith in
      let start : 0 * w ≡ 0 = omega arith in
      let none : (n : ℕ) → n + 0 ≡ n = λ n. omega arith in
      rw (left, start, none)

  pub calls_all : (done : ℕ) {lent : StepLent} → count ≤ done → CallsAfter done lent → all ≡ record { done = done; answer = 0; lent = lent }
  unfolding in_records calls_over
  calls_all done h after =
      let none : count - done ≡ 0 = omega arith in
      let zero_more : 0 + done ≡ done = omega arith in
      after ∙ rw (none, zero_more)

  module _ (done : ℕ) (more : done < count) (lent : StepLent) (after : CallsAfter done lent) {a : ℕ} {next : StepLent}
      (stepped : step_call settings lent.state (own (record_at w bars done)) lent.rooms ls ≡ record { answer = a; lent = next }) where
    pub calls_more : a ≡ 0 → CallsAfter (done + 1) next
    unfolding calls_over
    calls_more fine =
        let one : (n : ℕ) → n + 1 + done ≡ n + (done + 1) = λ n. omega arith in
        after ∙ rw (next_record count w bars done more, ← same_record w bars done, stepped, fine, one)

    pub calls_stop : (a ≡ 0 → ⊥) → all ≡ record { done = done; answer = a; lent = next }
    unfolding calls_over
    calls_stop bad =
        let zero_more : 0 + done ≡ done = omega arith in
        after ∙ rw (next_record count w bars done more, ← same_record w bars done, stepped, ne_eqb a 0 bad, zero_more)

-- ---- a turn of the loop over the bars

-- the bars that were taken lie within their list
pub bar_within : (n w done count : ℕ) → 0 < w → done < count → count * w ≤ n → done * w + w ≤ n
bar_within n w done count some more fits =
    let all : count ≤ n / w = (le-div_iff_mul-le {k = w} some).1 fits in
    record_ends n w some done (omega arith)

pub record_long : (w : ℕ) (ws : List ℕ) (done : ℕ) → done * w + w ≤ length ws → length (record_at w ws done) ≡ w
record_long w ws done h = rw (same_record w ws done) (length-take-le w (drop (done * w) ws) (omega (arith, length-drop (done * w) ws)))

-- what holds whenever the loop over the bars is at its test: so many are done, and the account goes on from here
pub record Turn (settings : List ℕ) (ls : Lists) (own : List ℕ → List ℕ) (bars : List ℕ) (count w : ℕ) (given : StepLent) (room : List ℕ) (done : ℕ)
    (lent : StepLent) : Type 0 where
  pub after : CallsAfter settings ls own bars count w given done lent
  pub state : length lent.state ≡ length given.state
  pub rows : length lent.rooms.rows ≡ length given.rooms.rows
  pub equity : length lent.rooms.equity ≡ length given.rooms.equity
  pub trades : length lent.rooms.trades ≡ length given.rooms.trades
  pub wide : length room ≡ 74

abbrev pub step_lent : List ℕ → List ℕ → List ℕ → List ℕ → StepLent
step_lent state rows equity trades = record { state = state; rooms = rooms rows equity trades }

-- ---- an account's own part of a bar, as a step

pub own_call : (S K : ℕ) (bar room : List ℕ) → length bar ≡ bar_words S → K ≤ S → bar_words K ≤ length room
    → (after settings state : List ℕ) (m : Rooms) (ls : Lists) {c : Call StepLent} → after ≡ own_into S K bar room
    → step_call settings state (take (bar_words K) after) m ls ≡ c → step_call settings state (own_bar S K bar) m ls ≡ c
own_call S K bar room whole few fits after settings state m ls e called =
    let same : take (bar_words K) after ≡ own_bar S K bar = rw e (own_front S K bar whole few room fits) in
    rw same at called

-- ---- how many calls

-- no more than there are bars
calls_few : (settings : List ℕ) (ls : Lists) (bars : List (List ℕ)) (lent : StepLent) → (calls_over settings ls lent bars).done ≤ length bars
unfolding calls_over
calls_few settings ls [] lent = omega arith
calls_few settings ls (bar ∷ bars) lent =
    go (eqb (step_call settings lent.state bar lent.rooms ls).answer 0) (calls_few settings ls bars (step_call settings lent.state bar lent.rooms ls).lent)
  where
    next : Call StepLent
    next = step_call settings lent.state bar lent.rooms ls

    later : WordRun
    later = calls_over settings ls next.lent bars

    go : (b : Bool) → later.done ≤ length bars
        → (cond {A = WordRun} b (more_calls 1 later) (record { done = 0; answer = next.answer; lent = next.lent })).done ≤ length (bar ∷ bars)
    go true h = omega arith
    go false h = omega arith

pub ride_within : (settings : List ℕ) (ls : Lists) (own : List ℕ → List ℕ) (bars : List ℕ) (count w : ℕ) (given : StepLent) {d a : ℕ} {l : StepLent}
    → calls_over settings ls given (map own (in_records count w bars)) ≡ record { done = d; answer = a; lent = l } → d ≤ count
ride_within settings ls own bars count w given {d} {a} {l} e =
    let few : (calls_over settings ls given (map own (in_records count w bars))).done ≤ length (map own (in_records count w bars)) =
    calls_few settings ls _ given in
    let long : length (map own (in_records count w bars)) ≡ count = length-map (in_records count w bars) own ∙ records_length count w bars in
    let so : d ≤ length (map own (in_records count w bars)) = rw e at few in
    omega (arith, long, so)
