-- The calls that begin a run, step over a bar, end a run and give the metrics: each of their refusals has a number and a place that an
-- answer can hold, so of each the law over calls holds.
use Rattle.std.specs.Prelude.{ℕ, ◌<◌, ◌^◌, ◌≡◌, refl, Bool, true, false, cond, List, ◌++◌, Err, Ok, Result}
use Rattle.words.specs.Prelude.{arith, ap}
use Rattle.words.specs.{declared.refusal.Refusal.Refusal, Outcome.Outcome, Outcome.gives, Outcome.refuses, Words.overwrite}
use Rattle.floats.specs.{Floats.float_of}
use Rattle.metrics.specs.{declared.Metrics.Metrics, Records.whole, Figures.not_whole, Figures.computed}
use Rattle.records.specs.{declared.settings.Settings.Settings, declared.state.State.State, Lent.Rooms, Lent.Lists, Settings.settings_of, State.fresh_state}
use Rattle.records.specs.{StateWords.state_of, StateWords.words_of}
use Rattle.refusals.specs.{Lines.Line}
use Rattle.refusals.specs.{Lines.judged, Rooms.room_lines, Judgement.step_lines, Judgement.finish_lines, Judgement.finish_judged, Laws.Numbers.numbered}
use Rattle.refusals.specs.{Laws.Numbers.number_within, Laws.Numbers.both_numbered, Laws.Numbers.step_numbered, Laws.Numbers.finish_numbered, Laws.Places.named}
use Rattle.refusals.specs.{Laws.Places.named_placed, Laws.Places.place_below, Laws.Places.finish_place}
use Rattle.engine.specs.{declared.answer.Ended.Ended}
use Rattle.engine.specs.{Step.With, Step.size_lines, Step.step_verdict, Step.step_answer, Finish.ended}
use Rattle.engine.specs.{Finish.concluded, Finish.finish_of, Laws.Refusal.refusal_changes_nothing, Laws.Verdict.verdict_place}
use Rattle.replies.specs.{Call.unless_bad, Call.word_lines, Call.metric_lines}
use Rattle.stepping.specs.{Bars.lent_lines, Bars.step_gives, Bars.step_call}
use Rattle.capi.specs.{Fresh.fresh_call, Finish.finish_gives, Finish.finish_call, Figures.metrics_gives, Figures.metrics_call, Laws.Calls.FitsAnswer}
use Rattle.capi.specs.{Laws.Calls.Numbered, Laws.Calls.Honest, Laws.Calls.honest, Laws.Calls.never_refuses, Laws.Calls.one_refusal}
use Rattle.capi.specs.{Laws.Calls.after_verdict}
use Rattle.refusals.specs.{Lines.Verdict}
use Rattle.words.specs.{Outcome.place_of}

-- lines that have the paper's numbers, and places below 2^32
pub lines_small : (ls : List Line) → numbered ls ≡ true → (r : Refusal) → judged ls ≡ Err r → place_of r < 2 ^ 32 → FitsAnswer r
lines_small ls n r e near =
    let w = number_within ls r n e in
    record { some = omega (arith, w.0); number = omega (arith, w.1); place = near }

-- and those whose places the papers name
named_small : (ls : List Line) → numbered ls ≡ true → named ls ≡ true → (r : Refusal) → judged ls ≡ Err r → FitsAnswer r
named_small ls n p r e = lines_small ls n r e (place_below ls r (named_placed ls p) e)

lent_numbered : (settings state rows : List ℕ) → numbered (lent_lines settings state rows) ≡ true
unfolding numbered lent_lines room_lines word_lines
lent_numbered settings state rows = refl

lent_named : (settings state rows : List ℕ) → named (lent_lines settings state rows) ≡ true
unfolding named lent_lines room_lines word_lines
lent_named settings state rows = refl

-- ---- ysh_fresh

pub fresh_honest : (settings state : List ℕ)
    → Honest (fresh_call settings state) state
    (unless_bad (judged (word_lines settings state)) (gives (overwrite state 0 (words_of (fresh_state (settings_of settings))))))
unfolding fresh_call numbered named word_lines
fresh_honest settings state = honest _ state (after_verdict _ _ (named_small (word_lines settings state) refl refl) (never_refuses _))

-- ---- ysh_step

step_by : (answer : Result State (Refusal × State)) (state : List ℕ) (m : Rooms) → ((r : Refusal) (u : State) → answer ≡ Err (r, u) → FitsAnswer r)
    → Numbered (step_gives answer state m)
unfolding step_gives
step_by (Err (r, u)) state m s = one_refusal r (s r u refl)
step_by (Ok next) state m s = never_refuses _

pub step_small : (s : Settings) (t : State) (bar : List ℕ) (m : Rooms) (ls : Lists) (r : Refusal) → step_verdict s t bar m ls ≡ Err r → FitsAnswer r
unfolding size_lines numbered
step_small s t bar m ls r e =
    lines_small (step_lines s t bar m ls ++ size_lines s t bar m)
    (both_numbered (step_lines s t bar m ls) (size_lines s t bar m) (step_numbered s t bar m ls) refl) r
    (unfold step_verdict in e) (verdict_place s t bar m ls r e)

pub step_honest : (settings state bar : List ℕ) (m : Rooms) (ls : Lists) →
    (let d = step_answer (settings_of settings) (state_of state) bar m ls in
    Honest (step_call settings state bar m ls) (record { state = state; rooms = m })
    (unless_bad (judged (lent_lines settings state m.rows)) (step_gives d.result state d.rooms)))
unfolding step_call
step_honest settings state bar m ls =
    let s = settings_of settings in
    let t = state_of state in
    honest _ _
    (after_verdict _ _
    (named_small (lent_lines settings state m.rows) (lent_numbered settings state m.rows) (lent_named settings state m.rows))
    (step_by (step_answer s t bar m ls).result state _ (λ r u e. step_small s t bar m ls r (refusal_changes_nothing s t bar m ls r u e).0)))

-- ---- ysh_finish

finish_by : (finished : Result Ended (Refusal × State)) (state : List ℕ) (m : Rooms) (metrics : List ℕ) → ((r : Refusal) (u : State) → finished ≡ Err (r, u) → FitsAnswer r)
    → Numbered (finish_gives finished state m metrics)
unfolding finish_gives
finish_by (Err (r, u)) state m metrics s = one_refusal r (s r u refl)
finish_by (Ok ended) state m metrics s = never_refuses _

finish_said : (v : Verdict) (t : State) (m : Rooms) (done : With Ended) (r : Refusal) (u : State) → (concluded v t m done).result ≡ Err (r, u) → v ≡ Err r
unfolding concluded
finish_said (Err why) t m done r u e = let same : ◌≡◌ {A = Refusal × State} (why, t) (r, u) = cc in ap (λ (p : Refusal × State). Err p.0) same
finish_said (Ok _) t m done r u e = absurd (let z : ◌≡◌ {A = ℕ} 0 1 = cc in omega arith)

finish_lines_lem : (settings state rows metrics : List ℕ) → numbered (lent_lines settings state rows ++ metric_lines metrics) ≡ true
unfolding numbered lent_lines room_lines word_lines metric_lines
finish_lines_lem settings state rows metrics = refl

finish_rooms : (settings state rows metrics : List ℕ) → named (lent_lines settings state rows ++ metric_lines metrics) ≡ true
unfolding named lent_lines room_lines word_lines metric_lines
finish_rooms settings state rows metrics = refl

pub finish_small : (s : Settings) (t : State) (m : Rooms) (r : Refusal) → finish_judged s t m ≡ Err r → FitsAnswer r
finish_small s t m r e = lines_small (finish_lines s t m) (finish_numbered s t m) r (unfold finish_judged in e) (finish_place s t m r e)

pub finish_honest : (settings state : List ℕ) (m : Rooms) (metrics : List ℕ) →
    (let d = finish_of (settings_of settings) (state_of state) m in
    Honest (finish_call settings state m metrics) (record { state = state; equity = m.equity; trades = m.trades; metrics = metrics })
    (unless_bad (judged (lent_lines settings state m.rows ++ metric_lines metrics)) (finish_gives d.result state d.rooms metrics)))
unfolding finish_call finish_of
finish_honest settings state m metrics =
    let s = settings_of settings in
    let t = state_of state in
    honest _ _
    (after_verdict _ _ (named_small _ (finish_lines_lem settings state m.rows metrics) (finish_rooms settings state m.rows metrics))
    (finish_by (finish_of s t m).result state _ metrics
    (λ r u e. finish_small s t m r (finish_said (finish_judged s t m) t m (ended s t m) r u e))))

-- ---- ysh_metrics

metrics_by : (o : Outcome Metrics) (room : List ℕ) → ((r : Refusal) → o ≡ refuses r → FitsAnswer r) → Numbered (metrics_gives o room)
unfolding metrics_gives
metrics_by (refuses why) room s = one_refusal why (s why refl)
metrics_by (gives m) room s = never_refuses _

computed_small : (b : Bool) (m : Metrics) (r : Refusal) → cond b (gives m) (refuses not_whole) ≡ refuses r → FitsAnswer r
computed_small true m r e = absurd (let z : ◌≡◌ {A = ℕ} 0 1 = cc in omega arith)
computed_small false m r e =
    let same : not_whole ≡ r = cc in
    let small : FitsAnswer not_whole = record { some = omega arith; number = omega arith; place = omega arith } in
    rw same at small

pub metrics_honest : (initial : ℕ) (equity trades room : List ℕ)
    → Honest (metrics_call initial equity trades room) room
    (unless_bad (judged (metric_lines room)) (metrics_gives (computed (float_of initial) equity trades) room))
unfolding metrics_call numbered named metric_lines computed
metrics_honest initial equity trades room =
    honest _ room
    (after_verdict _ _ (named_small (metric_lines room) refl refl)
    (metrics_by (computed (float_of initial) equity trades) room (computed_small (whole equity trades) _)))
