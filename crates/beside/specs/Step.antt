-- A step over a bar that 11 accepts is not refused with 11.
use Rattle.std.specs.Prelude.{ℕ, ◌/◌, ◌^◌, ◌≤◌, ◌≡◌, refl, Bool, true, false, cond, ◌&&◌, List, [], ◌∷◌, ◌++◌, map, eqb, length, Err, Ok, Result}
use Rattle.words.specs.Prelude.{sym, ◌∙◌, arith, eq-eqb}
use Rattle.words.specs.{declared.refusal.Refusal.Refusal, Limits.bar_words, Outcome.Outcome, Outcome.gives, Outcome.refuses}
use Rattle.records.specs.{declared.settings.Settings.Settings, declared.state.State.State, Lent.Rooms, Lent.Lists, Settings.settings_of, StateWords.state_of}
use Rattle.refusals.specs.{Bar.bar_lines, Judgement.run_lines, Judgement.step_lines, Laws.Lines.never, Laws.Lines.and_true, Laws.Lines.first_holds, Lines.Line}
use Rattle.refusals.specs.{Lines.line, Lines.judged, Lists.list_lines, Rooms.room_lines, Rooms.state_lines, Rooms.place_lines, Settings.sizing_lines}
use Rattle.refusals.specs.{Settings.slippage_lines, Settings.risk_lines, Settings.term_lines, Settings.entry_lines, Settings.setting_lines}
use Rattle.engine.specs.{Laws.Refusal.refusal_changes_nothing, Step.size_lines, Step.step_verdict, Step.step_answer}
use Rattle.accounts.specs.{Own.own_bar}
use Rattle.replies.specs.{Call.call_of, Call.unless_bad, Call.word_lines}
use Rattle.stepping.specs.{Bars.StepLent, Bars.lent_lines, Bars.step_gives, Bars.step_call, WordRun.WordRun, WordRun.call_more, WordRun.calls_over}
use Rattle.capi.specs.{Laws.Calls.Honest, Laws.RunCalls.step_honest}
use Rattle.beside.specs.{OwnFine.own_fine, Taken.AllFine}
use Rattle.refusals.specs.{Lines.Verdict}
use Rattle.words.specs.{Outcome.number_of}

-- each line of number 11 holds
unfoldable eleven_holds : List Line → Bool
eleven_holds [] = true
eleven_holds (l ∷ ls) = cond (eqb (number_of l.why) 11) l.ok true && eleven_holds ls

-- then the lines come to no 11
by_line : (ok : Bool) (v : Verdict) (why r : Refusal) → cond (eqb (number_of why) 11) ok true ≡ true → (v ≡ Err r → number_of r ≡ 11 → ⊥)
    → cond ok v (Err why) ≡ Err r → number_of r ≡ 11 → ⊥
by_line true v why r holds below e eleven = below e eleven
by_line false v why r holds below e eleven =
    let same : number_of why ≡ number_of r = cc in
    let f : ◌≡◌ {A = Bool} false true = rw (eq-eqb (number_of why) 11 (same ∙ eleven)) at holds in
    let z : ◌≡◌ {A = ℕ} 0 1 = cc in omega arith

lines_other : (ls : List Line) (r : Refusal) → eleven_holds ls ≡ true → judged ls ≡ Err r → number_of r ≡ 11 → ⊥
unfolding judged eleven_holds
lines_other [] r holds e = never (sym e)
lines_other (l ∷ ls) r holds e =
    let both = and_true (cond (eqb (number_of l.why) 11) l.ok true) (eleven_holds ls) holds in
    by_line l.ok (judged ls) l.why r both.0 (lines_other ls r both.1) e

holds_under : (a b : List Line) → eleven_holds a ≡ true → eleven_holds b ≡ true → eleven_holds (a ++ b) ≡ true
unfolding eleven_holds
holds_under [] b p q = q
holds_under (l ∷ a) b p q =
    let both = and_true (cond (eqb (number_of l.why) 11) l.ok true) (eleven_holds a) p in
    rw both.0 (holds_under a b both.1 q)

kept : (b ok : Bool) → ok ≡ true → cond b ok true ≡ true
kept true ok h = h
kept false ok h = refl

-- lines that are fine
fine_holds : (ls : List Line) → judged ls ≡ Ok tt → eleven_holds ls ≡ true
unfolding eleven_holds
fine_holds [] h = refl
fine_holds (l ∷ ls) h =
    let own = first_holds l ls h in
    rw (kept (eqb (number_of l.why) 11) l.ok own.0) (fine_holds ls own.1)

-- ---- a step

lent_holds : (settings state rows : List ℕ) → eleven_holds (lent_lines settings state rows) ≡ true
unfolding eleven_holds lent_lines room_lines word_lines
lent_holds settings state rows = refl

run_holds : (s : Settings) (t : State) (m : Rooms) → eleven_holds (run_lines s t m) ≡ true
unfolding eleven_holds run_lines room_lines setting_lines term_lines entry_lines sizing_lines slippage_lines risk_lines state_lines
run_holds s t m = refl

step_holds : (s : Settings) (t : State) (bar : List ℕ) (m : Rooms) (ls : Lists) → ((seen : ℕ) → judged (bar_lines s.slots bar seen) ≡ Ok tt)
    → eleven_holds (step_lines s t bar m ls ++ size_lines s t bar m) ≡ true
unfolding eleven_holds step_lines place_lines list_lines size_lines
step_holds s t bar m ls fine =
    let places : List Line = place_lines t.counts m.equity m.trades in
    let own : List Line = bar_lines s.slots bar t.counts.bars_seen in
    let lists : List Line = list_lines s.slots s.depth ls in
    holds_under (step_lines s t bar m ls) (size_lines s t bar m)
    (holds_under (run_lines s t m) (line (eqb (length bar) (bar_words s.slots)) Refusal.Records ∷ (places ++ (own ++ lists))) (run_holds s t m)
    (holds_under places (own ++ lists) refl (holds_under own lists (fine_holds own (fine t.counts.bars_seen)) refl)))
    refl

-- what a call of a step is refused with: by its rooms, or by the step
step_refuses : (v : Verdict) (a : Result State (Refusal × State)) (state : List ℕ) (m : Rooms) → ((r : Refusal) → v ≡ Err r → number_of r ≡ 11 → ⊥)
    → ((r : Refusal) (u : State) → a ≡ Err (r, u) → number_of r ≡ 11 → ⊥)
    → (r : Refusal) → unless_bad v (step_gives a state m) ≡ refuses r → number_of r ≡ 11 → ⊥
unfolding unless_bad step_gives
step_refuses (Err q) a state m rooms step r e = let same : q ≡ r = cc in rooms r (rw same)
step_refuses (Ok _) (Err (q, u)) state m rooms step r e = let same : q ≡ r = cc in step r u (rw same)
step_refuses (Ok _) (Ok next) state m rooms step r e = absurd (let z : ◌≡◌ {A = ℕ} 0 1 = cc in omega arith)

-- and so not 11, its answer's number is not
call_other : {A : Type 0} (o : Outcome A) (before : A) → Honest (call_of o before) before o → ((r : Refusal) → o ≡ refuses r → number_of r ≡ 11 → ⊥)
    → (call_of o before).answer / 2 ^ 32 ≡ 11 → ⊥
unfolding call_of
call_other (gives after) before h other e = omega (arith, e)
call_other (refuses r) before h other e = other r refl (sym (h.number r refl) ∙ e)

pub step_other : (settings state bar : List ℕ) (m : Rooms) (ls : Lists) → ((seen : ℕ) → judged (bar_lines (settings_of settings).slots bar seen) ≡ Ok tt)
    → (step_call settings state bar m ls).answer / 2 ^ 32 ≡ 11 → ⊥
unfolding step_call step_verdict
step_other settings state bar m ls fine =
    let s = settings_of settings in
    let t = state_of state in
    call_other _ _ (step_honest settings state bar m ls)
    (step_refuses (judged (lent_lines settings state m.rows)) (step_answer s t bar m ls).result state (step_answer s t bar m ls).rooms
    (λ r e. lines_other (lent_lines settings state m.rows) r (lent_holds settings state m.rows) e)
    (λ r u e. lines_other (step_lines s t bar m ls ++ size_lines s t bar m) r (step_holds s t bar m ls fine) (refusal_changes_nothing s t bar m ls r u e).0))

-- ---- an account alone

either : (b : Bool) (x y : WordRun) → (x.answer / 2 ^ 32 ≡ 11 → ⊥) → (y.answer / 2 ^ 32 ≡ 11 → ⊥) → (cond b x y).answer / 2 ^ 32 ≡ 11 → ⊥
either true x y p q = p
either false x y p q = q

-- over its own part of bars that 11 accepts for the stream's slots
pub calls_other : (S : ℕ) (settings : List ℕ) (ls : Lists) → (settings_of settings).slots ≤ S → (bars : List (List ℕ)) → AllFine S bars → (lent : StepLent)
    → (calls_over settings ls lent (map (own_bar S (settings_of settings).slots) bars)).answer / 2 ^ 32 ≡ 11 → ⊥
unfolding calls_over AllFine
calls_other S settings ls few [] fine lent e = omega (arith, e)
calls_other S settings ls few (bar ∷ bars) fine lent e =
    let K = (settings_of settings).slots in
    let c = step_call settings lent.state (own_bar S K bar) lent.rooms ls in
    either (eqb c.answer 0) (call_more (calls_over settings ls c.lent (map (own_bar S K) bars))) (record { done = 0; answer = c.answer; lent = c.lent })
    (calls_other S settings ls few bars fine.2 c.lent)
    (step_other settings lent.state (own_bar S K bar) lent.rooms ls (λ seen. own_fine S K bar fine.0 few seen seen (fine.1 seen))) e
