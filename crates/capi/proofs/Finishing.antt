-- A C call that ends a run is the engine's end on what its words mean.
use Rattle.std.specs.Prelude.{Err, Ok, Result}
use Rattle.words.specs.Prelude.{ℕ, ◌≡◌, refl, sym, ◌∙◌, List, ◌++◌, arith}
use Rattle.words.specs.{declared.refusal.Refusal.Refusal, Words.overwrite}
use Rattle.metrics.specs.{declared.Metrics.Metrics}
use Rattle.records.specs.{declared.settings.Settings.Settings, declared.state.State.State, Lent.Rooms, Lent.rooms, Settings.settings_of, StateWords.state_of}
use Rattle.records.specs.{StateWords.words_of}
use Rattle.refusals.specs.{Lines.judged, Judgement.finish_judged}
use Rattle.engine.specs.{declared.answer.Ended.Ended, Step.With, Step.Is, Finish.ended, Finish.concluded, Finish.finish_of}
use Rattle.replies.specs.{Call.answer_word, Call.metric_lines}
use Rattle.stepping.specs.{Bars.lent_lines}
use Rattle.capi.specs.{Finish.finish_gives, Finish.finish_call}
use Rattle.capi.proofs.{Calling.call_bad, Calling.call_refused, Calling.call_gives}
use Rattle.metrics.specs.Figures as Figures
use Rattle.engine.specs.{Ended.at_end}
use Rattle.refusals.specs.{Lines.Verdict}

-- a refused end changes no room
by_verdict : (v : Verdict) (t : State) (m : Rooms) (done : With Ended) (r : Refusal) (u : State)
    → (concluded v t m done).result ≡ Err (r, u) → (concluded v t m done).rooms ≡ m
unfolding concluded
by_verdict (Err why) t m done r u e = refl
by_verdict (Ok _) t m done r u e = absurd (let z : ◌≡◌ {A = ℕ} 0 1 = cc in omega arith)

finish_keeps : (s : Settings) (t : State) (m : Rooms) (r : Refusal) (u : State) → (finish_of s t m).result ≡ Err (r, u) → (finish_of s t m).rooms ≡ m
unfolding finish_of
finish_keeps s t m r u e = by_verdict (finish_judged s t m) t m (ended s t m) r u e

module _ (settings state : List ℕ) (m : Rooms) (metrics : List ℕ) {v : Verdict}
    (lent : v ≡ judged (lent_lines settings state m.rows ++ metric_lines metrics)) where
  pub finish_short : {r : Refusal} {a : ℕ} → v ≡ Err r → a ≡ answer_word r → finish_call settings state m metrics
      ≡ record { answer = a; lent = record { state = state; equity = m.equity; trades = m.trades; metrics = metrics } }
  unfolding finish_call
  finish_short bad word = call_bad _ _ _ (sym lent ∙ bad) word

  module _
      {s : Settings} {t : State} {finished : Result Ended (Refusal × State)} {es ts : List ℕ} (all : v ≡ Ok tt) (read : s ≡ settings_of settings) (given : t ≡ state_of state)
      (ran : Is (Result Ended (Refusal × State)) (finish_of s t m) finished m.rows es ts) where
    finish_ran : let d = finish_of (settings_of settings) (state_of state) m in
        finish_gives d.result state d.rooms metrics ≡ finish_gives finished state (rooms m.rows es ts) metrics
    finish_ran = let d = rw (read, given) at ran in simp (d.result, d.rows, d.equity, d.trades)

    pub finish_refused : {r : Refusal} {a : ℕ} {u : State} → finished ≡ Err (r, u) → a ≡ answer_word r
        → finish_call settings state m metrics ≡ record { answer = a; lent = record { state = state; equity = es; trades = ts; metrics = metrics } }
    unfolding finish_call finish_gives
    finish_refused {r = r} {u = u} refused word =
        let d = rw (read, given) at ran in
        let unchanged = finish_keeps (settings_of settings) (state_of state) m r u (sym d.result ∙ refused) in
        call_refused _ _ _ (sym lent ∙ all) (finish_ran ∙ simp refused) word ∙ simp (d.equity, d.trades, unchanged)

    pub finish_done : {next : State} {figures : Metrics} {words nine : List ℕ} → finished ≡ at_end next figures
        → words ≡ overwrite state 0 (words_of next) → nine ≡ overwrite metrics 0 (Figures.figure_words figures)
        → finish_call settings state m metrics ≡ record { answer = 0; lent = record { state = words; equity = es; trades = ts; metrics = nine } }
    unfolding finish_call finish_gives
    finish_done done put nine = call_gives _ _ _ (sym lent ∙ all) (finish_ran ∙ simp (done, put, nine))
