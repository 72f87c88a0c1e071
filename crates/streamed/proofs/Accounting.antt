-- An account on the stream, by each way out of the code.
use Rattle.std.specs.Prelude.{Err, Ok}
use Rattle.words.specs.Prelude.{ℕ, zero, suc, ◌+◌, ◌/◌, ◌%◌, ◌^◌, ◌<◌, ◌≡◌, refl, ◌∙◌, true, false, List, map, arith, eq-eqb, ne_eqb}
use Rattle.words.specs.{declared.refusal.Refusal.Refusal, Limits.bar_words, Words.word}
use Rattle.records.specs.{declared.settings.Settings.Settings, Settings.settings_of}
use Rattle.refusals.specs.{Lines.judged}
use Rattle.engine.specs.{Day.in_records}
use Rattle.accounts.specs.{declared.stream.StreamTaken.StreamTaken, Laws.Stream.Within, Laws.Stream.taken_within, Own.own_bar, Profile.profile_judged}
use Rattle.accounts.specs.{Status.is_stopped, Status.stopped_with, Stream.stream_taken}
use Rattle.replies.specs.{Call.answer_word}
use Rattle.stepping.specs.{Bars.StepLent, WordRun.calls_over, WordRun.answer_of}
use Rattle.streamed.specs.{Accounts.AccountGiven, Accounts.AccountLent, Accounts.own_lists, Accounts.own_bars, Accounts.alone, Accounts.status_after}
use Rattle.streamed.specs.{Accounts.rides_by, Accounts.account_after, Accounts.AccountsLent, Accounts.Four, Accounts.accounts_lines, Accounts.none_done}
use Rattle.streamed.specs.{Accounts.stream_after, Accounts.after_bars, Accounts.accounts_by, Accounts.accounts_call}
use Rattle.refusals.specs.{Lines.Verdict}
use Rattle.words.specs.{Outcome.number_of, Outcome.place_of}

pub some_of : (n : ℕ) → (n ≡ 0 → ⊥) → 0 < n
some_of zero h = absurd (h refl)
some_of (suc n) h = omega arith

module _ (S seen count w : ℕ) (bars : List ℕ) (g : AccountGiven) (a : AccountLent) where
  abbrev after : AccountLent
  after = account_after S seen (in_records count w bars) g a

  pub account_none : count ≡ 0 → after ≡ a
  unfolding in_records account_after
  account_none e = rw e

  module _ (some : count ≡ 0 → ⊥) where
    pub account_stopped : is_stopped a.status ≡ true → after ≡ a
    account_stopped = go count some
      where
        go : (n : ℕ) → (n ≡ 0 → ⊥) → is_stopped a.status ≡ true → account_after S seen (in_records n w bars) g a ≡ a
        go zero h e = absurd (h refl)
        go (suc n) h e = unfold in_records account_after in rw e

    module _ (runs : is_stopped a.status ≡ false) {s : Settings} (read : s ≡ settings_of g.settings) where
      account_runs : after ≡ rides_by (profile_judged g.table (settings_of g.settings) S) seen (alone S g a (in_records count w bars)) a
      account_runs = go count some
        where
          go : (n : ℕ) → (n ≡ 0 → ⊥)
              → account_after S seen (in_records n w bars) g a
              ≡ rides_by (profile_judged g.table (settings_of g.settings) S) seen (alone S g a (in_records n w bars)) a
          go zero h = absurd (h refl)
          go (suc n) h = unfold in_records account_after in rw runs

      pub account_refused : {why : Refusal} {status : List ℕ} → profile_judged g.table s S ≡ Err why
          → status ≡ stopped_with a.status (number_of why) (place_of why) seen → after ≡ record { state = a.state; rooms = a.rooms; status = status }
      unfolding rides_by
      account_refused bad put = account_runs ∙ rw (← read, bad, put)

      module _ (fine : profile_judged g.table s S ≡ Ok tt) {n x : ℕ} {l : StepLent}
          (went : calls_over g.settings (own_lists g) (record { state = a.state; rooms = a.rooms }) (map (own_bar S s.slots) (in_records count w bars))
          ≡ record { done = n; answer = x; lent = l }) where
        pub account_rode : x ≡ 0 → after ≡ record { state = l.state; rooms = l.rooms; status = a.status }
        unfolding rides_by alone own_bars status_after
        account_rode e = account_runs ∙ rw (← read, fine, went, eq-eqb x 0 e)

        pub account_stops : {status : List ℕ} → (x ≡ 0 → ⊥) → status ≡ stopped_with a.status (x / 2 ^ 32) (x % 2 ^ 32) (seen + n)
            → after ≡ record { state = l.state; rooms = l.rooms; status = status }
        unfolding rides_by alone own_bars status_after
        account_stops h put = account_runs ∙ rw (← read, fine, went, ne_eqb x 0 h, put)

-- ---- the call

module _ (bars : List ℕ) (g : Four) (l : AccountsLent) {v : Verdict}
    (lines : v ≡ judged (accounts_lines l.stream l.first.status l.second.status l.third.status l.fourth.status)) where
  pub accounts_short : {why : Refusal} {x : ℕ} → v ≡ Err why → x ≡ answer_word why → accounts_call bars g l ≡ record { answer = x; lent = none_done l }
  unfolding accounts_call accounts_by
  accounts_short bad word = rw (← lines, bad, word)

  pub accounts_ran : {S seen x : ℕ} {t : StreamTaken} {stream : List ℕ} {a b c d : AccountLent} → v ≡ Ok tt → S ≡ word l.stream 0 → seen ≡ word l.stream 1
      → t ≡ stream_taken S seen bars → x ≡ answer_of t.verdict → stream ≡ stream_after l.stream seen t.done
      → account_after S seen (in_records t.done (bar_words S) bars) g.first l.first ≡ a
      → account_after S seen (in_records t.done (bar_words S) bars) g.second l.second ≡ b
      → account_after S seen (in_records t.done (bar_words S) bars) g.third l.third ≡ c
      → account_after S seen (in_records t.done (bar_words S) bars) g.fourth l.fourth ≡ d
      → accounts_call bars g l ≡ record { answer = x; lent = record { stream = stream; done = t.done; first = a; second = b; third = c; fourth = d } }
  unfolding accounts_call accounts_by after_bars
  accounts_ran fine slots count taken told put first second third fourth =
      rw (← lines, fine, ← slots, ← count, ← taken, ← told, ← put, first, second, third, fourth)

-- what the stream takes lies within its list
pub taken_so : {S seen : ℕ} {bars : List ℕ} {t : StreamTaken} → t ≡ stream_taken S seen bars → Within S seen bars t.done
taken_so {S} {seen} {bars} e = rw e (taken_within S seen bars)
