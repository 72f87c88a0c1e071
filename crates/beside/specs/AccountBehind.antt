-- One account over bars behind bars: what it comes to over the first, and then over the second, is what it comes to over both.
use Rattle.std.specs.Prelude.{ℕ, ◌+◌, ◌/◌, ◌%◌, ◌^◌, ◌≤◌, ◌≡◌, refl, Bool, true, false, cond, List, [], ◌∷◌, ◌++◌, map, eqb, length, Err, Ok, Result}
use Rattle.words.specs.Prelude.{sym, ◌∙◌, append-nil, arith, eq-eqb}
use Rattle.words.specs.Prelude.{ne_eqb, eqb-true, eqb-false}
use Rattle.words.specs.{declared.refusal.Refusal.Refusal, Laws.Overwrite.overwrite-length}
use Rattle.table.specs.{Checked.checked}
use Rattle.records.specs.{Settings.settings_of}
use Rattle.refusals.specs.{Laws.Lines.never, Lines.judged}
use Rattle.accounts.specs.{Own.own_bar, Profile.within_profile, Profile.after_table, Profile.profile_judged, Status.status_words, Status.is_stopped}
use Rattle.accounts.specs.{Status.stopped_with}
use Rattle.stepping.specs.{WordRun.WordRun, WordRun.calls_over}
use Rattle.streamed.specs.{Accounts.AccountGiven, Accounts.AccountLent, Accounts.alone, Accounts.own_bars, Accounts.own_lists, Accounts.status_after}
use Rattle.streamed.specs.{Accounts.rides_by, Accounts.account_after}
use Rattle.capi.specs.{Laws.Calls.FitsAnswer, Laws.TableCalls.table_number}
use Rattle.beside.specs.{Appended.more_calls, Appended.calls_behind, Appended.calls_ended, Appended.calls_number, NeverEleven.stopped_number}
use Rattle.refusals.specs.{Lines.Verdict}
use Rattle.table.specs.{declared.answer.Accepted.Accepted}
use Rattle.std.proofs.lemmas.List.{map-append}
use Rattle.std.proofs.Math.ListN.{length-map}
use Rattle.words.specs.{Outcome.number_of, Outcome.place_of}

-- a table, or the profile, stops an account with a number
outside_number : (within : Bool) (a : Result Accepted Refusal) (why : Refusal) → ((r : Refusal) → a ≡ Err r → FitsAnswer r)
    → after_table a within ≡ Err why → number_of why ≡ 0 → ⊥
unfolding after_table judged
outside_number within (Err q) why small e none = let same : (number_of q) ≡ (number_of why) = cc in omega (arith, (small q refl).some, same, none)
outside_number true (Ok accepted) why small e none = never (sym e)
outside_number false (Ok accepted) why small e none = let same : 21 ≡ (number_of why) = cc in omega (arith, same, none)

-- a status that was given a number is stopped
stays_stopped : (status : List ℕ) (number place bar : ℕ) → status_words ≤ length status → (number ≡ 0 → ⊥)
    → is_stopped (stopped_with status number place bar) ≡ true
unfolding is_stopped
stays_stopped status number place bar room some = rw (stopped_number status number place bar room, ne_eqb number 0 some)

-- an account that is stopped stays as it is
after_stopped : (S seen : ℕ) (bars : List (List ℕ)) (g : AccountGiven) (a : AccountLent) → is_stopped a.status ≡ true → account_after S seen bars g a ≡ a
unfolding account_after
after_stopped S seen [] g a e = refl
after_stopped S seen (bar ∷ bars) g a e = rw e

pub status_long : (S seen : ℕ) (bars : List (List ℕ)) (g : AccountGiven) (a : AccountLent) → length (account_after S seen bars g a).status ≡ length a.status
unfolding account_after
status_long S seen [] g a = refl
status_long S seen (bar ∷ bars) g a = go (is_stopped a.status) (profile_judged g.table (settings_of g.settings) S)
  where
    r : WordRun
    r = alone S g a (bar ∷ bars)

    stays : (b : Bool) (number place at : ℕ) → length (cond b a.status (stopped_with a.status number place at)) ≡ length a.status
    stays true number place at = refl
    stays false number place at = unfold stopped_with in overwrite-length a.status 0 (number ∷ place ∷ at ∷ [])

    go : (b : Bool) (v : Verdict) → length (cond b a (rides_by v seen r a)).status ≡ length a.status
    go true v = refl
    go false (Err why) = unfold rides_by in stays false (number_of why) (place_of why) seen
    go false (Ok _) = unfold rides_by status_after in stays (eqb r.answer 0) (r.answer / 2 ^ 32) (r.answer % 2 ^ 32) (seen + r.done)

-- one that runs, and fits the profile
after_runs : (S seen : ℕ) (bar : List ℕ) (bars : List (List ℕ)) (g : AccountGiven) (a : AccountLent) → is_stopped a.status ≡ false
    → profile_judged g.table (settings_of g.settings) S ≡ Ok tt → account_after S seen (bar ∷ bars) g a ≡ rides_by (Ok tt) seen (alone S g a (bar ∷ bars)) a
unfolding account_after
after_runs S seen bar bars g a runs fine = rw (runs, fine)

-- and one that does not
after_refused : (S seen : ℕ) (bar : List ℕ) (bars : List (List ℕ)) (g : AccountGiven) (a : AccountLent) → is_stopped a.status ≡ false
    → (why : Refusal) → profile_judged g.table (settings_of g.settings) S ≡ Err why
    → account_after S seen (bar ∷ bars) g a ≡ rides_by (Err why) seen (alone S g a (bar ∷ bars)) a
unfolding account_after
after_refused S seen bar bars g a runs why bad = rw (runs, bad)

-- it is stopped then
refused_stops : (why : Refusal) (seen : ℕ) (r : WordRun) (a : AccountLent) → status_words ≤ length a.status → (number_of why ≡ 0 → ⊥)
    → is_stopped (rides_by (Err why) seen r a).status ≡ true
unfolding rides_by
refused_stops why seen r a room some = stays_stopped a.status (number_of why) (place_of why) seen room some

-- whatever it would have come to
refused_alike : (why : Refusal) (seen : ℕ) (r q : WordRun) (a : AccountLent) → rides_by (Err why) seen r a ≡ rides_by (Err why) seen q a
unfolding rides_by
refused_alike why seen r q a = refl

-- what an account that was not refused is left with, and what k calls before do to it
abbrev went_on : WordRun → AccountLent → AccountLent
went_on r a = record { state = r.lent.state; rooms = r.lent.rooms; status = a.status }

-- with all bars taken its status stays
rode_all : (seen : ℕ) (r : WordRun) (a : AccountLent) → r.answer ≡ 0 → rides_by (Ok tt) seen r a ≡ went_on r a
unfolding rides_by status_after
rode_all seen r a done = rw (eq-eqb r.answer 0 done)

-- k calls before count as k bars of the stream
rode_later : (seen k : ℕ) (q : WordRun) (a b : AccountLent) → b.status ≡ a.status → rides_by (Ok tt) seen (more_calls k q) a ≡ rides_by (Ok tt) (seen + k) q b
unfolding rides_by status_after
rode_later seen k q a b same = let at : seen + (q.done + k) ≡ seen + k + q.done = omega arith in rw (at, same)

module _ (S seen : ℕ) (bar next : List ℕ) (a b : List (List ℕ)) (g : AccountGiven) (x : AccountLent) (room : status_words ≤ length x.status) where
  abbrev front : List (List ℕ)
  front = bar ∷ a

  abbrev back : List (List ℕ)
  back = next ∷ b

  abbrev r : WordRun
  r = alone S g x front

  -- what the calls behind come to
  abbrev later : WordRun
  later = calls_over g.settings (own_lists g) r.lent (own_bars S g back)

  alone_behind : r.answer ≡ 0 → alone S g x (front ++ back) ≡ more_calls (length front) later
  unfolding alone own_bars
  alone_behind done =
      let own : List ℕ → List ℕ = own_bar S (settings_of g.settings).slots in
      rw (map-append own front back, calls_behind g.settings (own_lists g) (map own front) (map own back) _ done, length-map front own)

  alone_ended : (r.answer ≡ 0 → ⊥) → alone S g x (front ++ back) ≡ r
  unfolding alone own_bars
  alone_ended bad =
      let own : List ℕ → List ℕ = own_bar S (settings_of g.settings).slots in
      rw (map-append own front back) (calls_ended g.settings (own_lists g) (map own front) (map own back) _ bad)

  rode_on : profile_judged g.table (settings_of g.settings) S ≡ Ok tt → is_stopped x.status ≡ false → r.answer ≡ 0
      → rides_by (Ok tt) seen (alone S g x (front ++ back)) x ≡ account_after S (seen + length front) back g (rides_by (Ok tt) seen r x)
  rode_on fine runs done =
      let on : alone S g (went_on r x) back ≡ later = unfold alone in refl in
      rw (rode_all seen r x done, alone_behind done, after_runs S (seen + length front) next b g (went_on r x) runs fine, on)
      (rode_later seen (length front) later x (went_on r x) refl)

  rode_ended : (r.answer ≡ 0 → ⊥) → rides_by (Ok tt) seen (alone S g x (front ++ back)) x ≡ account_after S (seen + length front) back g (rides_by (Ok tt) seen r x)
  rode_ended bad =
      let number = calls_number g.settings (own_lists g) (own_bars S g front) (record { state = x.state; rooms = x.rooms }) (unfold alone in bad) in
      let stopped : is_stopped (rides_by (Ok tt) seen r x).status ≡ true =
      unfold rides_by status_after in
      rw (ne_eqb r.answer 0 bad) (stays_stopped x.status (r.answer / 2 ^ 32) (r.answer % 2 ^ 32) (seen + r.done) room (unfold alone in number)) in
      rw (alone_ended bad) (sym (after_stopped S (seen + length front) back g (rides_by (Ok tt) seen r x) stopped))

  refused_both : (why : Refusal) → profile_judged g.table (settings_of g.settings) S ≡ Err why
      → rides_by (Err why) seen (alone S g x (front ++ back)) x ≡ account_after S (seen + length front) back g (rides_by (Err why) seen r x)
  refused_both why bad =
      let number : (number_of why) ≡ 0 → ⊥ =
      outside_number (within_profile g.table (settings_of g.settings) S) (checked g.table) why (table_number g.table) (unfold profile_judged in bad) in
      refused_alike why seen (alone S g x (front ++ back)) r x
      ∙ sym (after_stopped S (seen + length front) back g (rides_by (Err why) seen r x) (refused_stops why seen r x room number))

  some_behind : account_after S seen (front ++ back) g x ≡ account_after S (seen + length front) back g (account_after S seen front g x)
  some_behind = go (is_stopped x.status) refl (profile_judged g.table (settings_of g.settings) S) refl
    where
      by : (answer : Bool) → eqb r.answer 0 ≡ answer → profile_judged g.table (settings_of g.settings) S ≡ Ok tt → is_stopped x.status ≡ false
          → rides_by (Ok tt) seen (alone S g x (front ++ back)) x ≡ account_after S (seen + length front) back g (rides_by (Ok tt) seen r x)
      by true e fine runs = rode_on fine runs (eqb-true _ _ e)
      by false e fine runs = rode_ended (eqb-false _ _ e)

      go : (stopped : Bool) → is_stopped x.status ≡ stopped → (v : Verdict) → profile_judged g.table (settings_of g.settings) S ≡ v
          → account_after S seen (front ++ back) g x ≡ account_after S (seen + length front) back g (account_after S seen front g x)
      go true e v f =
          let same : account_after S seen front g x ≡ x = after_stopped S seen front g x e in
          rw same (after_stopped S seen (front ++ back) g x e ∙ sym (after_stopped S (seen + length front) back g x e))
      go false e (Err why) f =
          rw (after_refused S seen bar a g x e why f) (after_refused S seen bar (a ++ back) g x e why f ∙ refused_both why f)
      go false e (Ok _) f =
          rw (after_runs S seen bar a g x e f) (after_runs S seen bar (a ++ back) g x e f ∙ by (eqb r.answer 0) refl f e)

-- AN ACCOUNT over bars behind bars: over those behind, on what those in front left
pub account_behind : (S seen : ℕ) (a b : List (List ℕ)) (g : AccountGiven) (x : AccountLent) → status_words ≤ length x.status
    → account_after S seen (a ++ b) g x ≡ account_after S (seen + length a) b g (account_after S seen a g x)
account_behind S seen [] b g x room =
    let none : seen + 0 ≡ seen = omega arith in
    let same : account_after S seen [] g x ≡ x = unfold account_after in refl in
    rw (none, same)
account_behind S seen (bar ∷ a) [] g x room =
    let none : (y : AccountLent) → account_after S (seen + length (bar ∷ a)) [] g y ≡ y = λ y. unfold account_after in refl in
    rw (append-nil a, none)
account_behind S seen (bar ∷ a) (next ∷ b) g x room = some_behind S seen bar next a b g x room
