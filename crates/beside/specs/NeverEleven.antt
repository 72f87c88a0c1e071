-- Request 14: "a bar refused with 11 changes and stops none". A bar that 11 accepts for the stream's slots is one that 11 accepts for fewer: so 11 is
-- never an account's.
use Rattle.std.specs.Prelude.{ℕ, ◌/◌, ◌^◌, ◌≤◌, ◌≡◌, refl, Bool, true, false, List, [], ◌∷◌, eqb, length, Err, Ok, Result}
use Rattle.words.specs.Prelude.{sym, ap, ◌∙◌, arith, eqb-true, eqb-false, leb-true}
use Rattle.words.specs.{declared.refusal.Refusal.Refusal, Limits.bar_words, Words.word}
use Rattle.table.specs.{Checked.checked}
use Rattle.records.specs.{Settings.settings_of}
use Rattle.refusals.specs.{Laws.Lines.never, Laws.Lines.first_holds, Lines.judged}
use Rattle.engine.specs.{Day.in_records}
use Rattle.accounts.specs.{Laws.Own.overwrite_start, Laws.Profile.profile_slots, Profile.within_profile, Profile.after_table, Profile.profile_judged}
use Rattle.accounts.specs.{Status.status_words, Status.stopped_with}
use Rattle.replies.specs.{Call.Call}
use Rattle.stepping.specs.{WordRun.WordRun}
use Rattle.streamed.specs.{Accounts.AccountGiven, Accounts.AccountLent, Accounts.AccountsLent, Accounts.Four, Accounts.alone, Accounts.own_bars}
use Rattle.streamed.specs.{Accounts.own_lists, Accounts.accounts_lines, Accounts.none_done}
use Rattle.capi.specs.{AsIfAlone.Which, AsIfAlone.first, AsIfAlone.second, AsIfAlone.third, AsIfAlone.fourth, AsIfAlone.given_to, AsIfAlone.lent_to}
use Rattle.capi.specs.{AsIfAlone.Rode, AsIfAlone.AsAlone, AsIfAlone.slots, AsIfAlone.seen, AsIfAlone.taken, AsIfAlone.call, AsIfAlone.rooms_judged}
use Rattle.capi.specs.{AsIfAlone.as_if_alone, Laws.TableCalls.OneToNine, Laws.TableCalls.one_to_nine}
use Rattle.beside.specs.{Step.calls_other, Taken.AllFine, Taken.taken_fine}
use Rattle.refusals.specs.{Lines.Verdict}
use Rattle.table.specs.{declared.answer.Accepted.Accepted}
use Rattle.words.specs.{Outcome.number_of, Outcome.place_of}

-- ---- an account's table and the profile

outside_other : (within : Bool) (a : Result Accepted Refusal) (why : Refusal) → ((r : Refusal) → a ≡ Err r → OneToNine r) → after_table a within ≡ Err why
    → number_of why ≡ 11 → ⊥
unfolding after_table judged
outside_other within (Err q) why nine e eleven = let same : (number_of q) ≡ (number_of why) = cc in omega (arith, (nine q refl).most, same, eleven)
outside_other true (Ok accepted) why nine e eleven = never (sym e)
outside_other false (Ok accepted) why nine e eleven = let same : 21 ≡ (number_of why) = cc in omega (arith, same, eleven)

-- ---- its status

pub stopped_number : (status : List ℕ) (number place bar : ℕ) → status_words ≤ length status → word (stopped_with status number place bar) 0 ≡ number
unfolding stopped_with
stopped_number status number place bar h = rw (overwrite_start status (number ∷ place ∷ bar ∷ []) h)

rode_other : (seen : ℕ) (a b : AccountLent) (r : WordRun) → Rode seen a b r → status_words ≤ length a.status → word a.status 0 ≡ 0
    → (r.answer / 2 ^ 32 ≡ 11 → ⊥) → word b.status 0 ≡ 11 → ⊥
rode_other seen a b r rode room running other eleven = go (eqb r.answer 0) refl
  where
    number : {ws : List ℕ} → b.status ≡ ws → word b.status 0 ≡ word ws 0
    number e = ap (λ (ws : List ℕ). word ws 0) e

    go : (d : Bool) → eqb r.answer 0 ≡ d → ⊥
    go true e = omega (arith, number (rode.runs (eqb-true _ _ e)), running, eleven)
    go false e = other (sym (number (rode.stops (eqb-false _ _ e)) ∙ stopped_number _ _ _ _ room) ∙ eleven)

-- of an account that runs: over bars that 11 accepts it is not stopped with 11
account_other : (S seen : ℕ) (bars : List (List ℕ)) (g : AccountGiven) (a b : AccountLent) → AsAlone S seen bars g a b → AllFine S bars
    → status_words ≤ length a.status → word a.status 0 ≡ 0 → word b.status 0 ≡ 11 → ⊥
unfolding profile_judged alone own_bars
account_other S seen [] g a b is fine room running eleven =
    let same : word b.status 0 ≡ word a.status 0 = ap (λ (x : AccountLent). word x.status 0) (is.none refl) in
    omega (arith, same, running, eleven)
account_other S seen (bar ∷ bars) g a b is fine room running eleven = go (profile_judged g.table (settings_of g.settings) S) refl
  where
    some : bar ∷ bars ≡ [] → ⊥
    some e = let z : ◌≡◌ {A = ℕ} 0 1 = cc in omega arith

    go : (v : Verdict) → profile_judged g.table (settings_of g.settings) S ≡ v → ⊥
    go (Err why) e =
        let told : word b.status 0 ≡ (number_of why) =
        ap (λ (x : AccountLent). word x.status 0) (is.refused some running why e)
        ∙ stopped_number a.status (number_of why) (place_of why) seen room in
        outside_other (within_profile g.table (settings_of g.settings) S) (checked g.table) why (one_to_nine g.table) e (sym told ∙ eleven)
    go (Ok _) e =
        let few : (settings_of g.settings).slots ≤ S = profile_slots g.table (settings_of g.settings) S e in
        rode_other seen a b (alone S g a (bar ∷ bars)) (is.rides running e) room running
        (calls_other S g.settings (own_lists g) few (bar ∷ bars) fine (record { state = a.state; rooms = a.rooms })) eleven

-- ---- the call

pub none_done_lem : (which : Which) (l : AccountsLent) → lent_to which (none_done l) ≡ lent_to which l
unfolding lent_to
none_done_lem first l = refl
none_done_lem second l = refl
none_done_lem third l = refl
none_done_lem fourth l = refl

-- where the rooms of the call are fine, each status has its three words
pub statuses : (l : AccountsLent) (which : Which)
    → judged (accounts_lines l.stream l.first.status l.second.status l.third.status l.fourth.status) ≡ Ok tt
    → status_words ≤ length (lent_to which l).status
unfolding accounts_lines lent_to
statuses l first h = leb-true _ _ (first_holds _ _ (first_holds _ _ h).1).0
statuses l second h = leb-true _ _ (first_holds _ _ (first_holds _ _ (first_holds _ _ h).1).1).0
statuses l third h = leb-true _ _ (first_holds _ _ (first_holds _ _ (first_holds _ _ (first_holds _ _ h).1).1).1).0
statuses l fourth h = leb-true _ _ (first_holds _ _ (first_holds _ _ (first_holds _ _ (first_holds _ _ (first_holds _ _ h).1).1).1).1).0

-- NO ACCOUNT IS STOPPED WITH 11: whatever the stream, the bars and all words of the four accounts hold, one that runs is not at 11 after the call. (One
-- that was stopped before is as it was: `as_if_alone`.)
pub never_eleven : (bars : List ℕ) (g : Four) (l : AccountsLent) (which : Which) → word (lent_to which l).status 0 ≡ 0
    → word (lent_to which (call bars g l).lent).status 0 ≡ 11 → ⊥
never_eleven bars g l which running eleven = go (rooms_judged bars g l) refl
  where
    go : (v : Verdict) → rooms_judged bars g l ≡ v → ⊥
    go (Err why) e =
        let same : lent_to which (call bars g l).lent ≡ lent_to which l =
        ap (λ (c : Call AccountsLent). lent_to which c.lent) ((as_if_alone bars g l).short why e) ∙ none_done_lem which l in
        let number : word (lent_to which (call bars g l).lent).status 0 ≡ word (lent_to which l).status 0 =
        ap (λ (x : AccountLent). word x.status 0) same in
        omega (arith, number, running, eleven)
    go (Ok _) e =
        account_other (slots bars g l) (seen bars g l) (in_records (taken bars g l).done (bar_words (slots bars g l)) bars) (given_to which g) (lent_to which l)
        (lent_to which (call bars g l).lent)
        ((as_if_alone bars g l).account e which) (taken_fine (slots bars g l) (seen bars g l) bars) (statuses l which e) running eleven
