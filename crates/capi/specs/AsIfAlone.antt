-- Request 14: "An account's results must be those it would have alone on the accepted bars and its own slots, whatever the others' tables say. An account that
-- refuses a bar is stopped at it, with number and place, while the others go on; a bar refused with 11 changes and stops none."
use Rattle.std.specs.Prelude.{ℕ, ◌+◌, ◌/◌, ◌%◌, ◌^◌, ◌≡◌, refl, List, [], ◌∷◌, Err, Ok}
use Rattle.words.specs.Prelude.{arith, eq-eqb, ne_eqb}
use Rattle.words.specs.{declared.refusal.Refusal.Refusal, Limits.bar_words, Words.word}
use Rattle.records.specs.{Settings.settings_of}
use Rattle.refusals.specs.{Lines.judged}
use Rattle.engine.specs.{Day.in_records}
use Rattle.accounts.specs.{declared.stream.StreamTaken.StreamTaken, Profile.profile_judged, Status.is_stopped, Status.stopped_with, Stream.stream_taken}
use Rattle.replies.specs.{Call.Call, Call.answer_word}
use Rattle.stepping.specs.{WordRun.WordRun, WordRun.calls_over, WordRun.answer_of}
use Rattle.streamed.specs.{Accounts.AccountGiven, Accounts.AccountLent, Accounts.AccountsLent, Accounts.Four, Accounts.alone, Accounts.status_after}
use Rattle.streamed.specs.{Accounts.rides_by, Accounts.own_bars, Accounts.account_after, Accounts.accounts_lines, Accounts.none_done, Accounts.stream_after}
use Rattle.streamed.specs.{Accounts.after_bars, Accounts.accounts_by, Accounts.accounts_call}
use Rattle.refusals.specs.{Lines.Verdict}
use Rattle.words.specs.{Outcome.number_of, Outcome.place_of}

-- ---- which of the four

pub data Which : Type 0 where
  first : Which
  second : Which
  third : Which
  fourth : Which

unfoldable pub given_to : Which → Four → AccountGiven
given_to first g = g.first
given_to second g = g.second
given_to third g = g.third
given_to fourth g = g.fourth

unfoldable pub lent_to : Which → AccountsLent → AccountLent
lent_to first l = l.first
lent_to second l = l.second
lent_to third l = l.third
lent_to fourth l = l.fourth

-- ---- one account

-- its words are those that r, `ysh_step` by itself, leaves; it is stopped where that was refused, with number, place and the stream's bar
pub record Rode (seen : ℕ) (a b : AccountLent) (r : WordRun) : Type 0 where
  pub state : b.state ≡ r.lent.state
  pub rooms : b.rooms ≡ r.lent.rooms
  pub runs : r.answer ≡ 0 → b.status ≡ a.status
  pub stops : (r.answer ≡ 0 → ⊥) → b.status ≡ stopped_with a.status (r.answer / 2 ^ 32) (r.answer % 2 ^ 32) (seen + r.done)

-- of an account that was lent a and is left b, over the bars that the stream took
pub record AsAlone (S seen : ℕ) (bars : List (List ℕ)) (g : AccountGiven) (a b : AccountLent) : Type 0 where
  -- none: as it was
  pub none : bars ≡ [] → b ≡ a
  -- stopped before: as it was
  pub stopped : (word a.status 0 ≡ 0 → ⊥) → b ≡ a
  -- refused by its table or the profile: that stands in its status, and nothing else has changed
  pub refused : (bars ≡ [] → ⊥) → word a.status 0 ≡ 0 → (why : Refusal) → profile_judged g.table (settings_of g.settings) S ≡ Err why
      → b ≡ record { state = a.state; rooms = a.rooms; status = stopped_with a.status (number_of why) (place_of why) seen }
  -- any other: as alone
  pub rides : word a.status 0 ≡ 0 → profile_judged g.table (settings_of g.settings) S ≡ Ok tt → Rode seen a b (alone S g a bars)

-- ---- the call

module _ (bars : List ℕ) (g : Four) (l : AccountsLent) where
  abbrev pub slots : ℕ
  slots = word l.stream 0

  abbrev pub seen : ℕ
  seen = word l.stream 1

  -- what the stream takes
  abbrev pub taken : StreamTaken
  taken = stream_taken slots seen bars

  abbrev pub call : Call AccountsLent
  call = accounts_call bars g l

  abbrev pub rooms_judged : Verdict
  rooms_judged = judged (accounts_lines l.stream l.first.status l.second.status l.third.status l.fourth.status)

  pub record AsIfAlone : Type 0 where
    -- a room of the call's own that is too small: nothing is done
    pub short : (why : Refusal) → rooms_judged ≡ Err why → call ≡ record { answer = answer_word why; lent = none_done l }
    -- the answer is what the stream, or its first bar that is not taken, is refused with; 0 where it takes all
    pub answer : rooms_judged ≡ Ok tt → call.answer ≡ answer_of taken.verdict
    -- so many are done, and the stream has so many bars more
    pub done : rooms_judged ≡ Ok tt → call.lent.done ≡ taken.done
    pub stream : rooms_judged ≡ Ok tt → call.lent.stream ≡ stream_after l.stream seen taken.done
    -- each account is as it would be alone, whatever the others are
    pub account : rooms_judged ≡ Ok tt → (which : Which)
        → AsAlone slots seen (in_records taken.done (bar_words slots) bars) (given_to which g) (lent_to which l) (lent_to which call.lent)

rode : (seen : ℕ) (a : AccountLent) (r : WordRun) → Rode seen a (rides_by (Ok tt) seen r a) r
unfolding rides_by status_after
rode seen a r = record { state = refl; rooms = refl; runs = λ e. rw (eq-eqb r.answer 0 e); stops = λ h. rw (ne_eqb r.answer 0 h) }

-- over no bars
alone-none : (S seen : ℕ) (g : AccountGiven) (a : AccountLent) → Rode seen a a (alone S g a [])
unfolding alone own_bars calls_over
alone-none S seen g a = record { state = refl; rooms = refl; runs = λ e. refl; stops = λ h. absurd (h refl) }

as_alone : (S seen : ℕ) (bars : List (List ℕ)) (g : AccountGiven) (a : AccountLent) → AsAlone S seen bars g a (account_after S seen bars g a)
unfolding account_after is_stopped rides_by
as_alone S seen [] g a = record {
  none = λ e. refl;
  stopped = λ h. refl;
  refused = λ some. absurd (some refl);
  rides = λ running fine. alone-none S seen g a;
}
as_alone S seen (bar ∷ bars) g a = record {
  none = λ e. absurd (let z : ◌≡◌ {A = ℕ} 0 1 = cc in omega arith);
  stopped = λ h. rw (ne_eqb (word a.status 0) 0 h);
  refused = λ some running why bad. rw (eq-eqb (word a.status 0) 0 running, bad);
  rides = λ running fine. rw (eq-eqb (word a.status 0) 0 running, fine) (rode seen a (alone S g a (bar ∷ bars)));
}

-- THE ACCOUNTS ARE AS IF ALONE: any stream, any bars and any four accounts, whatever all their words hold
pub as_if_alone : (bars : List ℕ) (g : Four) (l : AccountsLent) → AsIfAlone bars g l
unfolding accounts_call accounts_by after_bars given_to lent_to
as_if_alone bars g l = record {
  short = λ why e. rw e;
  answer = λ e. rw e;
  done = λ e. rw e;
  stream = λ e. rw e;
  account = λ e which. rw e (by which);
}
  where
    own : List (List ℕ)
    own = in_records (taken bars g l).done (bar_words (slots bars g l)) bars

    by : (which : Which) → AsAlone (slots bars g l) (seen bars g l) own (given_to which g) (lent_to which l)
        (lent_to which (after_bars (slots bars g l) (seen bars g l) (taken bars g l) bars g l))
    by first = as_alone (slots bars g l) (seen bars g l) own g.first l.first
    by second = as_alone (slots bars g l) (seen bars g l) own g.second l.second
    by third = as_alone (slots bars g l) (seen bars g l) own g.third l.third
    by fourth = as_alone (slots bars g l) (seen bars g l) own g.fourth l.fourth
