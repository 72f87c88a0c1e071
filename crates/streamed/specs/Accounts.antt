-- Four accounts on one stream (request 14), on words. "Each account has its table, settings, state and rooms; the bar and the slots are shared."
-- Definitions only.
use Rattle.std.specs.Prelude.{ℕ, ◌+◌, ◌/◌, ◌%◌, ◌^◌, cond, List, [], ◌∷◌, map, leb, eqb, length, Err, Ok}
use Rattle.words.specs.{Limits.bar_words, Words.word, Words.overwrite}
use Rattle.records.specs.{Lent.Rooms, Lent.Lists, Lent.rooms, Lent.lists, Settings.settings_of}
use Rattle.refusals.specs.{Lines.Line}
use Rattle.refusals.specs.{Lines.line, Lines.judged}
use Rattle.engine.specs.{Day.in_records}
use Rattle.accounts.specs.{declared.stream.StreamTaken.StreamTaken, Own.own_bar, Profile.profile_judged, Status.status_words}
use Rattle.accounts.specs.{Status.is_stopped, Status.stopped_with, Stream.stream_taken}
use Rattle.replies.specs.{Call.Call, Call.answer_word}
use Rattle.stepping.specs.{WordRun.WordRun, WordRun.calls_over, WordRun.answer_of}
use Rattle.refusals.specs.{Lines.Verdict}
use Rattle.words.specs.declared.refusal.Refusal.TheVariants as Refusal
use Rattle.words.specs.{Outcome.number_of, Outcome.place_of}

-- what an account is handed to read
pub record AccountGiven : Type 0 where
  pub table : List ℕ
  pub settings : List ℕ
  pub entry : List ℕ
  pub «exit» : List ℕ

abbrev pub given : List ℕ → List ℕ → List ℕ → List ℕ → AccountGiven
given table settings entry «exit» = record { table = table; settings = settings; entry = entry; «exit» = «exit» }

-- what it is lent for writing
pub record AccountLent : Type 0 where
  pub state : List ℕ
  pub rooms : Rooms
  pub status : List ℕ

abbrev pub lent : List ℕ → List ℕ → List ℕ → List ℕ → List ℕ → AccountLent
lent state rows equity trades status = record { state = state; rooms = rooms rows equity trades; status = status }

-- the stream: its slots, and the bars that it has taken
abbrev pub stream_words : ℕ
stream_words = 2

-- ---- one account, alone

-- "no short trees": its short lists are empty
abbrev pub own_lists : AccountGiven → Lists
own_lists g = lists g.entry g.«exit» [] []

-- its own part of each bar; K is its setting 0
unfoldable pub own_bars : ℕ → AccountGiven → List (List ℕ) → List (List ℕ)
own_bars S g bars = map (own_bar S (settings_of g.settings).slots) bars

-- THE ACCOUNT ALONE: `ysh_step` by itself on its own bars, one after another, up to the first that is refused
unfoldable pub alone : ℕ → AccountGiven → AccountLent → List (List ℕ) → WordRun
alone S g a bars = calls_over g.settings (own_lists g) (record { state = a.state; rooms = a.rooms }) (own_bars S g bars)

-- ---- on the stream

-- the number and the place of an answer other than 0
unfoldable pub status_after : List ℕ → ℕ → WordRun → List ℕ
status_after status seen r = cond (eqb r.answer 0) status (stopped_with status (r.answer / 2 ^ 32) (r.answer % 2 ^ 32) (seen + r.done))

-- by the verdict on its table and profile
unfoldable pub rides_by : Verdict → ℕ → WordRun → AccountLent → AccountLent
rides_by (Err why) seen r a = record { state = a.state; rooms = a.rooms; status = stopped_with a.status (number_of why) (place_of why) seen }
rides_by (Ok _) seen r a = record { state = r.lent.state; rooms = r.lent.rooms; status = status_after a.status seen r }

-- over the bars that the stream takes: none stop nobody, and one that was stopped is not touched
unfoldable pub account_after : ℕ → ℕ → List (List ℕ) → AccountGiven → AccountLent → AccountLent
account_after S seen [] g a = a
account_after S seen (bar ∷ bars) g a =
    cond (is_stopped a.status) a (rides_by (profile_judged g.table (settings_of g.settings) S) seen (alone S g a (bar ∷ bars)) a)

-- ---- the call

-- the stream's words, how many bars it took, and the four accounts
pub record AccountsLent : Type 0 where
  pub stream : List ℕ
  pub done : ℕ
  pub first : AccountLent
  pub second : AccountLent
  pub third : AccountLent
  pub fourth : AccountLent

pub record Four : Type 0 where
  pub first : AccountGiven
  pub second : AccountGiven
  pub third : AccountGiven
  pub fourth : AccountGiven

-- "10: a lent room below the size these papers name": room 16 holds the stream, room 17 a status
unfoldable pub accounts_lines : List ℕ → List ℕ → List ℕ → List ℕ → List ℕ → List Line
accounts_lines stream a b c d =
    line (leb stream_words (length stream)) (Refusal.Room 16)
    ∷ line (leb status_words (length a)) (Refusal.Room 17)
    ∷ line (leb status_words (length b)) (Refusal.Room 17)
    ∷ line (leb status_words (length c)) (Refusal.Room 17)
    ∷ line (leb status_words (length d)) (Refusal.Room 17)
    ∷ []

-- with no bar done
abbrev pub none_done : AccountsLent → AccountsLent
none_done l = record { stream = l.stream; done = 0; first = l.first; second = l.second; third = l.third; fourth = l.fourth }

-- so many bars more; where none was taken, the words are those that were given
unfoldable pub stream_after : List ℕ → ℕ → ℕ → List ℕ
stream_after stream seen done = cond (eqb done 0) stream (overwrite stream 1 ((seen + done) ∷ []))

-- the stream's bars first, then each account over those that it took
unfoldable pub after_bars : ℕ → ℕ → StreamTaken → List ℕ → Four → AccountsLent → AccountsLent
after_bars S seen t bars g l =
    let own = in_records t.done (bar_words S) bars in
    record {
      stream = stream_after l.stream seen t.done;
      done = t.done;
      first = account_after S seen own g.first l.first;
      second = account_after S seen own g.second l.second;
      third = account_after S seen own g.third l.third;
      fourth = account_after S seen own g.fourth l.fourth;
    }

unfoldable pub accounts_by : Verdict → List ℕ → Four → AccountsLent → Call AccountsLent
accounts_by (Err why) bars g l = record { answer = answer_word why; lent = none_done l }
accounts_by (Ok _) bars g l =
    let S = word l.stream 0 in
    let seen = word l.stream 1 in
    let t = stream_taken S seen bars in
    record { answer = answer_of t.verdict; lent = after_bars S seen t bars g l }

unfoldable pub accounts_call : List ℕ → Four → AccountsLent → Call AccountsLent
accounts_call bars g l =
    accounts_by (judged (accounts_lines l.stream l.first.status l.second.status l.third.status l.fourth.status)) bars g l
