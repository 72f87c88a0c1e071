-- Request 14: one call over a list of bars is calls over its parts.
use Rattle.std.specs.Prelude.{ℕ, ◌+◌, ◌≤◌, ◌≡◌, refl, true, cond, List, [], ◌∷◌, ◌++◌, eqb, length, Err, Ok}
use Rattle.words.specs.Prelude.{sym, ap, subst, ◌∙◌, append-nil, arith, ne_eqb, leb-true}
use Rattle.words.specs.{declared.refusal.Refusal.Refusal, Limits.bar_words, Words.word}
use Rattle.refusals.specs.{Day.whole_bars, Laws.Lines.never, Laws.Lines.first_holds, Lines.judged}
use Rattle.engine.specs.{Day.in_records}
use Rattle.accounts.specs.{declared.stream.StreamTaken.StreamTaken, Laws.Stream.records_length, Laws.Stream.taken_within, Status.status_words}
use Rattle.accounts.specs.{Stream.stream_taken}
use Rattle.replies.specs.{Call.Call}
use Rattle.stepping.specs.{WordRun.answer_of}
use Rattle.streamed.specs.{Accounts.AccountGiven, Accounts.AccountLent, Accounts.AccountsLent, Accounts.Four, Accounts.stream_words, Accounts.account_after}
use Rattle.streamed.specs.{Accounts.accounts_lines, Accounts.after_bars, Accounts.accounts_by, Accounts.accounts_call}
use Rattle.capi.specs.{AsIfAlone.lent_to, AsIfAlone.taken, AsIfAlone.rooms_judged, AsIfAlone.first, AsIfAlone.second, AsIfAlone.third, AsIfAlone.fourth}
use Rattle.beside.specs.{Appended.records_front, Appended.records_behind, Honest.call_judged, Honest.accounts_honest, NeverEleven.statuses}
use Rattle.beside.specs.{AccountBehind.status_long, AccountBehind.account_behind, StreamBehind.counted, StreamBehind.stream_long, StreamBehind.whole_both}
use Rattle.beside.specs.{StreamBehind.Behind, StreamBehind.taken_behind, StreamBehind.taken_ended}
use Rattle.refusals.specs.{Lines.Verdict}
use Rattle.std.proofs.Math.Nat.{zero-mod}

-- ---- what is said

-- Calls over parts, one after another, until one answers other than 0: that answer, the bars that were done in all of them, and what is left.
abbrev pub done_before : ℕ → Call AccountsLent → Call AccountsLent
done_before k c = record {
  answer = c.answer;
  lent = record {
    stream = c.lent.stream;
    done = c.lent.done + k;
    first = c.lent.first;
    second = c.lent.second;
    third = c.lent.third;
    fourth = c.lent.fourth;
  };
}

unfoldable pub calls_over_parts : Four → AccountsLent → List ℕ → List (List ℕ) → Call AccountsLent
calls_over_parts g l part [] = accounts_call part g l
calls_over_parts g l part (next ∷ parts) =
    let c = accounts_call part g l in
    cond (eqb c.answer 0) (done_before c.lent.done (calls_over_parts g c.lent next parts)) c

-- the list that parts make, one behind another
unfoldable pub all_of : List (List ℕ) → List ℕ
all_of [] = []
all_of (part ∷ parts) = part ++ all_of parts

-- each part is whole bars of S slots
unfoldable pub WholeParts : ℕ → List (List ℕ) → Type 0
WholeParts S [] = Unit {0}
WholeParts S (part ∷ parts) = (whole_bars S part ≡ true) × WholeParts S parts

-- ---- the call

-- where the rooms have their words
module _ (g : Four) (l : AccountsLent) (a b : List ℕ) (fine : rooms_judged a g l ≡ Ok tt) where
  abbrev S : ℕ
  S = word l.stream 0

  abbrev s : ℕ
  s = word l.stream 1

  abbrev n : ℕ
  n = (stream_taken S s a).done

  -- what a call over the first list leaves
  abbrev left : AccountsLent
  left = after_bars S s (stream_taken S s a) a g l

  call_is : (bars : List ℕ) → accounts_call bars g l
      ≡ record { answer = answer_of (stream_taken S s bars).verdict; lent = after_bars S s (stream_taken S s bars) bars g l }
  unfolding accounts_call accounts_by
  call_is bars = rw fine

  two : stream_words ≤ length l.stream
  two = unfold accounts_lines in leb-true _ _ (first_holds _ _ fine).0

  rooms_again : judged (accounts_lines left.stream left.first.status left.second.status left.third.status left.fourth.status) ≡ Ok tt
  unfolding accounts_lines after_bars
  rooms_again =
      rw (
        stream_long l.stream s n,
        status_long S s (in_records n (bar_words S) a) g.first l.first,
        status_long S s (in_records n (bar_words S) a) g.second l.second,
        status_long S s (in_records n (bar_words S) a) g.third l.third,
        status_long S s (in_records n (bar_words S) a) g.fourth l.fourth,
      )
      fine

  module _ (front : whole_bars S a ≡ true) (back : whole_bars S b ≡ true) where
    -- a bar of the first list that is refused ends both
    call_ended : (why : Refusal) → (stream_taken S s a).verdict ≡ Err why → accounts_call (a ++ b) g l ≡ accounts_call a g l
    unfolding after_bars
    call_ended why bad =
        call_is (a ++ b)
        ∙ (rw (taken_ended S s a b front back why bad, records_front n (bar_words S) a b (taken_within S s a).words) (sym (call_is a)))

    module _ (all : (stream_taken S s a).verdict ≡ Ok tt) where
      -- what the stream takes of the second
      abbrev u : StreamTaken
      u = stream_taken S (s + n) b

      behind : Behind S s a b front back
      behind = taken_behind S s a b front back all

      one_behind : (o : AccountGiven) (x : AccountLent) → status_words ≤ length x.status
          → account_after S s (in_records (u.done + n) (bar_words S) (a ++ b)) o x
          ≡ account_after S (s + n) (in_records u.done (bar_words S) b) o (account_after S s (in_records n (bar_words S) a) o x)
      one_behind o x room =
          let sum : u.done + n ≡ n + u.done = omega arith in
          let on = account_behind S s (in_records n (bar_words S) a) (in_records u.done (bar_words S) b) o x room in
          rw (sum, records_behind n u.done (bar_words S) a b behind.words) (rw (records_length n (bar_words S) a) at on)

      left_call : accounts_call b g left ≡ record { answer = answer_of u.verdict; lent = after_bars S (s + n) u b g left }
      unfolding accounts_call accounts_by
      left_call =
          let c = counted l.stream n 0 two in
          let slots : word left.stream 0 ≡ S = unfold after_bars in c.slots in
          let bars : word left.stream 1 ≡ s + n = unfold after_bars in c.bars in
          rw (rooms_again, slots, bars)

      call_zero : accounts_call a g l ≡ record { answer = 0; lent = left }
      unfolding answer_of
      call_zero = call_is a ∙ ap (λ (v : Verdict). record { answer = answer_of v; lent = left }) all

      call_on : accounts_call (a ++ b) g l ≡ done_before left.done (accounts_call b g left)
      unfolding after_bars
      call_on =
          let first_fits : status_words ≤ length l.first.status = unfold lent_to in statuses l first fine in
          let second_fits : status_words ≤ length l.second.status = unfold lent_to in statuses l second fine in
          let third_fits : status_words ≤ length l.third.status = unfold lent_to in statuses l third fine in
          let fourth_fits : status_words ≤ length l.fourth.status = unfold lent_to in statuses l fourth fine in
          call_is (a ++ b)
          ∙ rw (
            behind.both,
            left_call,
            one_behind g.first l.first first_fits,
            one_behind g.second l.second second_fits,
            one_behind g.third l.third third_fits,
            one_behind g.fourth l.fourth fourth_fits,
            (counted l.stream n u.done two).twice,
          )

-- a refusal of the call's own, or of a bar, is no 0
not_zero : (bars : List ℕ) (g : Four) (l : AccountsLent) (why : Refusal) → call_judged bars g l ≡ Err why → (accounts_call bars g l).answer ≡ 0 → ⊥
not_zero bars g l why bad none = never (sym bad ∙ (accounts_honest bars g l).does none)

-- a call that answered 0
on_zero : (b : List ℕ) (g : Four) (c : Call AccountsLent) (left : AccountsLent) {d : Call AccountsLent} → c ≡ record { answer = 0; lent = left }
    → d ≡ done_before left.done (accounts_call b g left) → d ≡ cond (eqb c.answer 0) (done_before c.lent.done (accounts_call b g c.lent)) c
on_zero b g c left e on = rw e on

-- A CALL OVER TWO LISTS of whole bars: over the first, and where that answers 0 over the second on what it left
pub call_behind : (g : Four) (l : AccountsLent) (a b : List ℕ) → whole_bars (word l.stream 0) a ≡ true → whole_bars (word l.stream 0) b ≡ true
    → (let c = accounts_call a g l in accounts_call (a ++ b) g l ≡ cond (eqb c.answer 0) (done_before c.lent.done (accounts_call b g c.lent)) c)
call_behind g l a b front back = go (rooms_judged a g l) refl
  where
    go : (v : Verdict) → rooms_judged a g l ≡ v
        → (let c = accounts_call a g l in accounts_call (a ++ b) g l ≡ cond (eqb c.answer 0) (done_before c.lent.done (accounts_call b g c.lent)) c)
    go (Err why) e =
        let same : accounts_call (a ++ b) g l ≡ accounts_call a g l = unfold accounts_call accounts_by in rw e in
        rw (ne_eqb (accounts_call a g l).answer 0 (not_zero a g l why (rw e)), same)
    go (Ok _) e = by (stream_taken (word l.stream 0) (word l.stream 1) a).verdict refl
      where
        by : (v : Verdict) → (stream_taken (word l.stream 0) (word l.stream 1) a).verdict ≡ v
            → (let c = accounts_call a g l in accounts_call (a ++ b) g l ≡ cond (eqb c.answer 0) (done_before c.lent.done (accounts_call b g c.lent)) c)
        by (Err why) f =
            rw (ne_eqb (accounts_call a g l).answer 0 (not_zero a g l why (rw (e, f)))) (call_ended g l a b e front back why f)
        by (Ok _) f =
            on_zero b g (accounts_call a g l) (left g l a b e) (call_zero g l a b e front back f) (call_on g l a b e front back f)

-- rooms that have their words have them after a call
pub rooms_stay : (bars : List ℕ) (g : Four) (l : AccountsLent) → rooms_judged bars g l ≡ Ok tt → rooms_judged bars g (accounts_call bars g l).lent ≡ Ok tt
rooms_stay bars g l e =
    subst (λ (m : AccountsLent). judged (accounts_lines m.stream m.first.status m.second.status m.third.status m.fourth.status) ≡ Ok tt)
    (sym (ap (λ (c : Call AccountsLent). c.lent) (call_is g l bars [] e bars))) (rooms_again g l bars [] e)

-- the slots of the stream stay
pub slots_stay : (bars : List ℕ) (g : Four) (l : AccountsLent) → word (accounts_call bars g l).lent.stream 0 ≡ word l.stream 0
slots_stay bars g l = go (rooms_judged bars g l) refl
  where
    go : (v : Verdict) → rooms_judged bars g l ≡ v → word (accounts_call bars g l).lent.stream 0 ≡ word l.stream 0
    go (Err why) e = unfold accounts_call accounts_by in rw e
    go (Ok _) e = unfold accounts_call accounts_by after_bars in rw e (counted l.stream (taken bars g l).done 0 (two g l bars [] e)).slots

-- parts of whole bars make whole bars
whole_all : (S : ℕ) (parts : List (List ℕ)) → WholeParts S parts → whole_bars S (all_of parts) ≡ true
unfolding all_of WholeParts
whole_all S [] w = unfold whole_bars in rw zero-mod
whole_all S (part ∷ parts) w = whole_both S 0 part (all_of parts) w.0 (whole_all S parts w.1)

-- ONE CALL OVER A LIST IS CALLS OVER ITS PARTS: whatever the stream, the four accounts and the bars are, where each part is whole bars of the stream's slots.
-- The answer, the bars done, the stream's words, and of each account all that it is lent: state, rows, equity, trades and status.
pub calls_over_parts_lem : (g : Four) (parts : List (List ℕ)) (l : AccountsLent) (part : List ℕ) → WholeParts (word l.stream 0) (part ∷ parts)
    → accounts_call (all_of (part ∷ parts)) g l ≡ calls_over_parts g l part parts
unfolding all_of WholeParts calls_over_parts
calls_over_parts_lem g [] l part w = rw (append-nil part)
calls_over_parts_lem g (next ∷ parts) l part w =
    let c = accounts_call part g l in
    let on = calls_over_parts_lem g parts c.lent next (subst (λ (S : ℕ). WholeParts S (next ∷ parts)) (sym (slots_stay part g l)) w.1) in
    call_behind g l part (all_of (next ∷ parts)) w.0 (whole_all (word l.stream 0) (next ∷ parts) w.1) ∙ rw on
