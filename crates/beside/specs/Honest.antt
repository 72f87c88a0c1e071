-- Demand 1 of the call over four accounts: its answer is the number and the place of what is refused, 0 means that nothing was, and a call that takes no
-- bar leaves all that was lent as it was.
use Rattle.std.specs.Prelude.{ℕ, ◌+◌, ◌/◌, ◌%◌, ◌^◌, ◌<◌, ◌≡◌, refl, Bool, true, false, cond, List, [], ◌∷◌, eqb, length, Err, Ok}
use Rattle.words.specs.Prelude.{sym, ap, ◌∙◌, arith, ltb-true}
use Rattle.words.specs.{declared.refusal.Refusal.Refusal, Limits.bar_words, Limits.most_count, Words.word}
use Rattle.refusals.specs.{Bar.bar_lines, Laws.Lines.never, Laws.Numbers.numbered, Laws.Places.Placed, Laws.Places.place_below, Laws.Places.named}
use Rattle.refusals.specs.{Laws.Places.named_placed, Lines.judged, Lines.first_bad}
use Rattle.engine.specs.{Day.in_records}
use Rattle.accounts.specs.{declared.stream.StreamTaken.StreamTaken, Stream.stream_lines, Stream.stream_bar_lines, Stream.none_taken, Stream.one_more_taken}
use Rattle.accounts.specs.{Stream.taken_unless, Stream.stream_takes, Stream.stream_taken}
use Rattle.replies.specs.{Call.answer_word, Laws.Answers.answer_number, Laws.Answers.answer_place}
use Rattle.stepping.specs.{WordRun.answer_of}
use Rattle.streamed.specs.{Accounts.AccountsLent, Accounts.Four, Accounts.account_after, Accounts.accounts_lines, Accounts.none_done, Accounts.stream_after}
use Rattle.streamed.specs.{Accounts.after_bars, Accounts.accounts_by, Accounts.accounts_call}
use Rattle.capi.specs.{AsIfAlone.taken, AsIfAlone.call, AsIfAlone.rooms_judged, Laws.Calls.FitsAnswer, Laws.Calls.refused_word, Laws.RunCalls.lines_small}
use Rattle.refusals.specs.{Lines.Verdict}
use Rattle.words.specs.{Outcome.number_of, Outcome.place_of}

-- ---- the refusals are small

-- room 16 is the stream's, room 17 a status
rooms_small : (l : AccountsLent) (r : Refusal)
    → judged (accounts_lines l.stream l.first.status l.second.status l.third.status l.fourth.status) ≡ Err r → FitsAnswer r
unfolding accounts_lines numbered named
rooms_small l r e = lines_small _ refl r e (place_below _ r (named_placed _ refl) e)

stream_small : (S seen : ℕ) (bars : List ℕ) (r : Refusal) → judged (stream_lines S seen bars) ≡ Err r → FitsAnswer r
unfolding stream_lines numbered named
stream_small S seen bars r e = lines_small _ refl r e (place_below _ r (named_placed _ refl) e)

-- 14 comes before 11: the stream's bars are a place
bar_small : (S seen : ℕ) (bar : List ℕ) (r : Refusal) → judged (stream_bar_lines S seen bar) ≡ Err r → FitsAnswer r
unfolding stream_bar_lines bar_lines numbered Placed
bar_small S seen bar r e =
    lines_small (stream_bar_lines S seen bar) refl r e
    (place_below (stream_bar_lines S seen bar) r (omega arith, λ early. places (ltb-true seen most_count early)) e)
  where
    places : seen < most_count → Placed (bar_lines S bar seen)
    places early = (omega arith, λ candle. (omega arith, λ slots. (omega arith, λ funding. tt)))

-- what ends a stream
abbrev SmallEnd : StreamTaken → Type 0
SmallEnd t = (r : Refusal) → t.verdict ≡ Err r → FitsAnswer r

unless_small : (v : Verdict) (t : StreamTaken) → ((r : Refusal) → v ≡ Err r → FitsAnswer r) → SmallEnd t → SmallEnd (taken_unless v t)
unfolding taken_unless
unless_small (Err why) t own later = own
unless_small (Ok _) t own later = later

takes_small : (S : ℕ) (bars : List (List ℕ)) (seen : ℕ) → SmallEnd (stream_takes S seen bars)
unfolding stream_takes
takes_small S [] seen = λ r e. never (sym e)
takes_small S (bar ∷ bars) seen =
    unless_small (judged (stream_bar_lines S seen bar)) (one_more_taken (stream_takes S (seen + 1) bars)) (bar_small S seen bar)
    (takes_small S bars (seen + 1))

taken_small : (S seen : ℕ) (bars : List ℕ) → SmallEnd (stream_taken S seen bars)
unfolding stream_taken
taken_small S seen bars = go (eqb (length bars) 0)
  where
    each : List (List ℕ)
    each = in_records (length bars / bar_words S) (bar_words S) bars

    go : (b : Bool) → SmallEnd (cond b (none_taken (Ok tt)) (taken_unless (judged (stream_lines S seen bars)) (stream_takes S seen each)))
    go true = λ r e. never (sym e)
    go false = unless_small (judged (stream_lines S seen bars)) (stream_takes S seen each) (stream_small S seen bars) (takes_small S each seen)

-- ---- the call

module _ (bars : List ℕ) (g : Four) (l : AccountsLent) where
  -- what the call is judged by: its own rooms, then the stream and its bars
  abbrev pub call_judged : Verdict
  call_judged = first_bad (rooms_judged bars g l) (taken bars g l).verdict

  pub record AccountsHonest : Type 0 where
    -- "A refusal .. changes nothing lent": where no bar was done, all is as it was. What bars before a refused one did stays done (`as_if_alone`).
    pub keeps : (call bars g l).lent.done ≡ 0 → (call bars g l).lent ≡ none_done l
    -- the number is the upper half of the answer, the place its lower half
    pub number : (r : Refusal) → call_judged ≡ Err r → (call bars g l).answer / 2 ^ 32 ≡ number_of r
    pub place : (r : Refusal) → call_judged ≡ Err r → (call bars g l).answer % 2 ^ 32 ≡ place_of r
    -- 0: nothing was refused
    pub does : (call bars g l).answer ≡ 0 → call_judged ≡ Ok tt

-- over no bars
none_left : (S seen : ℕ) (t : StreamTaken) (bars : List ℕ) (g : Four) (l : AccountsLent) → t.done ≡ 0 → after_bars S seen t bars g l ≡ none_done l
unfolding after_bars stream_after account_after in_records
none_left S seen t bars g l none = rw none

keeps_by : (v : Verdict) (bars : List ℕ) (g : Four) (l : AccountsLent) → (accounts_by v bars g l).lent.done ≡ 0 → (accounts_by v bars g l).lent ≡ none_done l
unfolding accounts_by after_bars
keeps_by (Err why) bars g l none = refl
keeps_by (Ok _) bars g l none = none_left (word l.stream 0) (word l.stream 1) (taken bars g l) bars g l none

-- the answer is what the verdict answers
answer_by : (v : Verdict) (bars : List ℕ) (g : Four) (l : AccountsLent) → (accounts_by v bars g l).answer ≡ answer_of (first_bad v (taken bars g l).verdict)
unfolding accounts_by answer_of
answer_by (Err why) bars g l = refl
answer_by (Ok _) bars g l = refl

first_small : (v w : Verdict) → ((r : Refusal) → v ≡ Err r → FitsAnswer r) → ((r : Refusal) → w ≡ Err r → FitsAnswer r)
    → (r : Refusal) → first_bad v w ≡ Err r → FitsAnswer r
first_small (Err why) w p q = p
first_small (Ok _) w p q = q

answers_nothing : (v : Verdict) → ((r : Refusal) → v ≡ Err r → FitsAnswer r) → answer_of v ≡ 0 → v ≡ Ok tt
unfolding answer_of
answers_nothing (Ok _) small e = refl
answers_nothing (Err why) small e = absurd (refused_word why (small why refl) e)

answers_bad : (v : Verdict) (r : Refusal) → v ≡ Err r → answer_of v ≡ answer_word r
unfolding answer_of
answers_bad v r e = rw e

-- DEMAND 1 of `ysh_accounts`
pub accounts_honest : (bars : List ℕ) (g : Four) (l : AccountsLent) → AccountsHonest bars g l
unfolding accounts_call
accounts_honest bars g l = record {
  keeps = keeps_by (rooms_judged bars g l) bars g l;
  number = λ r e. ap (λ (n : ℕ). n / 2 ^ 32) (answer r e) ∙ answer_number r (small r e).number (small r e).place;
  place = λ r e. ap (λ (n : ℕ). n % 2 ^ 32) (answer r e) ∙ answer_place r (small r e).number (small r e).place;
  does = λ e. answers_nothing (call_judged bars g l) small (sym (answer_by (rooms_judged bars g l) bars g l) ∙ e);
}
  where
    small : (r : Refusal) → call_judged bars g l ≡ Err r → FitsAnswer r
    small = first_small (rooms_judged bars g l) (taken bars g l).verdict (rooms_small l) (taken_small (word l.stream 0) (word l.stream 1) bars)

    answer : (r : Refusal) → call_judged bars g l ≡ Err r → (call bars g l).answer ≡ answer_word r
    answer r e = answer_by (rooms_judged bars g l) bars g l ∙ answers_bad (call_judged bars g l) r e
