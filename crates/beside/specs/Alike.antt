-- Request 14: "An account's results must be those it would have alone .. whatever the others' tables say." None sees another.
use Rattle.std.specs.Prelude.{ℕ, ◌≤◌, ◌≡◌, refl, List, [], ◌∷◌, leb, length, Err, Ok}
use Rattle.words.specs.Prelude.{sym, ◌∙◌, le-leb}
use Rattle.words.specs.{Limits.bar_words, Words.word}
use Rattle.refusals.specs.{Lines.line}
use Rattle.refusals.specs.{Lines.judged}
use Rattle.engine.specs.{Day.in_records}
use Rattle.accounts.specs.{Status.status_words, Stream.stream_taken}
use Rattle.streamed.specs.{Accounts.AccountGiven, Accounts.AccountLent, Accounts.AccountsLent, Accounts.Four, Accounts.stream_words, Accounts.account_after}
use Rattle.streamed.specs.{Accounts.accounts_lines, Accounts.after_bars, Accounts.accounts_by, Accounts.accounts_call}
use Rattle.capi.specs.{AsIfAlone.Which, AsIfAlone.first, AsIfAlone.second, AsIfAlone.third, AsIfAlone.fourth, AsIfAlone.given_to, AsIfAlone.lent_to}
use Rattle.capi.specs.{AsIfAlone.call}
use Rattle.refusals.specs.{Lines.Verdict}
use Rattle.words.specs.declared.refusal.Refusal.TheVariants as Refusal

-- each status has its three words: "10 at 17" is the call's own
abbrev pub StatusesFit : AccountsLent → Type 0
StatusesFit l = (which : Which) → status_words ≤ length (lent_to which l).status

-- then the stream's words decide whether the call does anything
rooms_by_stream : (l : AccountsLent) → StatusesFit l
    → judged (accounts_lines l.stream l.first.status l.second.status l.third.status l.fourth.status)
    ≡ judged (line (leb stream_words (length l.stream)) (Refusal.Room 16) ∷ [])
unfolding accounts_lines judged lent_to
rooms_by_stream l fit = rw (le-leb _ _ (fit first), le-leb _ _ (fit second), le-leb _ _ (fit third), le-leb _ _ (fit fourth))

-- what the call leaves of one account, of which nothing else is looked at but the stream's words and the bars
unfoldable leaves_of : Verdict → List ℕ → List ℕ → AccountGiven → AccountLent → AccountLent
leaves_of (Err why) stream bars g a = a
leaves_of (Ok _) stream bars g a =
    let S = word stream 0 in
    let seen = word stream 1 in
    account_after S seen (in_records (stream_taken S seen bars).done (bar_words S) bars) g a

by_itself : (v : Verdict) (bars : List ℕ) (g : Four) (l : AccountsLent) (which : Which)
    → lent_to which (accounts_by v bars g l).lent ≡ leaves_of v l.stream bars (given_to which g) (lent_to which l)
unfolding accounts_by after_bars lent_to given_to leaves_of
by_itself (Err why) bars g l first = refl
by_itself (Err why) bars g l second = refl
by_itself (Err why) bars g l third = refl
by_itself (Err why) bars g l fourth = refl
by_itself (Ok _) bars g l first = refl
by_itself (Ok _) bars g l second = refl
by_itself (Ok _) bars g l third = refl
by_itself (Ok _) bars g l fourth = refl

call_leaves : (bars : List ℕ) (g : Four) (l : AccountsLent) (which : Which) → StatusesFit l
    → lent_to which (call bars g l).lent
    ≡ leaves_of (judged (line (leb stream_words (length l.stream)) (Refusal.Room 16) ∷ [])) l.stream bars (given_to which g) (lent_to which l)
unfolding accounts_call
call_leaves bars g l which fit = rw (rooms_by_stream l fit) (by_itself _ bars g l which)

same_leaves : {stream stream' : List ℕ} {g g' : AccountGiven} {a a' : AccountLent} (bars : List ℕ) → stream ≡ stream' → g ≡ g' → a ≡ a'
    → leaves_of (judged (line (leb stream_words (length stream)) (Refusal.Room 16) ∷ [])) stream bars g a
    ≡ leaves_of (judged (line (leb stream_words (length stream')) (Refusal.Room 16) ∷ [])) stream' bars g' a'
same_leaves bars p q r = rw (p, q, r)

-- NO ACCOUNT SEES ANOTHER: two calls that agree on the stream, the bars and one account leave that account alike, whatever the other three are.
pub alike : (bars : List ℕ) (g g' : Four) (l l' : AccountsLent) (which : Which) → StatusesFit l → StatusesFit l' → l.stream ≡ l'.stream
    → given_to which g ≡ given_to which g' → lent_to which l ≡ lent_to which l'
    → lent_to which (call bars g l).lent ≡ lent_to which (call bars g' l').lent
alike bars g g' l l' which fit fit' stream given lent =
    call_leaves bars g l which fit ∙ (same_leaves bars stream given lent ∙ sym (call_leaves bars g' l' which fit'))
