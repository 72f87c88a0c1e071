-- Accounts over a loss of supply, proved: on the stream an account is `ysh_step` over its own bars (`as_if_alone`), of which the capacitor theorem speaks.
use Rattle.std.specs.Prelude.{ℕ, ◌+◌, ◌/◌, ◌%◌, ◌^◌, ◌≤◌, ◌≡◌, refl, Bool, true, false, cond, List, [], ◌∷◌, ◌++◌, eqb, length, take, Err, Ok}
use Rattle.words.specs.Prelude.{sym, ap, subst, ◌∙◌, append-nil, arith}
use Rattle.words.specs.Prelude.{eq-eqb, eqb-true, eqb-false, length-append}
use Rattle.words.specs.{Limits.most_count, Words.word}
use Rattle.records.specs.{Lent.Lists, Lent.point_places, Lent.trade_places, Settings.settings_of, StateWords.state_of}
use Rattle.refusals.specs.{Lines.judged, Laws.Lines.never, Lines.first_bad}
use Rattle.engine.specs.{Whole.account_of}
use Rattle.restart.specs.{Laws.Reached64.Bars64}
use Rattle.accounts.specs.{Profile.profile_judged, Status.status_words, Status.stopped_with}
use Rattle.replies.specs.{Call.Call}
use Rattle.stepping.specs.{Bars.StepLent, WordRun.WordRun, WordRun.calls_over}
use Rattle.streamed.specs.{Accounts.AccountGiven, Accounts.AccountLent, Accounts.AccountsLent, Accounts.Four, Accounts.alone, Accounts.own_lists}
use Rattle.streamed.specs.{Accounts.accounts_lines, Accounts.accounts_call, Accounts.status_after}
use Rattle.capi.specs.{AsIfAlone.Which, AsIfAlone.first, AsIfAlone.second, AsIfAlone.third, AsIfAlone.fourth, AsIfAlone.given_to, AsIfAlone.lent_to}
use Rattle.capi.specs.{AsIfAlone.Rode, AsIfAlone.rooms_judged, AsIfAlone.taken, AsIfAlone.as_if_alone, Fresh.fresh_call}
use Rattle.capacitor.specs.{Begun.Begun, Capacitor.Capacitor, Capacitor.now, Loss.Loss, Loss.Restored, Loss.last_box, Loss.bars_before, Loss.points_in}
use Rattle.capacitor.specs.{Loss.trades_in, Loss.points_before, Loss.trades_before, Laws.FromCalls.begun_lengths, Proved.capacitor}
use Rattle.beside.specs.{Appended.more_calls, Appended.calls_behind, Honest.accounts_honest, NeverEleven.statuses, NeverEleven.stopped_number, Parts.done_before}
use Rattle.beside.specs.{Parts.call_behind, Parts.rooms_stay, Parts.slots_stay}
use Rattle.onward.specs.{GoesOn.box_of, GoesOn.took, GoesOn.sofar, GoesOn.unbroken, GoesOn.onward, GoesOn.Kept, GoesOn.Lost, GoesOn.AsUnbroken}
use Rattle.onward.specs.{GoesOn.GoesOn}
use Rattle.refusals.specs.{Lines.Verdict}
use Rattle.std.proofs.Math.Seq.{take-append-add}

-- ---- a run of steps, with and without losses

-- what two boxes hold: the same, the second with what it held at its losses before
record Same (u w : StepLent) (points trades : List ℕ) : Type 0 where
  account : account_of (state_of w.state) ≡ account_of (state_of u.state)
  held : points ++ points_in w ≡ points_in u
  closed : trades ++ trades_in w ≡ trades_in u

module _ (table settings : List ℕ) (ls : Lists) (whole box : StepLent) (begun : Begun table settings ls whole) (other : Begun table settings ls box)
    (losses : List Loss) (restored : Restored settings ls box losses) (bars : List (List ℕ)) (small : Bars64 (bars_before losses ++ bars))
    (few : length (bars_before losses ++ bars) ≤ most_count) (points : length (bars_before losses ++ bars) ≤ point_places whole.rooms.equity)
    (trades : length (bars_before losses ++ bars) ≤ trade_places whole.rooms.trades) (free : (now settings ls box losses bars).answer / 2 ^ 32 ≡ 14 → ⊥) where
  -- without losses; and the bars since the last of them
  abbrev u : WordRun
  u = calls_over settings ls whole (bars_before losses ++ bars)

  abbrev w : WordRun
  w = now settings ls box losses bars

  lost : Capacitor table settings ls box losses bars
  lost = capacitor table settings ls box other losses restored bars small few free

  -- answered alike, at the same bar
  answered : (u.answer ≡ w.answer) × (u.done ≡ length (bars_before losses) + w.done)
  answered =
      let is : record { state = (fresh_call settings begun.room).lent; rooms = whole.rooms } ≡ whole =
      ap (λ (ws : List ℕ). record { state = ws; rooms = whole.rooms }) (sym begun.state) in
      subst (λ (b : StepLent). let r = calls_over settings ls b (bars_before losses ++ bars) in
      (r.answer ≡ w.answer) × (r.done ≡ length (bars_before losses) + w.done)) is
      (lost.answer begun.room whole.rooms (begun_lengths table settings ls whole begun).1 begun.rows points trades)

  -- and they hold the same
  holds : Same u.lent w.lent (points_before settings ls box losses) (trades_before settings ls box losses)
  unfolding Restored last_box bars_before points_before trades_before
  holds =
      let never : Capacitor table settings ls whole [] (bars_before losses ++ bars) =
      capacitor table settings ls whole begun [] tt (bars_before losses ++ bars) small few
      (λ e. free (ap (λ (n : ℕ). n / 2 ^ 32) (sym answered.0) ∙ e)) in
      let taken : take u.done (bars_before losses ++ bars) ≡ bars_before losses ++ take w.done bars =
      rw answered.1 (take-append-add (bars_before losses) bars w.done) in
      record {
        account = lost.account ∙ sym (rw taken at never.account);
        held = lost.points ∙ sym (rw taken at never.points);
        closed = lost.trades ∙ sym (rw taken at never.trades);
      }

-- ---- an account on the stream

-- bars in front of others are 64-bit words where all are
front_64 : (a b : List (List ℕ)) → Bars64 (a ++ b) → Bars64 a
unfolding Bars64
front_64 [] b h = tt
front_64 (bar ∷ a) b h = (h.0, front_64 a b h.1)

-- where the first of two that is not fine would decide, and none does
first_fine : (v w : Verdict) → first_bad v w ≡ Ok tt → v ≡ Ok tt
first_fine (Ok _) w e = refl
first_fine (Err why) w e = never e

-- a call of which nothing is refused has rooms with their words
answered_rooms : (bars : List ℕ) (g : Four) (l : AccountsLent) → (accounts_call bars g l).answer ≡ 0 → rooms_judged bars g l ≡ Ok tt
answered_rooms bars g l e = first_fine (rooms_judged bars g l) (taken bars g l).verdict ((accounts_honest bars g l).does e)

-- an account that runs and fits the profile is `ysh_step` over its own part of the bars that the call took
rides_alone : (bars : List ℕ) (g : Four) (l : AccountsLent) (which : Which) → rooms_judged bars g l ≡ Ok tt → word (lent_to which l).status 0 ≡ 0
    → profile_judged (given_to which g).table (settings_of (given_to which g).settings) (word l.stream 0) ≡ Ok tt
    → Rode (word l.stream 1) (lent_to which l) (lent_to which (accounts_call bars g l).lent)
    (calls_over (given_to which g).settings (own_lists (given_to which g)) (box_of (lent_to which l))
    (took (word l.stream 0) (given_to which g) (accounts_call bars g l) bars))
unfolding alone
rides_alone bars g l which fine runs fits = let is = as_if_alone bars g l in rw (is.done fine) ((is.account fine which).rides runs fits)

-- what it is left with, and its status
rode_box : {seen : ℕ} {a b : AccountLent} {r : WordRun} → Rode seen a b r → box_of b ≡ r.lent
rode_box rode = rw (rode.state, rode.rooms)

rode_status : {seen : ℕ} {a b : AccountLent} {r : WordRun} → Rode seen a b r → b.status ≡ status_after a.status seen r
unfolding status_after
rode_status {seen} {a} {b} {r} rode = go (eqb r.answer 0) refl
  where
    go : (d : Bool) → eqb r.answer 0 ≡ d
        → b.status ≡ cond d a.status (stopped_with a.status (r.answer / 2 ^ 32) (r.answer % 2 ^ 32) (seen + r.done))
    go true e = rode.runs (eqb-true _ _ e)
    go false e = rode.stops (eqb-false _ _ e)

-- an answer of number 14 would stand in the status
rode_free : {seen : ℕ} {a b : AccountLent} {r : WordRun} → Rode seen a b r → status_words ≤ length a.status → (word b.status 0 ≡ 14 → ⊥)
    → r.answer / 2 ^ 32 ≡ 14 → ⊥
rode_free {seen} {a} {b} {r} rode room free e = go (eqb r.answer 0) refl
  where
    go : (d : Bool) → eqb r.answer 0 ≡ d → ⊥
    go true f = let none : r.answer ≡ 0 = eqb-true _ _ f in omega (arith, none, e)
    go false f =
        free (ap (λ (ws : List ℕ). word ws 0) (rode.stops (eqb-false _ _ f)) ∙ stopped_number a.status (r.answer / 2 ^ 32) _ _ room ∙ e)

-- the same status
alike_status : {seen seen' : ℕ} {a a' : List ℕ} (q w : WordRun) → seen ≡ seen' → a ≡ a' → q.answer ≡ w.answer → q.done ≡ w.done
    → status_after a seen q ≡ status_after a' seen' w
unfolding status_after
alike_status q w p e answer done = rw (p, e, answer, done)

-- SO BOTH ARE ALIKE, where the steps of the two are
conclude : {seen seen' : ℕ} {a b x y : AccountLent} {points trades : List ℕ} (q p : WordRun) → Rode seen a x q → Rode seen' b y p → seen ≡ seen'
    → a.status ≡ b.status → q.answer ≡ p.answer → q.done ≡ p.done → Same q.lent p.lent points trades → AsUnbroken points trades x y
conclude q p rx ry at status answer done same = record {
  account = rw (ry.state, rx.state) same.account;
  status = rode_status ry ∙ (sym (alike_status q p at status answer done) ∙ sym (rode_status rx));
  held = rw (ry.state, ry.rooms, rx.state, rx.rooms) same.held;
  closed = rw (ry.state, ry.rooms, rx.state, rx.rooms) same.closed;
}

-- ---- the call

-- the count of bars done is no part of an account
done_apart : (which : Which) (n : ℕ) (c : Call AccountsLent) → lent_to which (done_before n c).lent ≡ lent_to which c.lent
unfolding lent_to
done_apart first n c = refl
done_apart second n c = refl
done_apart third n c = refl
done_apart fourth n c = refl

-- two that agree on the stream and on the statuses have the same rooms, and take the same bars
agree_rooms : (l k : AccountsLent) → k.stream ≡ l.stream → ((which : Which) → (lent_to which k).status ≡ (lent_to which l).status)
    → judged (accounts_lines k.stream k.first.status k.second.status k.third.status k.fourth.status)
    ≡ judged (accounts_lines l.stream l.first.status l.second.status l.third.status l.fourth.status)
unfolding lent_to
agree_rooms l k stream same = rw (stream, same first, same second, same third, same fourth)

module _ (g : Four) (l k : AccountsLent) (before bars : List ℕ) (kept : Kept g l k before bars) where
  -- the call over the second list, with unbroken supply
  abbrev next : Call AccountsLent
  next = accounts_call bars g (sofar g l k before bars).lent

  abbrev c : Call AccountsLent
  c = sofar g l k before bars

  abbrev d : Call AccountsLent
  d = onward g l k before bars

  both : unbroken g l k before bars ≡ done_before c.lent.done next
  both = call_behind g l before bars kept.front kept.back ∙ rw (eq-eqb c.answer 0 kept.taken)

  rooms : rooms_judged before g l ≡ Ok tt
  rooms = answered_rooms before g l kept.taken

  rooms_then : rooms_judged bars g c.lent ≡ Ok tt
  rooms_then = rooms_stay before g l rooms

  rooms_now : rooms_judged bars g k ≡ Ok tt
  rooms_now = agree_rooms c.lent k kept.stream kept.statuses ∙ rooms_then

  -- the stream is the same
  same_answer : d.answer ≡ next.answer
  same_answer = (as_if_alone bars g k).answer rooms_now ∙ rw kept.stream (sym ((as_if_alone bars g c.lent).answer rooms_then))

  same_done : d.lent.done ≡ next.lent.done
  same_done = (as_if_alone bars g k).done rooms_now ∙ rw kept.stream (sym ((as_if_alone bars g c.lent).done rooms_then))

  same_stream : d.lent.stream ≡ next.lent.stream
  same_stream = (as_if_alone bars g k).stream rooms_now ∙ rw kept.stream (sym ((as_if_alone bars g c.lent).stream rooms_then))

  slots_then : word c.lent.stream 0 ≡ word l.stream 0
  slots_then = slots_stay before g l

  slots_now : word k.stream 0 ≡ word l.stream 0
  slots_now = ap (λ (ws : List ℕ). word ws 0) kept.stream ∙ slots_then

  module _ (which : Which) (lost : Lost g l k before bars which) where
    abbrev o : AccountGiven
    o = given_to which g

    abbrev early : List (List ℕ)
    early = took (word l.stream 0) o c before

    abbrev late : List (List ℕ)
    late = took (word l.stream 0) o d bars

    abbrev steps : StepLent → List (List ℕ) → WordRun
    steps box bs = calls_over o.settings (own_lists o) box bs

    -- over the first list, over the second with unbroken supply, over the second after the losses
    abbrev r : WordRun
    r = steps (box_of (lent_to which l)) early

    abbrev q : WordRun
    q = steps (box_of (lent_to which c.lent)) late

    abbrev p : WordRun
    p = steps (box_of (lent_to which k)) late

    rode_first : Rode (word l.stream 1) (lent_to which l) (lent_to which c.lent) r
    rode_first = rides_alone before g l which rooms lost.runs lost.fits

    module _ (done : r.answer ≡ 0) where
      status_then : (lent_to which c.lent).status ≡ (lent_to which l).status
      status_then = rode_first.runs done

      rode_then : Rode (word c.lent.stream 1) (lent_to which c.lent) (lent_to which next.lent) q
      rode_then =
          rw (← same_done, slots_then) at
          (rides_alone bars g c.lent which rooms_then (rw status_then lost.runs) (rw slots_then lost.fits))

      rode_now : Rode (word k.stream 1) (lent_to which k) (lent_to which d.lent) p
      rode_now =
          rw slots_now at
          (rides_alone bars g k which rooms_now (rw (kept.statuses which, status_then) lost.runs) (rw slots_now lost.fits))

    -- ---- the bars, of one account

    abbrev given : List ℕ
    given = o.settings

    lived : bars_before lost.losses ≡ early
    lived = lost.lived

    -- the account took all of the first list: so did the one that lost its supply
    first_done : r.answer ≡ 0
    unfolding calls_over
    first_done =
        let all : bars_before lost.losses ++ [] ≡ early = append-nil (bars_before lost.losses) ∙ lived in
        let long : length (early ++ late) ≡ length early + length late = length-append early late in
        let few : length (bars_before lost.losses ++ []) ≤ most_count = rw all (omega (arith, long, lost.few)) in
        let points : length (bars_before lost.losses ++ []) ≤ point_places (lent_to which l).rooms.equity = rw all (omega (arith, long, lost.points)) in
        let trades : length (bars_before lost.losses ++ []) ≤ trade_places (lent_to which l).rooms.trades = rw all (omega (arith, long, lost.trades)) in
        let small : Bars64 (bars_before lost.losses ++ []) = rw all (front_64 early late lost.small) in
        let alike = answered o.table given (own_lists o) (box_of (lent_to which l)) lost.box lost.begun lost.other lost.losses lost.restored
        [] small few points trades (λ e. omega (arith, e)) in
        subst (λ (bs : List (List ℕ)). (steps (box_of (lent_to which l)) bs).answer ≡ 0) all alike.0

    together : AsUnbroken (points_before given (own_lists o) lost.box lost.losses) (trades_before given (own_lists o) lost.box lost.losses)
        (lent_to which next.lent) (lent_to which d.lent)
    together =
        let whole = box_of (lent_to which l) in
        let on : p ≡ now given (own_lists o) lost.box lost.losses late = ap (λ (box : StepLent). steps box late) lost.words in
        let same-bars : bars_before lost.losses ++ late ≡ early ++ late = ap (λ (bs : List (List ℕ)). bs ++ late) lived in
        let fits : status_words ≤ length (lent_to which k).status = statuses k which rooms_now in
        let free : (now given (own_lists o) lost.box lost.losses late).answer / 2 ^ 32 ≡ 14 → ⊥ =
        rw (← on) (rode_free (rode_now first_done) fits lost.free) in
        let small : Bars64 (bars_before lost.losses ++ late) = rw same-bars lost.small in
        let few : length (bars_before lost.losses ++ late) ≤ most_count = rw same-bars lost.few in
        let points : length (bars_before lost.losses ++ late) ≤ point_places whole.rooms.equity = rw same-bars lost.points in
        let trades : length (bars_before lost.losses ++ late) ≤ trade_places whole.rooms.trades = rw same-bars lost.trades in
        let alike = answered o.table given (own_lists o) whole lost.box lost.begun lost.other lost.losses lost.restored late small few points
        trades free in
        let hold = holds o.table given (own_lists o) whole lost.box lost.begun lost.other lost.losses lost.restored late small few points
        trades free in
        let behind : steps whole (bars_before lost.losses ++ late) ≡ more_calls (length early) q =
        rw (same-bars, rode_box rode_first) (calls_behind given (own_lists o) early late whole first_done) in
        let many : length (bars_before lost.losses) ≡ length early = ap (λ (bs : List (List ℕ)). length bs) lived in
        let answer : q.answer ≡ p.answer = ap (λ (r : WordRun). r.answer) (sym behind) ∙ (alike.0 ∙ ap (λ (r : WordRun). r.answer) (sym on)) in
        let sum : q.done + length early ≡ length (bars_before lost.losses) + p.done =
        ap (λ (r : WordRun). r.done) (sym behind) ∙ (alike.1 ∙ ap (λ (r : WordRun). length (bars_before lost.losses) + r.done) (sym on)) in
        let done : q.done ≡ p.done = omega (arith, sum, many) in
        conclude q p (rode_then first_done) (rode_now first_done) (ap (λ (ws : List ℕ). word ws 1) (sym kept.stream)) (sym (kept.statuses which)) answer
        done
        (subst (λ (v : WordRun). Same q.lent v.lent (points_before given (own_lists o) lost.box lost.losses)
        (trades_before given (own_lists o) lost.box lost.losses)) (sym on)
        (subst (λ (v : WordRun). Same v.lent (now given (own_lists o) lost.box lost.losses late).lent (points_before given (own_lists o) lost.box
        lost.losses) (trades_before given (own_lists o) lost.box lost.losses)) behind hold))

-- THE ACCOUNTS GO ON over a loss of supply as those whose supply never failed
pub goes_on : (g : Four) (l k : AccountsLent) (before bars : List ℕ) → Kept g l k before bars → GoesOn g l k before bars
goes_on g l k before bars kept =
    let is = both g l k before bars kept in
    let n = (sofar g l k before bars).lent.done in
    let on = accounts_call bars g (sofar g l k before bars).lent in
    record {
      answer = same_answer g l k before bars kept ∙ sym (ap (λ (c : Call AccountsLent). c.answer) is);
      stream = same_stream g l k before bars kept ∙ sym (ap (λ (c : Call AccountsLent). c.lent.stream) is);
      done = ap (λ (c : Call AccountsLent). c.lent.done) is ∙ ap (λ (m : ℕ). m + n) (sym (same_done g l k before bars kept));
      account = λ which lost.
          subst (λ (x : AccountLent). AsUnbroken (points_before (given_to which g).settings (own_lists (given_to which g)) lost.box lost.losses)
          (trades_before (given_to which g).settings (own_lists (given_to which g)) lost.box lost.losses) x
          (lent_to which (onward g l k before bars).lent))
          (sym (ap (λ (c : Call AccountsLent). lent_to which c.lent) is ∙ done_apart which n on)) (together g l k before bars kept which lost);
    }
