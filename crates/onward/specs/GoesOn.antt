-- Request 14 OVER A LOSS OF SUPPLY. Four accounts ride on one stream. The supply fails, however often; each account is dumped by `ysh_dump` and restored by
-- `ysh_restore`, and the caller has kept the stream's words and the statuses. Then `ysh_accounts` goes on with them as with four whose supply never failed.
use Rattle.std.specs.Prelude.{ℕ, ◌+◌, ◌≤◌, ◌≡◌, true, List, ◌++◌, length, Ok}
use Rattle.words.specs.{Limits.bar_words, Limits.most_count, Words.word}
use Rattle.records.specs.{Lent.point_places, Lent.trade_places, Settings.settings_of, StateWords.state_of}
use Rattle.refusals.specs.{Day.whole_bars}
use Rattle.engine.specs.{Day.in_records, Whole.account_of}
use Rattle.restart.specs.{Laws.Reached64.Bars64}
use Rattle.accounts.specs.{Profile.profile_judged}
use Rattle.replies.specs.{Call.Call}
use Rattle.stepping.specs.{Bars.StepLent}
use Rattle.streamed.specs.{Accounts.AccountGiven, Accounts.AccountLent, Accounts.AccountsLent, Accounts.Four, Accounts.own_bars, Accounts.own_lists}
use Rattle.streamed.specs.{Accounts.accounts_call}
use Rattle.capi.specs.{AsIfAlone.Which, AsIfAlone.given_to, AsIfAlone.lent_to}
use Rattle.capacitor.specs.{Begun.Begun, Loss.Loss, Loss.Restored, Loss.last_box, Loss.bars_before, Loss.points_in, Loss.trades_in, Loss.points_before}
use Rattle.capacitor.specs.{Loss.trades_before}

-- an account's words, as `ysh_step`, `ysh_dump` and `ysh_restore` are lent them
abbrev pub box_of : AccountLent → StepLent
box_of a = record { state = a.state; rooms = a.rooms }

-- an account's own part of the bars that a call took of a list
abbrev pub took : ℕ → AccountGiven → Call AccountsLent → List ℕ → List (List ℕ)
took S own call bars = own_bars S own (in_records call.lent.done (bar_words S) bars)

-- AS IF ITS SUPPLY HAD NEVER FAILED: x with unbroken supply, and y after losses at which it held these points and trades. The account, the status, and the
-- points and trades, those held at each loss and then those held now.
pub record AsUnbroken (points trades : List ℕ) (x y : AccountLent) : Type 0 where
  pub account : account_of (state_of y.state) ≡ account_of (state_of x.state)
  pub status : y.status ≡ x.status
  pub held : points ++ points_in (box_of y) ≡ points_in (box_of x)
  pub closed : trades ++ trades_in (box_of y) ≡ trades_in (box_of x)

-- Four accounts with unbroken supply, lent l, that are handed the list `before` and then the list `bars`; and four, lent k, that lost their supply after
-- `before`, were restored, and are handed `bars`.
module _ (g : Four) (l k : AccountsLent) (before bars : List ℕ) where
  abbrev pub slots : ℕ
  slots = word l.stream 0

  -- with unbroken supply: the call over `before`, and the call over both lists (which is that one and then one over `bars`: `calls_over_parts_lem`)
  abbrev pub sofar : Call AccountsLent
  sofar = accounts_call before g l

  abbrev pub unbroken : Call AccountsLent
  unbroken = accounts_call (before ++ bars) g l

  -- after the losses
  abbrev pub onward : Call AccountsLent
  onward = accounts_call bars g k

  -- What the caller has kept: the stream's words and the statuses, as they were after `before`. Both lists are whole bars, and the stream takes the first.
  pub record Kept : Type 0 where
    pub front : whole_bars slots before ≡ true
    pub back : whole_bars slots bars ≡ true
    pub taken : sofar.answer ≡ 0
    pub stream : k.stream ≡ sofar.lent.stream
    pub statuses : (which : Which) → (lent_to which k).status ≡ (lent_to which sofar.lent).status

  module _ (which : Which) where
    abbrev pub own : AccountGiven
    own = given_to which g

    -- its own part of all bars that the stream takes
    abbrev pub own_all : List (List ℕ)
    own_all = took slots own sofar before ++ took slots own onward bars

    -- Of one account: it is begun, fits the profile and runs; the other one, of the same table, settings and lists, was begun too, took its own part of the
    -- bars of `before`, lost its supply any number of times, each driven by the rules and restored with an answer of 0, and is lent in k what the last
    -- restore left.
    pub record Lost : Type 0 where
      pub fits : profile_judged own.table (settings_of own.settings) slots ≡ Ok tt
      pub runs : word (lent_to which l).status 0 ≡ 0
      pub begun : Begun own.table own.settings (own_lists own) (box_of (lent_to which l))
      pub box : StepLent
      pub other : Begun own.table own.settings (own_lists own) box
      pub losses : List Loss
      pub restored : Restored own.settings (own_lists own) box losses
      pub lived : bars_before losses ≡ took slots own sofar before
      pub words : box_of (lent_to which k) ≡ last_box own.settings box losses
      -- the bars are 64-bit words, at most 4,294,967,295 of them; with unbroken supply there are places for a point and a trade a bar, and the buffers of
      -- the other do not fill up (it is not stopped with 14)
      pub small : Bars64 own_all
      pub few : length own_all ≤ most_count
      pub points : length own_all ≤ point_places (lent_to which l).rooms.equity
      pub trades : length own_all ≤ trade_places (lent_to which l).rooms.trades
      pub free : word (lent_to which onward.lent).status 0 ≡ 14 → ⊥

  -- THE STATEMENT: the stream goes on, and so does each account that was lost and is back, whatever the others are. What is kept after this call is again
  -- what the unbroken four hold, so the same holds after the next loss.
  pub record GoesOn : Type 0 where
    pub answer : onward.answer ≡ unbroken.answer
    pub stream : onward.lent.stream ≡ unbroken.lent.stream
    pub done : unbroken.lent.done ≡ onward.lent.done + sofar.lent.done
    pub account : (which : Which) (lost : Lost which)
        → AsUnbroken (points_before (own which).settings (own_lists (own which)) lost.box lost.losses)
        (trades_before (own which).settings (own_lists (own which)) lost.box lost.losses) (lent_to which unbroken.lent) (lent_to which onward.lent)
