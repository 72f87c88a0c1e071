-- One law for each way out.
use Rattle.words.specs.Prelude.{sym, ◌∙◌, arith}
use Rattle.accounts.specs.{Laws.Profile.profile_slots}
use Rattle.streamed.proofs.{Accounting.some_of, Accounting.account_none, Accounting.account_stopped, Accounting.account_refused}
use Rattle.streamed.proofs.{Accounting.account_rode, Accounting.account_stops, Riding.ride_within}
use Rattle.streamed.proofs.four.account.Goals as goal

pub returns-then-count-eq0 : goal.returns-then-count-eq0
returns-then-count-eq0 c = account_none _ _ _ _ _ _ _ c.if-count-eq0.true

pub returns-then-is_stopped : goal.returns-then-is_stopped
returns-then-is_stopped c = account_stopped _ _ _ _ _ _ _ c.if-count-eq0.false (sym c.is_stopped.ensures ∙ c.if-is_stopped.true)

pub returns-in-Err : goal.returns-in-Err
returns-in-Err c =
    account_refused _ _ _ _ _ _ _ c.if-count-eq0.false (sym c.is_stopped.ensures ∙ c.if-is_stopped.false) c.settings_of-chosen.ensures
    (sym c.judge_profile.ensures ∙ c.in-Err.is) (rw (c.number.ensures, c.place.ensures) at c.stop.ensures)

pub ride-went-requires : goal.ride-went-requires
ride-went-requires c = (
  c.requires.slots (some_of c.args.count c.if-count-eq0.false),
  profile_slots _ _ _ (sym c.judge_profile.ensures ∙ c.in_default.is),
  c.requires.words,
)

pub overflow_add-seen : goal.overflow_add-seen
overflow_add-seen c =
    let good = c.well_formed in
    let early = c.requires.early (some_of c.args.count c.if-count-eq0.false) in
    let few = ride_within _ _ _ _ _ _ _ c.ride-went.ensures in
    let words = c.requires.words in
    omega arith

pub returns-then-went-ne0 : goal.returns-then-went-ne0
returns-then-went-ne0 c =
    account_stops _ _ _ _ _ _ _ c.if-count-eq0.false (sym c.is_stopped.ensures ∙ c.if-is_stopped.false) c.settings_of-chosen.ensures
    (sym c.judge_profile.ensures ∙ c.in_default.is) c.ride-went.ensures c.if-went-ne0.true c.stop-then-went-ne0.ensures

pub returns-else-went-ne0 : goal.returns-else-went-ne0
returns-else-went-ne0 c =
    account_rode _ _ _ _ _ _ _ c.if-count-eq0.false (sym c.is_stopped.ensures ∙ c.if-is_stopped.false) c.settings_of-chosen.ensures
    (sym c.judge_profile.ensures ∙ c.in_default.is) c.ride-went.ensures c.if-went-ne0.false
