-- The profile: an account that may ride has no more slots than the stream.
use Rattle.std.specs.Prelude.{ℕ, ◌≤◌, ◌≡◌, Bool, true, ◌&&◌, List, leb, Err, Ok, Result}
use Rattle.words.specs.Prelude.{leb-true}
use Rattle.records.specs.{declared.settings.Settings.Settings}
use Rattle.refusals.specs.{Laws.Lines.never, Laws.Lines.and_true, Laws.Lines.first_holds}
use Rattle.table.specs.{Checked.checked, Header.slots}
use Rattle.accounts.specs.{Profile.no_short_trees, Profile.leverage_within, Profile.slots_within, Profile.within_profile, Profile.after_table}
use Rattle.accounts.specs.{Profile.profile_judged}
use Rattle.words.specs.{declared.refusal.Refusal.Refusal}
use Rattle.table.specs.{declared.answer.Accepted.Accepted}

-- of four tests in one, the last holds
last_holds : (a b c d : Bool) → (a && (b && (c && d))) ≡ true → d ≡ true
last_holds a b c d h = (and_true c d (and_true b (c && d) (and_true a (b && (c && d)) h).1).1).1

pub profile_slots : (table : List ℕ) (s : Settings) (S : ℕ) → profile_judged table s S ≡ Ok tt → s.slots ≤ S
unfolding profile_judged after_table within_profile slots_within
profile_slots table s S = go (checked table)
  where
    go : (a : Result Accepted Refusal) → after_table a (within_profile table s S) ≡ Ok tt → s.slots ≤ S
    go (Err why) h = never h
    go (Ok accepted) h =
        leb-true s.slots S
        (last_holds (no_short_trees table) (leverage_within s.terms.risk.max_leverage) (leb (slots table) S) (leb s.slots S)
        (first_holds _ _ h).0)
