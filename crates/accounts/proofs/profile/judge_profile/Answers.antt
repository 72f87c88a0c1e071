-- The table decides first, then the profile.
use Rattle.words.specs.Prelude.{sym, ◌∙◌}
use Rattle.refusals.specs.{Lines.judged}
use Rattle.accounts.specs.{Profile.after_table, Profile.profile_judged}
use Rattle.accounts.proofs.profile.judge_profile.Goals as goal

pub returns-then-within_profile : goal.returns-then-within_profile
unfolding profile_judged after_table judged
returns-then-within_profile c =
    rw (
      sym c.check-checked.ensures.0 ∙ c.in-Ok.is,
      sym c.within_profile.ensures ∙ c.if-within_profile.true,
    )

pub returns-in-Err : goal.returns-in-Err
unfolding profile_judged after_table
returns-in-Err c = rw (sym c.check-checked.ensures.0 ∙ c.in-Err.is)

pub returns-else-within_profile : goal.returns-else-within_profile
unfolding profile_judged after_table judged
returns-else-within_profile c =
    rw (
      sym c.check-checked.ensures.0 ∙ c.in-Ok.is,
      sym c.within_profile.ensures ∙ c.if-within_profile.false,
    )
