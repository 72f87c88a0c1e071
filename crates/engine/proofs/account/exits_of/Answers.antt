-- The levels in the words are those of the terms; with no position there is nothing to leave. Assumes nothing.
use Rattle.words.specs.Prelude.{sym, ap, ◌∙◌}
use Rattle.execution.specs.{Intrabar.apply_intrabar_exits}
use Rattle.records.specs.{declared.settings.Settings.Settings, Settings.settings_of, Settings.terms_of}
use Rattle.engine.proofs.account.exits_of.Goals as goal

pub returns-then-in_position : goal.returns-then-in_position
unfolding settings_of terms_of
returns-then-in_position c =
    let same = c.with_levels-terms.ensures (c.risk_in.ensures ∙ sym (ap (λ (s : Settings). s.terms.risk) c.requires)) in
    rw (c.apply_intrabar_exits.ensures, same)

pub returns : goal.returns
unfolding apply_intrabar_exits
returns c = simp (sym c.in_position.ensures ∙ c.if-in_position.false)
