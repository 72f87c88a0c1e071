-- The definition goes by the same answer of the rule.
use Rattle.words.specs.Prelude.{sym, ◌∙◌}
use Rattle.capi.specs.{Run.rule_call, Run.rule_gives}
use Rattle.capi.proofs.{Calling.call_refuses, Calling.call_does}
use Rattle.capi.proofs.run.ysh_rule.Goals as goal

pub returns-in-Err : goal.returns-in-Err
unfolding rule_call rule_gives
returns-in-Err c =
    let said = rw (c.numbered_tree.ensures, c.position_state-position.ensures) at c.answer_rule-said.ensures in
    call_refuses _ _ (simp (sym said ∙ c.in-Err.is)) c.answer_word.ensures

pub returns-in-Ok : goal.returns-in-Ok
unfolding rule_call rule_gives
returns-in-Ok c =
    let said = rw (c.numbered_tree.ensures, c.position_state-position.ensures) at c.answer_rule-said.ensures in
    call_does _ _ (simp (sym said ∙ c.in-Ok.is, c.says_of.ensures))
