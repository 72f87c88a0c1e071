-- `check_order` meets its contract: rule 7 is broken, or what is left decides and the array is the subtree ends.
-- Assumes nothing.
use Rattle.words.specs.declared.refusal.Refusal.TheVariants as Refusal
use Rattle.words.specs.Prelude.{sym, ◌∙◌, ap, ℕ, List}
use Rattle.table.proofs.{Final.stage_at, Final.stage_none, Final.ends_are, Four.linked_all}
use Rattle.table.specs.{Checked.from7, Checked.from8, Ends.ends_for}
use Rattle.table.proofs.check_order.Goals as goal

pub check_nesting-requires : goal.check_nesting-requires
check_nesting-requires c = record {
  roots = c.requires;
  linked_all = linked_all _ _ _ c.requires
      c.order_all-ends.ensures (sym c.misfits_of-bad.ensures ∙ c.in-None.is);
}

pub returns-in-Some : goal.returns-in-Some
unfolding from7
returns-in-Some c =
    stage_at Refusal.Tree _ _ _ _ _ _
    (sym c.misfits_of-bad.ensures ∙ c.in-Some.is) c.refused.ensures.0 c.refused.ensures.1

pub returns-in-None : goal.returns-in-None
unfolding from7
returns-in-None c =
    let none = sym c.misfits_of-bad.ensures ∙ c.in-None.is in
    let t = c.args.t.now in
    let links =
    linked_all t _ _ c.requires
    c.order_all-ends.ensures none in
    stage_none Refusal.Tree _ _ _ _ _ none c.check_nesting.ensures.0
    (c.check_nesting.ensures.1 ∙ ap (λ (l : List ℕ). ends_for (from8 t) l)
    (ends_are t _ _ c.requires
    c.order_all-ends.ensures links))
