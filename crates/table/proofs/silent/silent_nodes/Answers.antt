-- What is found is what is to be listed; where the list is too small nothing is put into it.
use Rattle.words.specs.Prelude.{sym, ◌∙◌}
use Rattle.table.proofs.{Listing.whole_all, Listing.answers_refused, Listing.answers_small, Listing.answers_lists}
use Rattle.table.proofs.silent.silent_nodes.Goals as goal

pub list_all-count-requires : goal.list_all-count-requires
list_all-count-requires c = whole_all _ _ _ _ (sym c.check-checked.ensures.0 ∙ c.in-Ok.is) c.check-checked.ensures.1

pub returns-then-list-count : goal.returns-then-list-count
returns-then-list-count c =
    let a = answers_small _ _ _ _ _ (sym c.check-checked.ensures.0 ∙ c.in-Ok.is) _ c.list_all-count.ensures.value c.if-list-count.true in
    record { value = a.is; list_after = a.leaves }

pub list_all-requires : goal.list_all-requires
list_all-requires c = whole_all _ _ _ _ (sym c.check-checked.ensures.0 ∙ c.in-Ok.is) c.check-checked.ensures.1

pub returns-in-Err : goal.returns-in-Err
returns-in-Err c =
    let a = answers_refused _ _ _ _ (sym c.check-checked.ensures.0 ∙ c.in-Err.is) in
    record { value = a.is; list_after = a.leaves }

pub returns-else-list-count : goal.returns-else-list-count
returns-else-list-count c =
    let a = answers_lists _ _ _ _ _ (sym c.check-checked.ensures.0 ∙ c.in-Ok.is) _ c.list_all-count.ensures.value
    _ _ c.if-list-count.false c.list_all.ensures.value c.list_all.ensures.list_after in
    record { value = a.is; list_after = a.leaves }
