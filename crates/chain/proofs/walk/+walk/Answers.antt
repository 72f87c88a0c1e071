use Rattle.words.specs.Prelude.{sym, ◌∙◌, arith}
use Rattle.chain.specs.{Laws.Steps.goes_down}
use Rattle.chain.proofs.{Walking.walked_one, Walking.walked_on}
use Rattle.chain.proofs.walk.+walk.Goals as goal

pub put_line-requires : goal.put_line-requires
put_line-requires t c =
    omega arith

pub overflow_sub-left : goal.overflow_sub-left
overflow_sub-left t c =
    omega (arith, goes_down _ _ _ _ _ _ _ _ (sym c.next_node.ensures ∙ c.in-Some.is))

pub walk-requires : goal.walk-requires
walk-requires t c =
    let down = goes_down _ _ _ _ _ _ _ _ (sym c.next_node.ensures ∙ c.in-Some.is) in
    (omega (arith, down), omega (arith, down))

pub returns-in-None : goal.returns-in-None
returns-in-None t c =
    let both = walked_one _ _ _ _ _ _ _ _ _ _ _ c.put_line.ensures
    c.next_node.ensures c.in-None.is in
    record { value = both.0; lines_after = both.1 }

pub returns-in-Some : goal.returns-in-Some
returns-in-Some t c =
    let both = walked_on _ _ _ _ _ _ _ _ _ _ _ c.put_line.ensures c.next_node.ensures _ _ _
    c.in-Some.is
    c.walk.ensures.value c.walk.ensures.lines_after in
    record { value = both.0; lines_after = both.1 }
