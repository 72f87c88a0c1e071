use Rattle.words.specs.Prelude.{◌+◌, ◌-◌, ◌<◌, ◌≤◌, ◌≡◌, sym, ◌∙◌, arith}
use Rattle.chain.proofs.{Newest.newest_here, Newest.newest_further, Newest.newest_last}
use Rattle.chain.proofs.missing.newest_gone.Goals as goal

pub loop-at-init : goal.loop-at-init
loop-at-init c =
    let all : c.args.back + c.args.more - c.args.back ≡ c.args.more = omega arith in
    rw all

pub returns-in-Some : goal.returns-in-Some
returns-in-Some c =
    let l = c.loop-at in
    let some : 0 < c.args.back + c.args.more - l.at = omega arith in
    sym (l.invariant ∙ newest_here _ _ _ _ _ _ _ _ _ some c.series_gone.ensures c.in-Some.is)

pub loop-at-preserved : goal.loop-at-preserved
loop-at-preserved c =
    let l = c.loop-at in
    let some : 0 < c.args.back + c.args.more - l.at = omega arith in
    let rest : c.args.back + c.args.more - (l.at + 1) ≡ c.args.back + c.args.more - l.at - 1 = omega arith in
    rw rest (l.invariant ∙ newest_further _ _ _ _ _ _ _ some c.series_gone.ensures c.in-None.is)

pub returns : goal.returns
returns c =
    let l = c.loop-at in
    let last : l.at ≡ c.args.back + c.args.more = omega arith in
    let over : c.args.back + c.args.more - l.at ≤ 0 = omega arith in
    c.series_gone-2.ensures ∙ rw (← last) (sym (l.invariant ∙ newest_last _ _ _ _ _ _ over))
