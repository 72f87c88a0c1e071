use Rattle.words.specs.Prelude.{ℕ, ◌+◌, ◌≡◌, sym, Bool, List, arith, eqb, get_or}
use Rattle.refusals.specs.{Laws.Every.every_none, Laws.Every.every_more, Laws.Every.every_no}
use Rattle.images.specs.{Refused.zero_at}
use Rattle.images.proofs.{Testing.equal, Testing.other}
use Rattle.images.proofs.judge.zero_at.Goals as goal

abbrev is_zero : List ℕ → ℕ → ℕ → Bool
is_zero x at i = eqb (get_or x (at + i) 0) 0

pub loop-i-init : goal.loop-i-init
unfolding zero_at
loop-i-init c = let a = c.args in every_none (is_zero a.image.now a.at)

pub returns-then-byte-ne0 : goal.returns-then-byte-ne0
unfolding zero_at
returns-then-byte-ne0 c =
    let a = c.args in
    sym (every_no (is_zero a.image.now a.at) c.loop-i.i (other c.byte.ensures c.if-byte-ne0.true) a.n (omega arith))

pub loop-i-preserved : goal.loop-i-preserved
unfolding zero_at
loop-i-preserved c =
    let a = c.args in
    every_more (is_zero a.image.now a.at) c.loop-i.i c.loop-i.invariant (equal c.byte.ensures c.if-byte-ne0.false)

pub returns : goal.returns
unfolding zero_at
returns c = let e : c.args.n ≡ c.loop-i.i = omega arith in rw e (sym c.loop-i.invariant)
