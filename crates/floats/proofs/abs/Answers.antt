-- `floats::abs`: below zero the sign is turned, both zeros give +0.0, and what is left has its sign off already or is a NaN. Assumes nothing.
use Rattle.words.specs.Prelude.{sym, ap, subst, ◌∙◌, T, binary64, fits, lt, eq}
use Rattle.floats.proofs.{Zero.zero_is, Signs.abs_negative, Signs.abs-zero, Signs.abs_rest}
use Rattle.floats.proofs.abs.Goals as goal

pub returns-then-x : goal.returns-then-x
returns-then-x c = let x = c.args.x in abs_negative x (ap (lt x) (sym zero_is) ∙ c.if-x.true)

pub returns-then-x-2 : goal.returns-then-x-2
returns-then-x-2 c =
    let held : T (fits binary64 c.args.x) = subst T (sym c.well_formed.0.1) tt in
    let x = c.args.x in zero_is ∙ abs-zero x held (ap (eq x) (sym zero_is) ∙ c.if-x-2.true)

pub returns : goal.returns
returns c =
    let x = c.args.x in abs_rest x (ap (lt x) (sym zero_is) ∙ c.if-x.false) (ap (eq x) (sym zero_is) ∙ c.if-x-2.false)
