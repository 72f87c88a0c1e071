-- `floats::root::sqrt`: each test settles a case of x, and what is left is finite and above zero, where `root_bits` has the root. Assumes nothing.
use Rattle.words.specs.Prelude.{◌≡◌, sym, ap, subst, ◌∙◌, Bool, T, Float, binary64, fits, of_bits, lt, eq, of_bits-to_bits, positive}
use Rattle.floats.proofs.{root.Patterns.bits_no_nan, root.Cases.inf_is, root.Cases.of_nan, root.Cases.of_negative, root.Cases.of_zero}
use Rattle.floats.proofs.{root.Cases.of_infinity, root.Cases.left_positive, root.Cases.positive_no_nan, root.Cases.pattern_bounds, Words.nan_is}
use Rattle.floats.proofs.{Zero.plus_zero, Zero.zero_is}
use Rattle.floats.specs.Sqrt as Sqrt
use Rattle.floats.proofs.root.sqrt.Goals as goal

at_zero : {t : Bool} (f : Float → Float → Bool) (x : Float) → f x (of_bits binary64 0) ≡ t → f x plus_zero ≡ t
at_zero f x h = ap (f x) (sym zero_is) ∙ h

pub returns-then-x : goal.returns-then-x
returns-then-x c = nan_is ∙ of_nan c.args.x c.if-x.true

pub returns-then-x-2 : goal.returns-then-x-2
returns-then-x-2 c = let x = c.args.x in nan_is ∙ of_negative x (at_zero lt x c.if-x-2.true)

pub returns-then-x-3 : goal.returns-then-x-3
returns-then-x-3 c = let x = c.args.x in of_zero x (at_zero eq x c.if-x-3.true)

pub returns-then-x-4 : goal.returns-then-x-4
returns-then-x-4 c = let x = c.args.x in inf_is ∙ of_infinity x (ap (eq x) (sym inf_is) ∙ c.if-x-4.true)

pub float_to_bits-x : goal.float_to_bits-x
float_to_bits-x c =
    let left : T (positive c.args.x) = let x = c.args.x in
    left_positive x c.if-x.false (at_zero lt x c.if-x-2.false) (at_zero eq x c.if-x-3.false)
    (ap (eq x) (sym inf_is) ∙ c.if-x-4.false) in
    positive_no_nan c.args.x left

pub root_bits-requires : goal.root_bits-requires
root_bits-requires c =
    let held : T (fits binary64 c.args.x) = subst T (sym c.well_formed.0.1) tt in
    let left : T (positive c.args.x) = let x = c.args.x in
    left_positive x c.if-x.false (at_zero lt x c.if-x-2.false) (at_zero eq x c.if-x-3.false)
    (ap (eq x) (sym inf_is) ∙ c.if-x-4.false) in
    pattern_bounds c.args.x held left

pub float_from_bits-result : goal.float_from_bits-result
float_from_bits-result c = bits_no_nan c.root_bits.result c.root_bits.ensures.1

pub returns : goal.returns
returns c =
    let held : T (fits binary64 c.args.x) = subst T (sym c.well_formed.0.1) tt in
    c.root_bits.ensures.0 ∙ ap Sqrt.sqrt (of_bits-to_bits binary64 c.args.x held)
