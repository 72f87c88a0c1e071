-- With 64 slots there is no bit above them.
use Rattle.words.specs.Prelude.{ℕ, ◌/◌, ◌^◌, ◌<◌, ◌≡◌, sym, ap, ◌∙◌, div-eq_of_lt, arith, eq-eqb}
use Rattle.images.proofs.body.mask_fits.Goals as goal

pub returns : goal.returns
returns c =
    let good = c.well_formed in
    let all : c.args.slots ≡ 64 = omega (arith, c.requires, c.if-slots-lt-MOST_SLOTS.false) in
    let small : c.args.mask < 18446744073709551616 = omega (arith, good) in
    sym (eq-eqb (c.args.mask / 2 ^ c.args.slots) 0 (ap (λ (n : ℕ). c.args.mask / 2 ^ n) all ∙ div-eq_of_lt small))
