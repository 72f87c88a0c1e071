-- `floats::root::two_bits`: one bit after another. Assumes nothing.
use Rattle.words.specs.Prelude.{◌≡◌, ap, ◌∙◌, ℕ, ◌*◌, ◌/◌, ◌%◌, arith}
use Rattle.floats.proofs.{root.Bits.goes_on}
use native.Mathlib.Nat.{mul-mod_right}
use Rattle.floats.proofs.root.two_bits.Goals as goal

even : (x y : ℕ) → 2 * x ≡ y → y % 4 ≡ 0 → x % 2 ≡ 0
even x y e h = let twice : x ≡ 2 * (y / 4) = omega arith in ap (λ (z : ℕ). z % 2) twice ∙ mul-mod_right 2 (y / 4)

pub bit-requires-2 : goal.bit-requires-2
bit-requires-2 c = (even _ _ c.bit.ensures.1 c.requires.0, c.bit.ensures.0.rest, omega (arith, c.bit.ensures.0.fits))

pub returns : goal.returns
returns c =
    (goes_on _ _ _ _ _ _ _ _ _ c.bit.ensures.0 c.bit-2.ensures.0, omega (arith, c.bit.ensures.1, c.bit-2.ensures.1))
