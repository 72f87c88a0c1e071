use Rattle.words.specs.Prelude.{◌≡◌, refl, ap, subst, ◌∙◌, ℕ, suc, ◌+◌, ◌-◌, ◌*◌, ◌%◌, ◌^◌, ◌<◌, arith, pow-suc}
use Rattle.floats.proofs.{root.Bits.Found, root.Bits.goes, root.Bits.all_found}
use Rattle.floats.proofs.root.whole_root.Goals as goal

-- one round less
down : (i : ℕ) → i < 27 → 4 ^ (27 - i) ≡ 4 ^ (27 - (i + 1)) * 4
down i h =
    let up : 27 - i ≡ suc (27 - (i + 1)) = omega arith in
    ap (λ (k : ℕ). 4 ^ k) up ∙ pow-suc 4 (27 - (i + 1))

four : (x y z : ℕ) → x ≡ y → y ≡ z * 4 → x % 4 ≡ 0
four x y z e f = omega arith

quarter : (x y z w : ℕ) → 4 * x ≡ y → y ≡ z → z ≡ w * 4 → x ≡ w
quarter x y z w e f g = omega arith

pub loop-round-init : goal.loop-round-init
loop-round-init c = (refl, record { made = omega arith; rest = omega arith; even = refl }, omega arith)

pub two_bits-p-requires : goal.two_bits-p-requires
two_bits-p-requires c =
    let l = c.loop-round in
    (four _ _ _ l.invariant.0 (down l._round (omega arith)), l.invariant.1.rest, l.invariant.2)

pub loop-round-preserved : goal.loop-round-preserved
loop-round-preserved c =
    let l = c.loop-round in (
      quarter _ _ _ _ c.two_bits-p.ensures.1 l.invariant.0 (down l._round (omega arith)),
      goes _ _ _ _ _ _ _ l.invariant.1 c.two_bits-p.ensures.0,
      omega (arith, c.two_bits-p.ensures.0.fits, l.invariant.2),
    )

pub returns : goal.returns
returns c =
    let l = c.loop-round in
    let none : 27 - l._round ≡ 0 = omega arith in
    all_found _ _ _ (subst (λ (r : ℕ). Found (c.args.d * 2 ^ 54) l.p.twice l.p.rest r)
    (l.invariant.0 ∙ ap (λ (k : ℕ). 4 ^ k) none) l.invariant.1)
