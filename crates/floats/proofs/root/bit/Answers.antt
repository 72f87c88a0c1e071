-- `floats::root::bit`: by whether its square still fits. Assumes nothing.
use Rattle.words.specs.Prelude.{◌≡◌, sym, subst, ℕ, ◌+◌, ◌-◌, ◌*◌, ◌/◌, ◌%◌, ◌<◌, ◌≤◌, arith}
use Rattle.floats.specs.{Root.Goes}
use Rattle.floats.proofs.{root.Bits.bit_one, root.Bits.bit_none}
use Rattle.floats.proofs.root.bit.Goals as goal

even : (r : ℕ) → r % 2 ≡ 0 → 2 * (r / 2) ≡ r
even r h = omega arith

back : (y t : ℕ) → t ≤ y → y - t + t ≡ y
back y t h = omega arith

pub returns-then-t-y : goal.returns-then-t-y
returns-then-t-y c =
    let p = c.args.p in
    let w = even p.weight c.requires.0 in (
      subst (λ (r : ℕ). Goes p.twice p.rest r (p.twice + p.weight / 2 + p.weight / 2) (2 * p.rest - (p.twice + p.weight / 2)) (p.weight / 2)) w
          (bit_one p.twice p.rest (p.weight / 2) _ (subst (λ (r : ℕ). p.rest < p.twice + r) (sym w) c.requires.1) (back _ _ c.if-t-y.true)),
      w,
    )

pub returns-else-t-y : goal.returns-else-t-y
returns-else-t-y c =
    let p = c.args.p in
    let w = even p.weight c.requires.0 in (
      subst (λ (r : ℕ). Goes p.twice p.rest r p.twice (2 * p.rest) (p.weight / 2)) w (bit_none p.twice p.rest (p.weight / 2) c.if-t-y.false),
      w,
    )
