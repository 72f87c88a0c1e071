-- `floats::root::nearest_root`: half of the whole root of four times the number, rounded up. Assumes nothing.
use Rattle.words.specs.Prelude.{◌≡◌, subst, ℕ, ◌+◌, ◌-◌, ◌*◌, ◌^◌, ◌<◌, arith}
use Rattle.floats.specs.{Root.WholeRoot}
use Rattle.floats.proofs.{root.Bits.nearest, root.Bits.root_most}
use Rattle.floats.proofs.root.nearest_root.Goals as goal

four : (d : ℕ) → d * 2 ^ 54 ≡ 4 * (d * 2 ^ 52)
four d = omega arith

fine : (x : ℕ) → x < 2 ^ 54 - 1 → x + 1 < 2 ^ 64
fine x h = omega arith

pub overflow_add-result : goal.overflow_add-result
overflow_add-result c =
    let found : WholeRoot (4 * (c.args.d * 2 ^ 52)) c.whole_root-v.result.root c.whole_root-v.result.rest = subst (λ (n : ℕ). WholeRoot n c.whole_root-v.result.root c.whole_root-v.result.rest) (four c.args.d) c.whole_root-v.ensures in
    record { fits = fine _ (root_most _ _ _ c.requires.1 found) }

pub returns : goal.returns
returns c =
    let found : WholeRoot (4 * (c.args.d * 2 ^ 52)) c.whole_root-v.result.root c.whole_root-v.result.rest = subst (λ (n : ℕ). WholeRoot n c.whole_root-v.result.root c.whole_root-v.result.rest) (four c.args.d) c.whole_root-v.ensures in
    nearest _ _ _ c.requires.1 found
