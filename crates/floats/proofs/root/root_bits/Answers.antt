-- `floats::root::root_bits`: the nearest root of the 53 digits, at half the scale, is the root (`pattern_root`). Assumes nothing.
use Rattle.words.specs.Prelude.{◌≡◌, sym, subst, ℕ, ◌+◌, ◌*◌, ◌%◌, ◌^◌, ◌<◌, ◌≤◌, lt_of_le_of_lt, mul-le-mul_left, arith}
use Rattle.floats.proofs.{root.PatternRoot.word, root.PatternRoot.word_sized, root.PatternRoot.pattern_root}
use Rattle.floats.specs.{Root.Sized, Root.NearestRoot}
use Rattle.floats.proofs.root.root_bits.Goals as goal

short : (d : ℕ) → d < 2 ^ 54 → d < 2 ^ 64
short d h = omega arith

-- the digits, twice where the scale is odd
few : (m e : ℕ) → m < 2 ^ 53 → m * (1 + e % 2) < 2 ^ 54
few m e h = lt_of_le_of_lt (mul-le-mul_left m (two e)) (double m h)
  where
    two : (x : ℕ) → 1 + x % 2 ≤ 2
    two x = omega arith

    double : (x : ℕ) → x < 2 ^ 53 → x * 2 < 2 ^ 54
    double x l = omega arith

-- .. are M
same : (m e : ℕ) → word m e * 2 ^ 42 ≡ m * (1 + e % 2) * 2 ^ 52
same m e = omega arith

pub overflow_mul-v : goal.overflow_mul-v
overflow_mul-v c =
    let v = c.normal-v in
    record { fits = short _ (few v.result.digits v.result.scale v.ensures.most) }

pub nearest_root-s-requires : goal.nearest_root-s-requires
nearest_root-s-requires c =
    let v = c.normal-v in (
      few v.result.digits v.result.scale v.ensures.most,
      subst Sized (same v.result.digits v.result.scale) (word_sized v.result.digits v.result.scale v.ensures.least v.ensures.most),
    )

pub returns : goal.returns
returns c =
    let v = c.normal-v in
    pattern_root c.args.b v.result.digits v.result.scale c.nearest_root-s.result c.requires.1 v.ensures
    (subst (λ (M : ℕ). NearestRoot M c.nearest_root-s.result) (sym (same v.result.digits v.result.scale)) c.nearest_root-s.ensures)
