-- `floats::root::normal`: a subnormal number is moved until its first digit stands at place 52; any other has it there. Assumes nothing.
use Rattle.words.specs.Prelude.{ℕ, ◌-◌, ◌%◌, ◌^◌, ◌<◌, ◌≤◌, arith, count_leading_zeros}
use Rattle.floats.proofs.{root.Normals.lead_low, root.Normals.lead_high, root.Normals.normal_small, root.Normals.normal_large, root.Normals.small_some}
use Rattle.floats.proofs.root.normal.Goals as goal

short : (z : ℕ) → z ≤ 52 → z < 2 ^ 64
short z h = omega arith

less : (z : ℕ) → z ≤ 52 → z < 64
less z h = omega arith

pub overflow_sub-z : goal.overflow_sub-z
overflow_sub-z c =
    let some : (0 < c.args.b % 2 ^ 52) × (c.args.b % 2 ^ 52 < 2 ^ 52) = small_some c.args.b c.requires.0 c.if-e-eq0.true in
    let s = some in lead_low (c.args.b % 2 ^ 52) s.0 s.1

pub overflow_cast-result : goal.overflow_cast-result
overflow_cast-result c =
    let high : count_leading_zeros 64 (c.args.b % 2 ^ 52) - 11 ≤ 52 = let some : (0 < c.args.b % 2 ^ 52) × (c.args.b % 2 ^ 52 < 2 ^ 52) = small_some c.args.b c.requires.0 c.if-e-eq0.true in
    let s = some in lead_high (c.args.b % 2 ^ 52) s.0 s.1 in
    record { fits = short (count_leading_zeros 64 (c.args.b % 2 ^ 52) - 11) high }

pub overflow_shl-result : goal.overflow_shl-result
overflow_shl-result c =
    let high : count_leading_zeros 64 (c.args.b % 2 ^ 52) - 11 ≤ 52 = let some : (0 < c.args.b % 2 ^ 52) × (c.args.b % 2 ^ 52 < 2 ^ 52) = small_some c.args.b c.requires.0 c.if-e-eq0.true in
    let s = some in lead_high (c.args.b % 2 ^ 52) s.0 s.1 in
    less (count_leading_zeros 64 (c.args.b % 2 ^ 52) - 11) high

pub overflow_cast-result-then-e-eq0 : goal.overflow_cast-result-then-e-eq0
overflow_cast-result-then-e-eq0 c =
    let high : count_leading_zeros 64 (c.args.b % 2 ^ 52) - 11 ≤ 52 = let some : (0 < c.args.b % 2 ^ 52) × (c.args.b % 2 ^ 52 < 2 ^ 52) = small_some c.args.b c.requires.0 c.if-e-eq0.true in
    let s = some in lead_high (c.args.b % 2 ^ 52) s.0 s.1 in
    record { fits = short (count_leading_zeros 64 (c.args.b % 2 ^ 52) - 11) high }

pub overflow_sub-result : goal.overflow_sub-result
overflow_sub-result c =
    let high : count_leading_zeros 64 (c.args.b % 2 ^ 52) - 11 ≤ 52 = let some : (0 < c.args.b % 2 ^ 52) × (c.args.b % 2 ^ 52 < 2 ^ 52) = small_some c.args.b c.requires.0 c.if-e-eq0.true in
    let s = some in lead_high (c.args.b % 2 ^ 52) s.0 s.1 in
    high

pub returns-then-e-eq0 : goal.returns-then-e-eq0
returns-then-e-eq0 c = normal_small c.args.b c.requires.0 c.if-e-eq0.true

pub returns-else-e-eq0 : goal.returns-else-e-eq0
returns-else-e-eq0 c = normal_large c.args.b c.requires.1 c.if-e-eq0.false
