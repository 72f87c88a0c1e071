-- Nine tests in the order of the definition, none of them a branch.
use Rattle.words.specs.Prelude.{ℕ, ◌+◌, ◌*◌, ◌<◌, mul-le-mul_left, mul-le-mul_right, arith}
use Rattle.images.specs.{Layout.dump_bytes, Refused.shape_fine}
use Rattle.table.specs.Bytes as Bytes
use Rattle.images.proofs.judge.shape_fine.Goals as goal

-- a D of two bytes and a K of one never make too large a size
size_fits : (d k : ℕ) → d < 65536 → k < 256 → 256 + d * (8 * (7 + k)) < 4294967296
size_fits d k low few = omega (arith, mul-le-mul_left {m = 8 * (7 + k)} {n = 2096} d (omega arith), mul-le-mul_right {m = d} {n = 65535} 2096 (omega arith))

pub overflow_mul-result-2 : goal.overflow_mul-result-2
overflow_mul-result-2 c =
    omega (arith, size_fits c.read16-depth.result c.byte-slots.result (omega arith) (omega arith))

pub overflow_add-result-2 : goal.overflow_add-result-2
overflow_add-result-2 c =
    omega (arith, size_fits c.read16-depth.result c.byte-slots.result (omega arith) (omega arith))

pub returns : goal.returns
unfolding shape_fine dump_bytes Bytes.u16
returns c = cc
