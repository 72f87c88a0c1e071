-- Each byte is below 256, so nothing wraps.
use Rattle.words.specs.Prelude.{◌+◌, ◌≡◌, arith}
use Rattle.table.specs.{Bytes.u16, Bytes.u32, Bytes.u64}
use Rattle.images.proofs.reader.word_at.Goals as goal

pub returns : goal.returns
unfolding u16 u32 u64
returns c =
    let at = c.args.at in
    let fourth : at + 2 + 1 ≡ at + 3 = omega arith in
    let sixth : at + 4 + 1 ≡ at + 5 = omega arith in
    let seventh : at + 4 + 2 ≡ at + 6 = omega arith in
    let eighth : at + 4 + 2 + 1 ≡ at + 7 = omega arith in (
      rw (eighth, seventh, sixth, fourth) (omega (arith, c.from_le_bytes.ensures)),
      omega arith,
    )
