-- Four bytes of each half are the eight of the word.
use Rattle.words.specs.Prelude.{◌/◌, ◌%◌, ◌≡◌, arith}
use Rattle.dump.proofs.bytes.bytes_of.Goals as goal

pub returns : goal.returns
returns c =
    let w = c.args.w in
    let a : w % 4294967296 % 256 ≡ w % 256 = omega arith in
    let b : w % 4294967296 / 256 % 256 ≡ w / 256 % 256 = omega arith in
    let d : w % 4294967296 / 65536 % 256 ≡ w / 65536 % 256 = omega arith in
    let e : w % 4294967296 / 16777216 % 256 ≡ w / 16777216 % 256 = omega arith in
    let f : w / 4294967296 / 256 % 256 ≡ w / 1099511627776 % 256 = omega arith in
    let g : w / 4294967296 / 65536 % 256 ≡ w / 281474976710656 % 256 = omega arith in
    let h : w / 4294967296 / 16777216 % 256 ≡ w / 72057594037927936 % 256 = omega arith in
    rw (a, b, d, e, f, g, h) c.to_le_bytes.ensures
