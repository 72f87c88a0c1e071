-- A shift below the width loses nothing.
use Rattle.words.specs.Prelude.{◌+◌, ◌*◌, ◌%◌, ◌^◌, ◌≤◌, ◌≡◌, ◌∙◌, arith, pow_pos, shl_exact}
use Rattle.accounts.proofs.own.power.Goals as goal

pub returns : goal.returns
returns c =
    let fits : 1 + c.args.k ≤ 64 = omega (arith, c.requires) in
    let once : 1 * 2 ^ c.args.k ≡ 2 ^ c.args.k = omega arith in
    let exact : (1 * 2 ^ c.args.k) % 2 ^ 64 ≡ 2 ^ c.args.k = shl_exact {a = 1} 1 c.args.k 64 (omega arith) fits ∙ once in
    (exact, rw exact (pow_pos c.args.k))
