-- Three counts are set: the reason's, wins, losses. Assumes nothing.
use Rattle.words.specs.Prelude.{◌≡◌, sym, ap, subst, ◌∙◌, ℕ, ◌-◌, ◌≤◌, arith, Float}
use Rattle.floats.specs.{Floats.◌≺◌}
use Rattle.totals.specs.{Trades.bit_of, Trades.trade, Trades.won, Trades.lost, Laws.Counts.counted, Laws.Counts.counts_one, Laws.Counts.bit_most}
use Rattle.floats.specs.Floats as Floats
use Rattle.totals.proofs.counts.count.Goals as goal

pub overflow_add-ended : goal.overflow_add-ended
overflow_add-ended c = omega (arith, c.requires.2 (c.args.reason - 1))

pub overflow_add-wins : goal.overflow_add-wins
overflow_add-wins c =
    omega (arith, c.requires.2 6, subst (λ (k : ℕ). k ≤ 1) (sym c.bit_of.ensures) (bit_most _))

pub overflow_add-losses : goal.overflow_add-losses
overflow_add-losses c =
    omega (arith, c.requires.2 7, subst (λ (k : ℕ). k ≤ 1) (sym c.bit_of-2.ensures) (bit_most _))

pub returns : goal.returns
returns c =
    let counts = c.args.counts.now in
    let pnl = c.args.pnl in
    let reason = c.args.reason in
    let float = c.float_of-x in
    let wins : c.bit_of.result ≡ bit_of (won (trade pnl reason)) =
    c.bit_of.ensures ∙ ap (λ (x : Float). bit_of (Floats.zero ≺ x)) float.ensures in
    let losses : c.bit_of-2.result ≡ bit_of (lost (trade pnl reason)) = c.bit_of-2.ensures ∙ ap (λ (x : Float). bit_of (x ≺ Floats.zero)) float.ensures in
    ap (λ (k : ℕ). counted counts (reason - 1) k c.bit_of-2.result) wins
    ∙ ap (λ (k : ℕ). counted counts (reason - 1) (bit_of (won (trade pnl reason))) k) losses
    ∙ counts_one counts pnl reason (omega arith) c.requires.0 c.requires.1
