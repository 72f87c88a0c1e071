-- `realized_vol_ring`: too short a lookback, too few rows; then the two passes, as the law of them says.
use Rattle.words.specs.Prelude.{lt-ltb, le-ltb, ◌≡◌, ◌≤◌, arith}
use Rattle.rows.specs.{History.history_of, Ring.ring_of, Laws.Ring.first_fits, Laws.Ring.ring_first}
use Rattle.execution.specs.{Volatility.realized_vol}
use Rattle.execution.proofs.{Realized.no_returns, Realized.some_returns}
use Rattle.execution.proofs.volatility.realized_vol_ring.Goals as goal

pub returns-then-lookback-lt2 : goal.returns-then-lookback-lt2
unfolding realized_vol ring_of
returns-then-lookback-lt2 c = simp (lt-ltb _ _ c.if-lookback-lt2.true)

pub returns-then-held-back : goal.returns-then-held-back
unfolding realized_vol ring_of
returns-then-held-back c = simp (le-ltb _ _ c.if-lookback-lt2.false, ← c.row_count-held.ensures, lt-ltb _ _ c.if-held-back.true)

pub tally_of-sum-requires : goal.tally_of-sum-requires
unfolding realized_vol ring_of
tally_of-sum-requires c =
    let begun : let a = c.args in
    (c.row_count-held.result ≡ (history_of a.slots a.rows.now).rows) × (c.first_of-oldest.result ≤ c.row_count-held.result) = (c.row_count-held.ensures, rw c.first_of-oldest.ensures (first_fits _ _)) in
    let b = begun in (b.0, b.1, omega arith, omega arith)

pub returns-then-sum-eq0 : goal.returns-then-sum-eq0
unfolding ring_of
returns-then-sum-eq0 c =
    let same : let a = c.args in
    ring_of a.slots c.first_of-oldest.result a.rows.now ≡ ring_of a.slots a.start a.rows.now = let a = c.args in
    rw (c.first_of-oldest.ensures, c.row_count-held.ensures) (ring_first a.slots a.start a.rows.now) in
    rw (← same)
    (no_returns _ _ _ c.row_count-held.ensures c.if-lookback-lt2.false c.if-held-back.false _ c.tally_of-sum.ensures c.if-sum-eq0.true)

pub tally_of-squares-requires : goal.tally_of-squares-requires
unfolding realized_vol ring_of
tally_of-squares-requires c =
    let begun : let a = c.args in
    (c.row_count-held.result ≡ (history_of a.slots a.rows.now).rows) × (c.first_of-oldest.result ≤ c.row_count-held.result) = (c.row_count-held.ensures, rw c.first_of-oldest.ensures (first_fits _ _)) in
    let b = begun in (b.0, b.1, omega arith, omega arith)

pub returns : goal.returns
unfolding ring_of
returns c =
    let same : let a = c.args in
    ring_of a.slots c.first_of-oldest.result a.rows.now ≡ ring_of a.slots a.start a.rows.now = let a = c.args in
    rw (c.first_of-oldest.ensures, c.row_count-held.ensures) (ring_first a.slots a.start a.rows.now) in
    rw (← same)
    (some_returns _ _ _ c.row_count-held.ensures c.if-lookback-lt2.false c.if-held-back.false _ c.tally_of-sum.ensures _ _ _ _
    c.if-sum-eq0.false c.counted-n.ensures c.tally_of-squares.ensures c.sqrt.ensures c.if_positive.ensures)
