use Rattle.words.specs.Prelude.{◌≡◌, sym, ap, subst, ◌∙◌, List, ℕ, ◌+◌, ◌-◌, ◌*◌, ◌/◌, ◌%◌, ◌^◌, ◌<◌, arith, leb, length, get_or}
use Rattle.words.specs.{Words.word, Limits.trade_words}
use Rattle.floats.specs.{Root.units_of}
use Rattle.totals.specs.{Number.AreWords, Number.number_of, Number.words_of, Number.shifted, Number.place, Exact.units_in, Exact.sum_size, Trades.Trade}
use Rattle.totals.specs.{Trades.trades_from, Trades.trades_of, Trades.pnl_sum, Totals.sum_with, Laws.Trades.trades_next, Laws.Trades.trades_none}
use Rattle.totals.specs.{Laws.Sums.sum_with_float, Laws.Sums.sum_with_twice, Laws.Sums.sum_with_none, Laws.Sums.sum_words, Laws.Sums.sum_length}
use Rattle.totals.proofs.sum.add_trades.Goals as goal

-- at the start all are to come
none_yet : (n : ℕ) → n - 0 ≡ n
none_yet n = omega arith

-- word k of record i is in the list
inside : (n i k : ℕ) → i < n / trade_words → k < trade_words → trade_words * i + k < n
inside n i k h l = omega arith

-- one trade more
next : (sum new : List ℕ) (w : ℕ) → AreWords sum → length sum ≡ sum_size
    → new ≡ words_of (length sum) (shifted (leb (2 ^ 63) w) (place (length sum)) (number_of sum) (units_of (w % 2 ^ 63))) → new ≡ sum_with sum (units_in w)
next sum new w words size e =
    e ∙ ap (λ (n : ℕ). words_of n (shifted (leb (2 ^ 63) w) (place n) (number_of sum) (units_of (w % 2 ^ 63)))) size ∙ sum_with_float sum words size w

-- .. moves it from those to come into the sum
goes_on : (sum new trades : List ℕ) (n i : ℕ) → i < n → new ≡ sum_with sum (units_in (word trades (trade_words * i + 5)))
    → sum_with new (pnl_sum (trades_from (n - (i + 1)) (i + 1) trades)) ≡ sum_with sum (pnl_sum (trades_from (n - i) i trades))
unfolding pnl_sum
goes_on sum new trades n i h e =
    let later = trades_from (n - (i + 1)) (i + 1) trades in
    ap (λ (s : List ℕ). sum_with s (pnl_sum later)) e ∙ sum_with_twice sum (units_in (word trades (trade_words * i + 5))) (pnl_sum later)
    ∙ ap (λ (ts : List Trade). sum_with sum (pnl_sum ts)) (sym (trades_next n i trades h))

pub loop-i-init : goal.loop-i-init
loop-i-init c = (
  omega arith,
  λ i. omega (arith, c.fits-sum i),
  omega arith,
  ap (λ (k : ℕ). sum_with c.args.sum.now (pnl_sum (trades_from k 0 c.args.trades.now))) (none_yet _),
)

pub offset_bounds-trades-i : goal.offset_bounds-trades-i
offset_bounds-trades-i c =
    let good = c.well_formed in
    omega (arith, inside (length c.args.trades.now) c.loop-i.i 5 c.loop-i-test.true (omega arith))

pub bounds-trades-i : goal.bounds-trades-i
bounds-trades-i c =
    inside (length c.args.trades.now) c.loop-i.i 5 c.loop-i-test.true (omega arith)

pub loop-i-preserved : goal.loop-i-preserved
loop-i-preserved c =
    let l = c.loop-i in
    let trades = c.args.trades.now in
    let w = word trades (trade_words * l.i + 5) in
    let is = next l.sum _ w l.invariant.1 l.invariant.2 c.add_float.ensures in (
      omega (arith, c.loop-i-test.true),
      λ j. subst (λ (ws : List ℕ). get_or ws j 0 < 2 ^ 64) (sym is) (sum_words l.sum (units_in w) j),
      ap length is ∙ sum_length l.sum (units_in w),
      goes_on l.sum _ trades _ l.i c.loop-i-test.true is ∙ l.invariant.3,
    )

pub returns : goal.returns
unfolding trades_of pnl_sum
returns c =
    let l = c.loop-i in
    let trades = c.args.trades.now in
    sym (sum_with_none l.sum l.invariant.1 l.invariant.2)
    ∙ ap (λ (ts : List Trade). sum_with l.sum (pnl_sum ts)) (sym (trades_none _ l.i trades c.loop-i-test.false)) ∙ l.invariant.3
