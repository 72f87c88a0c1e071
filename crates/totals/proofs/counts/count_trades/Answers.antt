use Rattle.words.specs.Prelude.{◌≡◌, refl, sym, ap, subst, ◌∙◌, true, false, List, [], ◌∷◌, ℕ, suc, ◌+◌, ◌-◌, ◌*◌, ◌<◌, ◌≤◌, arith, length, get_or}
use Rattle.words.specs.{Limits.trade_words, Limits.most_count}
use Rattle.totals.specs.{Trades.Trade, Trades.trade_at, Trades.trades_from, Trades.acceptable, Trades.good_start, Totals.count_size}
use Rattle.totals.specs.{Totals.with_counts, Laws.Trades.trades_next, Laws.Trades.trades_none, Laws.Trades.good_next, Laws.Trades.good_ends}
use Rattle.totals.specs.{Laws.Trades.acceptable_reason, Laws.Counts.counts_none, Laws.Counts.counts_twice, Laws.Counts.length_counts}
use Rattle.totals.specs.{Laws.Counts.one_more}
use Rattle.totals.proofs.{Testing.so, Testing.not_so}
use Rattle.totals.proofs.counts.count_trades.Goals as goal

-- the good ones from trade i on, of n
abbrev good_from : ℕ → ℕ → List ℕ → List Trade
good_from n i trades = good_start (trades_from (n - i) i trades)

-- all good ones, as i of them are counted
abbrev Counted : (counts₀ trades : List ℕ) → (n : ℕ) → (counts : List ℕ) → (i : ℕ) → List Trade → Type 0
Counted counts₀ trades n counts i good =
    (with_counts counts good ≡ with_counts counts₀ (good_start (trades_from n 0 trades))) × (i + length good ≡ length (good_start (trades_from n 0 trades)))

begins : (counts trades : List ℕ) (n : ℕ) → Counted counts trades n counts 0 (good_from n 0 trades)
begins counts trades n =
    subst (λ (k : ℕ). Counted counts trades n counts 0 (good_start (trades_from k 0 trades))) (all n) (refl, omega arith)
  where
    all : (k : ℕ) → k ≡ k - 0
    all k = omega arith

-- where no more is good all good ones are counted
ends : (counts₀ trades : List ℕ) (n : ℕ) (counts : List ℕ) (i : ℕ) (good : List Trade) → length counts ≡ count_size → good ≡ []
    → Counted counts₀ trades n counts i good
    → (i ≡ length (good_start (trades_from n 0 trades))) × (counts ≡ with_counts counts₀ (good_start (trades_from n 0 trades)))
ends counts₀ trades n counts i good size e h =
    let none : length good ≡ 0 = ap length e in
    (omega (arith, h.1), sym (counts_none counts size) ∙ ap (with_counts counts) (sym e) ∙ h.0)

-- one more
goes_on : (counts₀ trades : List ℕ) (n : ℕ) (counts : List ℕ) (i : ℕ) → i < n → acceptable (trade_at i trades) ≡ true
    → Counted counts₀ trades n counts i (good_from n i trades)
    → Counted counts₀ trades n (with_counts counts (trade_at i trades ∷ [])) (i + 1) (good_from n (i + 1) trades)
goes_on counts₀ trades n counts i h fine (all, many) =
    let t = trade_at i trades in
    let later = good_from n (i + 1) trades in
    let now : good_from n i trades ≡ t ∷ later = ap good_start (trades_next n i trades h) ∙ good_next t (trades_from (n - (i + 1)) (i + 1) trades) fine in
    let size : length (good_from n i trades) ≡ suc (length later) = ap length now in
    (counts_twice counts (t ∷ []) later ∙ ap (with_counts counts) (sym now) ∙ all, omega arith)

-- word k of record i is in the list
inside : (n i k len : ℕ) → i < n → k < trade_words → n * trade_words ≤ len → trade_words * i + k < len
inside n i k len h l f = omega arith

pub loop-i-init : goal.loop-i-init
loop-i-init c =
    (omega arith, omega arith, λ i. omega (arith, c.requires.2 i), begins c.args.counts.now c.args.trades.now c.args.n)

pub overflow_mul-pnl : goal.overflow_mul-pnl
overflow_mul-pnl c = omega (arith, c.requires.1, c.loop-i-test.true)

pub overflow_add-pnl : goal.overflow_add-pnl
overflow_add-pnl c = omega (arith, c.requires.1, c.loop-i-test.true)

pub offset_bounds-trades-i : goal.offset_bounds-trades-i
offset_bounds-trades-i c = omega (arith, c.requires.1, c.loop-i-test.true)

pub bounds-trades-i : goal.bounds-trades-i
bounds-trades-i c =
    inside c.args.n c.loop-i.i 5 _ c.loop-i-test.true (omega arith) c.requires.0

pub overflow_mul-reason : goal.overflow_mul-reason
overflow_mul-reason c = omega (arith, c.requires.1, c.loop-i-test.true)

pub overflow_add-reason : goal.overflow_add-reason
overflow_add-reason c = omega (arith, c.requires.1, c.loop-i-test.true)

pub offset_bounds-trades-i-in-loop-i : goal.offset_bounds-trades-i-in-loop-i
offset_bounds-trades-i-in-loop-i c = omega (arith, c.requires.1, c.loop-i-test.true)

pub bounds-trades-i-in-loop-i : goal.bounds-trades-i-in-loop-i
bounds-trades-i-in-loop-i c =
    inside c.args.n c.loop-i.i 7 _ c.loop-i-test.true (omega arith) c.requires.0

pub returns-then-not-is_acceptable : goal.returns-then-not-is_acceptable
returns-then-not-is_acceptable c =
    let l = c.loop-i in
    let trades = c.args.trades.now in
    let bad : acceptable (trade_at l.i trades) ≡ false = sym c.is_acceptable.ensures ∙ not_so _ c.if-not-is_acceptable.true-raw in
    ends c.args.counts.now trades c.args.n l.counts l.i (good_from c.args.n l.i trades) l.invariant.1
    (ap good_start (trades_next c.args.n l.i trades c.loop-i-test.true) ∙ good_ends _ _ bad) l.invariant.3

pub count-requires : goal.count-requires
count-requires c =
    let l = c.loop-i in
    let fine : acceptable (trade_at l.i c.args.trades.now) ≡ true = sym c.is_acceptable.ensures ∙ so _ c.if-not-is_acceptable.false-raw in
    let reason = acceptable_reason _ fine in
    (reason.0, reason.1, λ j. omega (arith, l.invariant.2 j, l.invariant.0, c.requires.1))

pub loop-i-preserved : goal.loop-i-preserved
loop-i-preserved c =
    let l = c.loop-i in
    let trades = c.args.trades.now in
    let taken = c.loop-i-test.true in
    let t = trade_at l.i trades in
    let fine : acceptable t ≡ true = sym c.is_acceptable.ensures ∙ so _ c.if-not-is_acceptable.false-raw in
    let is : c.count.new.counts ≡ with_counts l.counts (t ∷ []) = c.count.ensures in (
      omega (arith, taken),
      ap length is ∙ length_counts l.counts (t ∷ []),
      λ j. subst (λ (cs : List ℕ). get_or cs j 0 ≤ most_count + (l.i + 1)) (sym is) (omega (arith, one_more (most_count + l.i) l.counts t l.invariant.2 j)),
      subst (λ (cs : List ℕ). Counted c.args.counts.now trades c.args.n cs (l.i + 1) (good_from c.args.n (l.i + 1) trades)) (sym is)
          (goes_on c.args.counts.now trades c.args.n l.counts l.i taken fine l.invariant.3),
    )

pub returns : goal.returns
unfolding good_start
returns c =
    let l = c.loop-i in
    let trades = c.args.trades.now in
    let end : c.args.n ≡ l.i = omega arith in
    let told = ends c.args.counts.now trades c.args.n l.counts l.i (good_from c.args.n l.i trades) l.invariant.1
    (ap good_start (trades_none c.args.n l.i trades c.loop-i-test.false)) l.invariant.3 in
    (end ∙ told.0, told.1)
