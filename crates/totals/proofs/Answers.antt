-- What each line of the two orders of refusals needs to be the answer. Assumes nothing.
use Rattle.std.specs.Prelude.{Err, Ok, Result}
use Rattle.std.specs.Result.{result_and}
use Rattle.words.specs.Prelude.{◌≡◌, refl, sym, ap, subst, ◌∙◌, Bool, true, false, cond, false≢true, List, [], ◌∷◌, ◌++◌, ℕ, ◌+◌, ◌*◌, ◌/◌, ◌%◌, ◌<◌, ◌≤◌}
use Rattle.words.specs.Prelude.{arith, le-leb, lt-leb, eq-eqb, ne_eqb, leb-true, leb-false, leb, length}
use Rattle.words.specs.{Words.word, Words.overwrite, Limits.trade_words, Limits.most_count, declared.refusal.Refusal.Refusal}
use Rattle.floats.specs.{Floats.word_of}
use Rattle.totals.specs.{Exact.nearest_to, Exact.number_in}
use Rattle.totals.specs.{Trades.Trade, Trades.trades_from, Trades.trades_of, Trades.good_start, Trades.judged_count, Trades.pnl_sum, Totals.total_words}
use Rattle.totals.specs.{Totals.totals_room, Totals.count_size, Totals.AllAtMost, Totals.all_small, Totals.counts_of, Totals.sum_words, Totals.record_of}
use Rattle.totals.specs.{Totals.with_counts, Totals.both_counts, Totals.sum_with, Totals.traded, Totals.counts_fine, Totals.unless}
use Rattle.totals.specs.{Totals.add_answer, Totals.add_leaves, Totals.join_answer, Totals.join_leaves, Laws.Trades.length_trades, Laws.Trades.all_good}
use Rattle.totals.specs.{Laws.Counts.small_all}

-- as many are judged as there are, where totals can hold them
few : (n : ℕ) → n ≤ most_count → judged_count n ≡ n
unfolding judged_count
few n h = simp (le-leb _ _ h)

-- .. and never more than that, nor than totals can hold
pub judged_most : (n : ℕ) → (judged_count n ≤ n) × (judged_count n ≤ most_count)
unfolding judged_count
judged_most n = go (leb n most_count) refl
  where
    go : (b : Bool) → leb n most_count ≡ b → (cond b n most_count ≤ n) × (cond b n most_count ≤ most_count)
    go true e = let h = leb-true n most_count e in (omega arith, omega arith)
    go false e = let h = leb-false n most_count e in (omega arith, omega arith)

-- counts that are fine are small
pub fine_small : (c : List ℕ) → counts_fine c ≡ true → AllAtMost most_count c
unfolding counts_fine
fine_small c h = go (all_small c) refl h
  where
    go : (b : Bool) → all_small c ≡ b → cond b (leb (word c 6 + word c 7) (traded c)) false ≡ true → AllAtMost most_count c
    go true e k = small_all c e
    go false e k = absurd (false≢true k)

pub traded_most : (c : List ℕ) → AllAtMost most_count c → traded c ≤ 6 * most_count
unfolding traded
traded_most c h = omega (arith, h 0, h 1, h 2, h 3, h 4, h 5)

pub length_of : (totals : List ℕ) → length (counts_of totals) ≡ count_size
unfolding counts_of
length_of totals = refl

-- counts, sum and the float of that sum are the record
pub written : (totals counts sum : List ℕ) {counts' sum' : List ℕ} {float : ℕ} → counts' ≡ counts → sum' ≡ sum → float ≡ word_of (nearest_to (number_in sum'))
    → overwrite totals 0 (counts' ++ sum' ++ (float ∷ [])) ≡ overwrite totals 0 (record_of counts sum)
unfolding record_of
written totals counts sum {counts'} {sum'} {float} c s f =
    ap (λ (l : List ℕ). overwrite totals 0 (l ++ sum' ++ (float ∷ []))) c
    ∙ ap (λ (l : List ℕ). overwrite totals 0 (counts ++ l ++ (float ∷ []))) s
    ∙ ap (λ (w : ℕ). overwrite totals 0 (counts ++ sum ++ (w ∷ []))) (f ∙ ap (λ (l : List ℕ). word_of (nearest_to (number_in l))) s)

pub less_as : {a a' b b' : ℕ} → a ≡ a' → b ≡ b' → a < b → a' < b'
less_as e f h = omega arith

pub at_most_as : {a a' b b' : ℕ} → a ≡ a' → b ≡ b' → a ≤ b → a' ≤ b'
at_most_as e f h = omega arith

-- ---- lines of an order

-- a line that refuses by itself refuses whatever follows; one that does not leaves it to what follows
first_line : (ok : Bool) (why : Refusal) (later : Result (Unit {0}) Refusal) → result_and (unless ok why (Ok tt)) later ≡ unless ok why later
first_line true why later = refl
first_line false why later = refl

-- where two lines hold together, each does
both_hold : (p q : Bool) (a b : Refusal) → unless p a (unless q b (Ok tt)) ≡ Ok tt → (p ≡ true) × (q ≡ true)
both_hold true true a b e = (refl, refl)
both_hold true false a b e = absurd (let z : ◌≡◌ {A = ℕ} 0 1 = cc in omega arith)
both_hold false q a b e = absurd (let z : ◌≡◌ {A = ℕ} 0 1 = cc in omega arith)

module _ (totals trades : List ℕ) where
  -- the trades that are judged, up to the first that is not acceptable
  abbrev pub good : List Trade
  good = good_start (trades_from (judged_count (length trades / trade_words)) 0 trades)

  pub add_short : length totals < total_words → add_answer totals trades ≡ Err (Refusal.Room totals_room)
  unfolding add_answer
  add_short h = simp (lt-leb _ _ h)

  module _ (long : total_words ≤ length totals) where
    pub add_ragged : (length trades % trade_words ≡ 0 → ⊥) → add_answer totals trades ≡ Err Refusal.Records
    unfolding add_answer
    add_ragged h = simp (le-leb _ _ long, ne_eqb _ _ h)

    module _ (whole : length trades % trade_words ≡ 0) where
      pub add_wrong : counts_fine (counts_of totals) ≡ false → add_answer totals trades ≡ Err Refusal.Records
      unfolding add_answer
      add_wrong h = simp (le-leb _ _ long, eq-eqb _ _ whole, h)

      module _ (fine : counts_fine (counts_of totals) ≡ true) where
        abbrev n : ℕ
        n = length trades / trade_words

        -- the two lines that are left
        add_left : add_answer totals trades
            ≡ unless (leb (judged_count n) (length good)) (Refusal.Trade (length good)) (unless (leb (traded (counts_of totals) + n) most_count) Refusal.Total (Ok tt))
        unfolding add_answer
        add_left = simp (le-leb _ _ long, eq-eqb _ _ whole, fine)

        -- the first of two judgements decides, where each is a line's
        pub add_judged : {g j m : ℕ} {bad many said : Result (Unit {0}) Refusal} → g ≡ length good → j ≡ judged_count n → m ≡ traded (counts_of totals) + n
            → bad ≡ unless (leb j g) (Refusal.Trade g) (Ok tt) → many ≡ unless (leb m most_count) Refusal.Total (Ok tt) → said ≡ result_and bad many
            → add_answer totals trades ≡ said
        add_judged {g} {j} {m} {bad} {many} {said} u v w x y z =
            let over = unless (leb m most_count) Refusal.Total (Ok tt) in
            add_left ∙ sym (z ∙ ap (λ (q : Result (Unit {0}) Refusal). result_and q many) x
            ∙ ap (result_and (unless (leb j g) (Refusal.Trade g) (Ok tt))) y ∙ first_line (leb j g) (Refusal.Trade g) over
            ∙ ap (λ (k : ℕ). unless (leb j k) (Refusal.Trade k) over) u ∙ ap (λ (k : ℕ). unless (leb k (length good)) (Refusal.Trade (length good)) over) v
            ∙ ap (λ (k : ℕ). unless (leb (judged_count n) (length good)) (Refusal.Trade (length good)) (unless (leb k most_count) Refusal.Total (Ok tt))) w)

        module _ (done : add_answer totals trades ≡ Ok tt) where
          both : (leb (judged_count n) (length good) ≡ true) × (leb (traded (counts_of totals) + n) most_count ≡ true)
          both = both_hold _ _ _ _ (sym add_left ∙ done)

          -- all trades of the list are good ones
          pub all_of_them : good ≡ trades_of trades
          unfolding trades_of
          all_of_them =
              let room : traded (counts_of totals) + n ≤ most_count = leb-true _ _ both.1 in
              let same : judged_count n ≡ n = few n (omega arith) in
              all_good (trades_from (judged_count n) 0 trades)
              (subst (λ (k : ℕ). k ≤ length good) (sym (length_trades (judged_count n) 0 trades)) (leb-true _ _ both.0))
              ∙ ap (λ (k : ℕ). trades_from k 0 trades) same

  -- beside a refusal nothing changes ..
  pub add_keeps : (why : Refusal) → add_answer totals trades ≡ Err why → totals ≡ add_leaves totals trades
  unfolding add_leaves
  add_keeps why h = simp h

  -- .. and else the record is written
  pub add_writes : add_answer totals trades ≡ Ok tt
      → add_leaves totals trades
      ≡ overwrite totals 0 (record_of (with_counts (counts_of totals) (trades_of trades)) (sum_with (sum_words totals) (pnl_sum (trades_of trades))))
  unfolding add_leaves
  add_writes h = simp h

module _ (totals other : List ℕ) where
  pub join_short : length totals < total_words → join_answer totals other ≡ Err (Refusal.Room totals_room)
  unfolding join_answer
  join_short h = simp (lt-leb _ _ h)

  module _ (long : total_words ≤ length totals) where
    pub join_ragged : (length other ≡ total_words → ⊥) → join_answer totals other ≡ Err Refusal.Records
    unfolding join_answer
    join_ragged h = simp (le-leb _ _ long, ne_eqb _ _ h)

    module _ (whole : length other ≡ total_words) where
      pub join_wrong : counts_fine (counts_of totals) ≡ false → join_answer totals other ≡ Err Refusal.Records
      unfolding join_answer
      join_wrong h = simp (le-leb _ _ long, eq-eqb _ _ whole, h)

      module _ (fine : counts_fine (counts_of totals) ≡ true) where
        pub join_other : counts_fine (counts_of other) ≡ false → join_answer totals other ≡ Err Refusal.Records
        unfolding join_answer
        join_other h = simp (le-leb _ _ long, eq-eqb _ _ whole, fine, h)

        module _ (fine-too : counts_fine (counts_of other) ≡ true) where
          pub join_many : most_count < traded (counts_of totals) + traded (counts_of other) → join_answer totals other ≡ Err Refusal.Total
          unfolding join_answer
          join_many h = simp (le-leb _ _ long, eq-eqb _ _ whole, fine, fine-too, lt-leb _ _ h)

          pub join_done : traded (counts_of totals) + traded (counts_of other) ≤ most_count → join_answer totals other ≡ Ok tt
          unfolding join_answer
          join_done h = simp (le-leb _ _ long, eq-eqb _ _ whole, fine, fine-too, le-leb _ _ h)

  pub join_keeps : (why : Refusal) → join_answer totals other ≡ Err why → totals ≡ join_leaves totals other
  unfolding join_leaves
  join_keeps why h = simp h

  pub join_writes : join_answer totals other ≡ Ok tt
      → join_leaves totals other
      ≡ overwrite totals 0 (record_of (both_counts (counts_of totals) (counts_of other)) (sum_with (sum_words totals) (number_in (sum_words other))))
  unfolding join_leaves
  join_writes h = simp h
