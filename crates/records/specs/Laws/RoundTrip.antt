-- A caller loses nothing between calls: the words of a state mean that state, if its floats are f64, as they are in every state that words
-- mean and in a fresh one.
use Rattle.std.specs.Prelude.{ℕ, ◌≤◌, ◌≡◌, refl, Bool, true, false, cond, List, ◌++◌, T, eqb, length, drop, Float, None, Option, Some}
use Rattle.words.specs.Prelude.{arith, le-leb, binary64, fits}
use Rattle.words.specs.Prelude.{of_bits-to_bits, of_bits-fits}
use Rattle.portfolio.specs.{Portfolio.fresh}
use Rattle.floats.specs.{Floats.float_of}
use Rattle.execution.specs.{declared.level.OrderKind.OrderKind, declared.level.OrderKind.TheVariants.Market, declared.level.OrderKind.TheVariants.Limit}
use Rattle.execution.specs.{declared.level.OrderKind.TheVariants.Stop, declared.level.OrderKind.TheVariants.StopLimit}
use Rattle.words.specs.{Words.overwrite, Limits.state_words}
use Rattle.records.specs.{declared.state.Order.Order, declared.state.Order.TheVariants.Idle, declared.state.Order.TheVariants.EnterLong}
use Rattle.records.specs.{declared.state.Order.TheVariants.EnterShort, declared.state.Order.TheVariants.Exit, declared.state.State.State}
use Rattle.records.specs.{Settings.settings_of, State.fresh_state, StateWords.counts_of, StateWords.order_of, StateWords.entry_kind_of, StateWords.entered_of}
use Rattle.records.specs.{StateWords.portfolio_of, StateWords.position_of, StateWords.state_of, StateWords.order_kind, StateWords.order_delay}
use Rattle.records.specs.{StateWords.waits_for, StateWords.kind_word, StateWords.level_word, StateWords.limit_word, StateWords.entered_kind}
use Rattle.records.specs.{StateWords.entry_bar, StateWords.words_of}

-- the levels of an entry, each an f64 in the code
unfoldable pub KindFits : OrderKind → Type 0
KindFits Market = Unit {0}
KindFits (Limit level) = T (fits binary64 level)
KindFits (Stop level) = T (fits binary64 level)
KindFits (StopLimit stop limit) = T (fits binary64 stop) × T (fits binary64 limit)

-- the floats of a state, each an f64 in the code
pub record Floats64 (s : State) : Type 0 where
  pub cash : T (fits binary64 s.position.portfolio.cash)
  pub qty : T (fits binary64 s.position.portfolio.qty)
  pub entry_price : T (fits binary64 s.position.portfolio.entry_price)
  pub entry_fee : T (fits binary64 s.position.portfolio.entry_fee)
  pub fees_paid : T (fits binary64 s.position.portfolio.fees_paid)
  pub funding : T (fits binary64 s.position.portfolio.funding)
  pub worst : T (fits binary64 s.position.portfolio.worst)
  pub extreme : T (fits binary64 s.position.extreme)
  pub close : T (fits binary64 s.last.close)
  pub order : KindFits (waits_for s.order)

-- an order and an entry bar come back as they were
kind_back : (kind : OrderKind) → KindFits kind → entry_kind_of (kind_word kind) (float_of (level_word kind)) (float_of (limit_word kind)) ≡ kind
unfolding KindFits entry_kind_of kind_word level_word limit_word
kind_back Market h = refl
kind_back (Limit level) h = simp (of_bits-to_bits binary64 level h)
kind_back (Stop level) h = simp (of_bits-to_bits binary64 level h)
kind_back (StopLimit stop limit) h = simp (of_bits-to_bits binary64 stop h.0, of_bits-to_bits binary64 limit h.1)

order_back : (o : Order) → order_of (order_kind o) (order_delay o) (waits_for o) ≡ o
unfolding order_of order_kind order_delay waits_for
order_back Idle = refl
order_back (EnterLong delay kind) = refl
order_back (EnterShort delay kind) = refl
order_back (Exit delay) = refl

pub entered_back : (e : Option ℕ) → entered_of (entered_kind e) (entry_bar e) ≡ e
unfolding entered_of entered_kind entry_bar
entered_back None = refl
entered_back (Some bar) = refl

-- and so does the state, whatever stands behind its words; a NaN comes back as the one NaN there is
pub state_back : (s : State) → Floats64 s → (rest : List ℕ) → state_of (words_of s ++ rest) ≡ s
unfolding state_of words_of counts_of position_of portfolio_of
state_back s h rest =
    simp (
      kind_back (waits_for s.order) h.order,
      order_back s.order,
      entered_back s.position.entered,
      of_bits-to_bits binary64 _ h.cash,
      of_bits-to_bits binary64 _ h.qty,
      of_bits-to_bits binary64 _ h.entry_price,
      of_bits-to_bits binary64 _ h.entry_fee,
      of_bits-to_bits binary64 _ h.fees_paid,
      of_bits-to_bits binary64 _ h.funding,
      of_bits-to_bits binary64 _ h.worst,
      of_bits-to_bits binary64 _ h.extreme,
      of_bits-to_bits binary64 _ h.close,
    )

-- in a room that has the words of a state
pub state_kept : (s : State) → Floats64 s → (room : List ℕ) → state_words ≤ length room → state_of (overwrite room 0 (words_of s)) ≡ s
unfolding overwrite words_of
state_kept s h room fits = rw (le-leb _ _ fits) (state_back s h _)

-- a state written over another is as if it stood alone
pub state_again : (s u : State) (room : List ℕ) → state_words ≤ length room
    → overwrite (overwrite room 0 (words_of s)) 0 (words_of u) ≡ overwrite room 0 (words_of u)
unfolding overwrite words_of
state_again s u room fits =
    let long : state_words ≤ length (words_of s ++ drop state_words room) = omega arith in
    rw (le-leb _ _ fits, le-leb _ _ long)

-- ---- states whose floats are f64

-- a float that a word holds
word_fits : (w : ℕ) → T (fits binary64 (float_of w))
word_fits w = of_bits-fits binary64 w

-- an order that words mean
kind_fits : (kind : ℕ) (level limit : Float) → T (fits binary64 level) → T (fits binary64 limit) → KindFits (entry_kind_of kind level limit)
unfolding KindFits entry_kind_of
kind_fits kind level limit p q = go (eqb kind 1) (eqb kind 2) (eqb kind 3)
  where
    go : (a b c : Bool) → KindFits (cond a (Limit level) (cond b (Stop level) (cond c (StopLimit level limit) Market)))
    go true b c = p
    go false true c = p
    go false false true = (p, q)
    go false false false = tt

order-fits : (order delay : ℕ) (kind : OrderKind) → KindFits kind → KindFits (waits_for (order_of order delay kind))
unfolding KindFits order_of waits_for
order-fits order delay kind h = go (eqb order 1) (eqb order 2) (eqb order 3)
  where
    go : (a b c : Bool) → KindFits (waits_for (cond a (EnterLong delay kind) (cond b (EnterShort delay kind) (cond c (Exit delay) Idle))))
    go true b c = h
    go false true c = h
    go false false true = tt
    go false false false = tt

-- the state that words mean, whatever they are
pub words_floats : (ws : List ℕ) → Floats64 (state_of ws)
unfolding state_of position_of portfolio_of
words_floats ws = record {
  cash = word_fits _;
  qty = word_fits _;
  entry_price = word_fits _;
  entry_fee = word_fits _;
  fees_paid = word_fits _;
  funding = word_fits _;
  worst = word_fits _;
  extreme = word_fits _;
  close = word_fits _;
  order = order-fits _ _ _ (kind_fits _ _ _ (word_fits _) (word_fits _));
}

-- the fresh state of settings that words mean
pub fresh_floats : (ws : List ℕ) → Floats64 (fresh_state (settings_of ws))
unfolding fresh_state settings_of fresh waits_for KindFits
fresh_floats ws = record {
  cash = word_fits _;
  qty = word_fits 0;
  entry_price = word_fits 0;
  entry_fee = word_fits 0;
  fees_paid = word_fits 0;
  funding = word_fits 0;
  worst = word_fits 0;
  extreme = word_fits 0;
  close = word_fits 0;
  order = tt;
}
