-- The words of the state that words mean are these words again, where each is of a known kind, no field is set that its kind does not use, and each
-- float's word is that of the float it means.
use Rattle.std.specs.Prelude.{ℕ, ◌≤◌, ◌<◌, ◌≡◌, refl, Bool, true, false, cond, not, T, eqb, ltb, None, Some}
use Rattle.words.specs.Prelude.{is_nan}
use Rattle.words.specs.Prelude.{sym, arith, eqb-true, eqb-false, binary64}
use Rattle.words.specs.Prelude.{to_bits-of_bits}
use Rattle.floats.specs.{Floats.float_of, Floats.word_of}
use Rattle.execution.specs.{declared.level.OrderKind.OrderKind, declared.level.OrderKind.TheVariants.Market, declared.level.OrderKind.TheVariants.Limit}
use Rattle.execution.specs.{declared.level.OrderKind.TheVariants.Stop, declared.level.OrderKind.TheVariants.StopLimit}
use Rattle.records.specs.{declared.state.Order.Order, declared.state.Order.TheVariants.Idle, declared.state.Order.TheVariants.EnterLong}
use Rattle.records.specs.{declared.state.Order.TheVariants.EnterShort, declared.state.Order.TheVariants.Exit, StateWords.order_of, StateWords.entry_kind_of}
use Rattle.records.specs.{StateWords.entered_of, StateWords.order_kind, StateWords.order_delay, StateWords.waits_for, StateWords.kind_word, StateWords.level_word}
use Rattle.records.specs.{StateWords.limit_word, StateWords.entered_kind, StateWords.entry_bar}
use Rattle.images.specs.{Refused.used_or_zero, Refused.is_entry}

-- the word of the float that it means: of every float there is one such word, and of NaN one of its many patterns
abbrev pub Own : ℕ → Type 0
Own w = word_of (float_of w) ≡ w

-- every word but a NaN's is one
pub number_own : (w : ℕ) → w < 18446744073709551616 → T (not (is_nan (float_of w))) → Own w
number_own w l h = to_bits-of_bits binary64 w l h

-- a field that is not used is zero
unused : (b : Bool) (w : ℕ) → b ≡ false → used_or_zero b w ≡ true → w ≡ 0
unused true w e h = absurd (let z : ◌≡◌ {A = ℕ} 0 1 = cc in omega arith)
unused false w e h = eqb-true w 0 h

-- ---- an entry's kind

pub record KindAgain (k level limit : ℕ) (q : OrderKind) : Type 0 where
  pub same : kind_word q ≡ k
  pub level_same : level_word q ≡ level
  pub limit_same : limit_word q ≡ limit

pub kind_again : (k level limit : ℕ) → k ≤ 3 → used_or_zero (ltb 0 k) level ≡ true → used_or_zero (eqb k 3) limit ≡ true → Own level → Own limit
    → KindAgain k level limit (entry_kind_of k (float_of level) (float_of limit))
unfolding entry_kind_of kind_word level_word limit_word
kind_again k level limit l u v own own' = go (eqb k 1) (eqb k 2) (eqb k 3) refl refl refl
  where
    none : eqb k 3 ≡ false → limit ≡ 0
    none e = unused (eqb k 3) limit e v

    go : (a b c : Bool) → eqb k 1 ≡ a → eqb k 2 ≡ b → eqb k 3 ≡ c
        → KindAgain k level limit (cond a (Limit (float_of level)) (cond b (Stop (float_of level)) (cond c (StopLimit (float_of level) (float_of limit)) Market)))
    go true b c e f g =
        let is : k ≡ 1 = eqb-true k 1 e in
        record { same = sym is; level_same = own; limit_same = sym (none (rw is refl)) }
    go false true c e f g =
        let is : k ≡ 2 = eqb-true k 2 f in
        record { same = sym is; level_same = own; limit_same = sym (none (rw is refl)) }
    go false false true e f g = record { same = sym (eqb-true k 3 g); level_same = own; limit_same = own' }
    go false false false e f g =
        let not₁ : k ≡ 1 → ⊥ = eqb-false k 1 e in
        let not₂ : k ≡ 2 → ⊥ = eqb-false k 2 f in
        let not₃ : k ≡ 3 → ⊥ = eqb-false k 3 g in
        let is : k ≡ 0 = omega arith in
        record { same = sym is; level_same = sym (unused (ltb 0 k) level (rw is refl) u); limit_same = sym (none g) }

-- ---- an order

pub record OrderAgain (order delay k level limit : ℕ) (o : Order) : Type 0 where
  pub same : order_kind o ≡ order
  pub delay_same : order_delay o ≡ delay
  pub waits : KindAgain k level limit (waits_for o)

pub order_again : (order delay k level limit : ℕ) (q : OrderKind) → order ≤ 3 → used_or_zero (ltb 0 order) delay ≡ true
    → used_or_zero (is_entry order) k ≡ true → used_or_zero (ltb 0 k) level ≡ true → used_or_zero (eqb k 3) limit ≡ true → KindAgain k level limit q
    → OrderAgain order delay k level limit (order_of order delay q)
unfolding order_of order_kind order_delay waits_for kind_word level_word limit_word
order_again order delay k level limit q l d n u v kind = go (eqb order 1) (eqb order 2) (eqb order 3) refl refl refl
  where
    market : is_entry order ≡ false → KindAgain k level limit Market
    market e =
        let is : k ≡ 0 = unused (is_entry order) k e n in
        record { same = sym is; level_same = sym (unused (ltb 0 k) level (rw is refl) u); limit_same = sym (unused (eqb k 3) limit (rw is refl) v) }

    go : (a b c : Bool) → eqb order 1 ≡ a → eqb order 2 ≡ b → eqb order 3 ≡ c
        → OrderAgain order delay k level limit (cond a (EnterLong delay q) (cond b (EnterShort delay q) (cond c (Exit delay) Idle)))
    go true b c e f g = record { same = sym (eqb-true order 1 e); delay_same = refl; waits = kind }
    go false true c e f g = record { same = sym (eqb-true order 2 f); delay_same = refl; waits = kind }
    go false false true e f g = record { same = sym (eqb-true order 3 g); delay_same = refl; waits = market (rw (e, f)) }
    go false false false e f g =
        let not₁ : order ≡ 1 → ⊥ = eqb-false order 1 e in
        let not₂ : order ≡ 2 → ⊥ = eqb-false order 2 f in
        let not₃ : order ≡ 3 → ⊥ = eqb-false order 3 g in
        let is : order ≡ 0 = omega arith in
        record { same = sym is; delay_same = sym (unused (ltb 0 order) delay (rw is refl) d); waits = market (rw (e, f)) }

-- ---- an entry bar

pub entered_again : (there bar : ℕ) → there ≤ 1 → used_or_zero (ltb 0 there) bar ≡ true
    → (entered_kind (entered_of there bar) ≡ there) × (entry_bar (entered_of there bar) ≡ bar)
unfolding entered_of entered_kind entry_bar
entered_again there bar l u = go (eqb there 0) refl
  where
    go : (b : Bool) → eqb there 0 ≡ b → (entered_kind (cond b None (Some bar)) ≡ there) × (entry_bar (cond b None (Some bar)) ≡ bar)
    go true e =
        let is : there ≡ 0 = eqb-true there 0 e in
        (sym is, sym (unused (ltb 0 there) bar (rw is refl) u))
    go false e =
        let some : there ≡ 0 → ⊥ = eqb-false there 0 e in
        (omega arith, refl)
