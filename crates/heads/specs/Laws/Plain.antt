-- The words of the state that words mean: of a NaN one pattern, and 0 where a kind does not use its word.
use Rattle.std.specs.Prelude.{ℕ, zero, suc, ◌≡◌, refl, cond, List, [], ◌∷◌, leb, eqb, Float}
use Rattle.words.specs.Prelude.{arith, lt-leb, ne_eqb}
use Rattle.words.specs.{Words.word}
use Rattle.floats.specs.{Floats.word_of, Floats.float_of}
use Rattle.records.specs.{StateWords.order_of, StateWords.entry_kind_of, StateWords.entered_of, StateWords.counts_of, StateWords.portfolio_of, StateWords.position_of}
use Rattle.records.specs.{StateWords.state_of, StateWords.order_kind, StateWords.order_delay, StateWords.waits_for, StateWords.kind_word, StateWords.level_word}
use Rattle.records.specs.{StateWords.limit_word, StateWords.entered_kind, StateWords.entry_bar, StateWords.words_of}

-- an order and an order kind that there is
abbrev pub order_in : ℕ → ℕ
order_in order = cond (leb order 3) order 0

-- that of an entry, order 1 or 2
abbrev pub kind_in : ℕ → ℕ → ℕ
kind_in order kind = cond (eqb order 0) 0 (cond (leb order 2) (order_in kind) 0)

-- a word that is used
abbrev pub unless_zero : ℕ → ℕ → ℕ
unless_zero n w = cond (eqb n 0) 0 w

abbrev pub plain_at : List ℕ → ℕ → ℕ
plain_at ws i = word_of (float_of (word ws i))

unfoldable pub plain_words : List ℕ → List ℕ
plain_words ws =
    let order = order_in (word ws 4) in
    let kind = kind_in order (word ws 17) in
    word ws 0 ∷ word ws 1 ∷ word ws 2 ∷ word ws 3 ∷ order ∷ unless_zero order (word ws 5)
    ∷ unless_zero (word ws 6) 1 ∷ unless_zero (word ws 6) (word ws 7)
    ∷ plain_at ws 8 ∷ plain_at ws 9 ∷ plain_at ws 10 ∷ word ws 11 ∷ plain_at ws 12 ∷ plain_at ws 13 ∷ plain_at ws 14 ∷ word ws 15 ∷ plain_at ws 16
    ∷ kind ∷ unless_zero kind (plain_at ws 18) ∷ cond (eqb kind 3) (plain_at ws 19) 0
    ∷ plain_at ws 20 ∷ plain_at ws 21 ∷ []

-- an entry's order kind
record KindWords (kind : ℕ) (x y : Float) : Type 0 where
  kind_is : kind_word (entry_kind_of kind x y) ≡ order_in kind
  level_is : level_word (entry_kind_of kind x y) ≡ unless_zero (order_in kind) (word_of x)
  limit_is : limit_word (entry_kind_of kind x y) ≡ cond (eqb (order_in kind) 3) (word_of y) 0

kind_words : (kind : ℕ) (x y : Float) → KindWords kind x y
unfolding entry_kind_of kind_word level_word limit_word
kind_words zero x y = record { kind_is = refl; level_is = refl; limit_is = refl }
kind_words (suc zero) x y = record { kind_is = refl; level_is = refl; limit_is = refl }
kind_words (suc (suc zero)) x y = record { kind_is = refl; level_is = refl; limit_is = refl }
kind_words (suc (suc (suc zero))) x y = record { kind_is = refl; level_is = refl; limit_is = refl }
kind_words (suc (suc (suc (suc n)))) x y =
    let k = suc (suc (suc (suc n))) in
    let high = lt-leb k 3 (omega arith) in
    let one = ne_eqb k 1 (λ e. omega (arith, e)) in
    let two = ne_eqb k 2 (λ e. omega (arith, e)) in
    let three = ne_eqb k 3 (λ e. omega (arith, e)) in
    record { kind_is = simp (high, one, two, three); level_is = simp (high, one, two, three); limit_is = simp (high, one, two, three) }

-- the working order, with what an entry waits for
record OrderWords (order delay kind : ℕ) (x y : Float) : Type 0 where
  order_is : order_kind (order_of order delay (entry_kind_of kind x y)) ≡ order_in order
  delay_is : order_delay (order_of order delay (entry_kind_of kind x y)) ≡ unless_zero (order_in order) delay
  waits : kind_word (waits_for (order_of order delay (entry_kind_of kind x y))) ≡ kind_in (order_in order) kind
  level_is : level_word (waits_for (order_of order delay (entry_kind_of kind x y))) ≡ unless_zero (kind_in (order_in order) kind) (word_of x)
  limit_is : limit_word (waits_for (order_of order delay (entry_kind_of kind x y))) ≡ cond (eqb (kind_in (order_in order) kind) 3) (word_of y) 0

order_words : (order delay kind : ℕ) (x y : Float) → OrderWords order delay kind x y
unfolding order_of order_kind order_delay waits_for kind_word level_word limit_word
order_words zero delay kind x y = record { order_is = refl; delay_is = refl; waits = refl; level_is = refl; limit_is = refl }
order_words (suc zero) delay kind x y =
    let k = kind_words kind x y in
    record { order_is = refl; delay_is = refl; waits = k.kind_is; level_is = k.level_is; limit_is = k.limit_is }
order_words (suc (suc zero)) delay kind x y =
    let k = kind_words kind x y in
    record { order_is = refl; delay_is = refl; waits = k.kind_is; level_is = k.level_is; limit_is = k.limit_is }
order_words (suc (suc (suc zero))) delay kind x y = record { order_is = refl; delay_is = refl; waits = refl; level_is = refl; limit_is = refl }
order_words (suc (suc (suc (suc n)))) delay kind x y =
    let k = suc (suc (suc (suc n))) in
    let high = lt-leb k 3 (omega arith) in
    let one = ne_eqb k 1 (λ e. omega (arith, e)) in
    let two = ne_eqb k 2 (λ e. omega (arith, e)) in
    let three = ne_eqb k 3 (λ e. omega (arith, e)) in
    record {
      order_is = simp (high, one, two, three);
      delay_is = simp (high, one, two, three);
      waits = simp (high, one, two, three);
      level_is = simp (high, one, two, three);
      limit_is = simp (high, one, two, three);
    }

-- the entry bar
record EnteredWords (there bar : ℕ) : Type 0 where
  there_is : entered_kind (entered_of there bar) ≡ unless_zero there 1
  bar_is : entry_bar (entered_of there bar) ≡ unless_zero there bar

entered_words : (there bar : ℕ) → EnteredWords there bar
unfolding entered_of entered_kind entry_bar
entered_words zero bar = record { there_is = refl; bar_is = refl }
entered_words (suc n) bar =
    let some = ne_eqb (suc n) 0 (λ e. omega (arith, e)) in
    record { there_is = simp some; bar_is = simp some }

-- THE WORDS OF THE STATE that words mean
pub plain_words_lem : (ws : List ℕ) → words_of (state_of ws) ≡ plain_words ws
unfolding words_of state_of counts_of portfolio_of position_of plain_words
plain_words_lem ws =
    let o = order_words (word ws 4) (word ws 5) (word ws 17) (float_of (word ws 18)) (float_of (word ws 19)) in
    let e = entered_words (word ws 6) (word ws 7) in
    rw (o.order_is, o.delay_is, o.waits, o.level_is, o.limit_is, e.there_is, e.bar_is)
