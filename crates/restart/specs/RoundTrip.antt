-- A whole image read back holds what was written: the state, with its books emptied and the rows of its window counted, and the window.
use Rattle.std.specs.Prelude.{ℕ, ◌+◌, ◌*◌, ◌/◌, ◌%◌, ◌<◌, ◌≡◌, refl, List, [], ◌∷◌, Float, T, length, None, Option, Some}
use Rattle.words.specs.Prelude.{ap, ◌∙◌, mod-eq_of_lt, mod-add-div, arith, binary64, fits}
use Rattle.words.specs.Prelude.{to_bits-lt}
use Rattle.words.specs.{Limits.row_words, Words.word}
use Rattle.floats.specs.{Floats.word_of}
use Rattle.table.specs.{Bytes.u16, Bytes.u32, Bytes.u64}
use Rattle.execution.specs.{declared.level.OrderKind.OrderKind, declared.level.OrderKind.TheVariants.Market, declared.level.OrderKind.TheVariants.Limit}
use Rattle.execution.specs.{declared.level.OrderKind.TheVariants.Stop, declared.level.OrderKind.TheVariants.StopLimit}
use Rattle.records.specs.{declared.state.Order.Order, declared.state.Order.TheVariants.Idle, declared.state.Order.TheVariants.EnterLong}
use Rattle.records.specs.{declared.state.Order.TheVariants.EnterShort, declared.state.Order.TheVariants.Exit, declared.settings.Settings.Settings}
use Rattle.records.specs.{declared.state.State.State, StateWords.order_kind, StateWords.waits_for, StateWords.kind_word}
use Rattle.records.specs.{StateWords.level_word, StateWords.limit_word, StateWords.entered_kind, StateWords.words_of, StateWords.state_of}
use Rattle.records.specs.{Laws.RoundTrip.KindFits, Laws.RoundTrip.Floats64, Laws.RoundTrip.state_back}
use Rattle.steps.specs.{Laws.Encoding.four_back}
use Rattle.images.specs.{Layout.words_bytes, Layout.numbers, Layout.amounts, Layout.head, Layout.image, Layout.window_of, Layout.image_of, Reading.words_in}
use Rattle.images.specs.{Reading.state_in}
use Rattle.restart.specs.{Boxes.FitsImage, Laws.SameFloats.floats_alike}

-- ---- numbers

-- what four and eight bytes of a number say
abbrev pub b4 : ℕ → ℕ
b4 n = n % 256 + 256 * (n / 256 % 256) + 65536 * (n / 65536 % 256 + 256 * (n / 16777216 % 256))

abbrev pub b8 : ℕ → ℕ
b8 n = b4 (n % 4294967296) + 4294967296 * b4 (n / 4294967296)

pub eight_back : (n : ℕ) → n < 18446744073709551616 → b8 n ≡ n
eight_back n l =
    let low : b4 (n % 4294967296) ≡ n % 4294967296 = four_back (n % 4294967296) (omega arith) in
    let high : b4 (n / 4294967296) ≡ n / 4294967296 = four_back (n / 4294967296) (omega arith) in
    ap (λ (m : ℕ). m + 4294967296 * b4 (n / 4294967296)) low ∙ ap (λ (m : ℕ). n % 4294967296 + 4294967296 * m) high ∙ mod-add-div n 4294967296

-- ---- a state whose numbers have a place in an image

float_small : (v : Float) → T (fits binary64 v) → word_of v < 18446744073709551616
float_small v h = to_bits-lt binary64 v h

order_small : (o : Order) → order_kind o < 256
unfolding order_kind
order_small Idle = omega arith
order_small (EnterLong d k) = omega arith
order_small (EnterShort d k) = omega arith
order_small (Exit d) = omega arith

kind_small : (k : OrderKind) → kind_word k < 256
unfolding kind_word
kind_small Market = omega arith
kind_small (Limit x) = omega arith
kind_small (Stop x) = omega arith
kind_small (StopLimit x y) = omega arith

level_small : (k : OrderKind) → KindFits k → level_word k < 18446744073709551616
unfolding level_word KindFits
level_small Market h = omega arith
level_small (Limit x) h = float_small x h
level_small (Stop x) h = float_small x h
level_small (StopLimit x y) h = float_small x h.0

limit_small : (k : OrderKind) → KindFits k → limit_word k < 18446744073709551616
unfolding limit_word KindFits
limit_small Market h = omega arith
limit_small (Limit x) h = omega arith
limit_small (Stop x) h = omega arith
limit_small (StopLimit x y) h = float_small y h.1

entered_small : (e : Option ℕ) → entered_kind e < 256
unfolding entered_kind
entered_small None = omega arith
entered_small (Some b) = omega arith

-- ---- the words

-- what an image says, byte by byte
words_said : (K D : ℕ) (ws rows : List ℕ)
    → words_in (image K D ws rows)
    ≡ b4 (word ws 0) ∷ b4 (length rows / row_words K) ∷ 0 ∷ 0 ∷ word ws 4 % 256 ∷ b8 (word ws 5) ∷ word ws 6 % 256 ∷ b4 (word ws 7)
    ∷ b8 (word ws 8) ∷ b8 (word ws 9) ∷ b8 (word ws 10) ∷ b8 (word ws 11) ∷ b8 (word ws 12) ∷ b8 (word ws 13) ∷ b8 (word ws 14)
    ∷ b8 (word ws 15) ∷ b8 (word ws 16) ∷ word ws 17 % 256 ∷ b8 (word ws 18) ∷ b8 (word ws 19) ∷ b8 (word ws 20) ∷ b8 (word ws 21) ∷ []
unfolding words_in image head numbers amounts words_bytes u16 u32 u64
words_said K D ws rows = refl

-- the state with its books emptied and the rows of its window counted
unfoldable pub restored_of : Settings → State → List ℕ → State
restored_of s t room = record {
  counts = record {
    bars_seen = t.counts.bars_seen;
    rows_held = length (window_of s t room) / row_words s.slots;
    equity_points = 0;
    trades = 0;
  };
  order = t.order;
  position = t.position;
  last = t.last;
}

module _ (s : Settings) (t : State) (room : List ℕ) (small : FitsImage t) (few : length (window_of s t room) / row_words s.slots < 4294967296) where
  pub words_back : words_in (image_of s t room) ≡ words_of (restored_of s t room)
  unfolding image_of words_of restored_of
  words_back =
      words_said s.slots s.depth (words_of t) (window_of s t room)
      ∙ rw (
        four_back _ small.seen,
        four_back _ few,
        mod-eq_of_lt (order_small t.order),
        eight_back _ small.delay,
        mod-eq_of_lt (entered_small t.position.entered),
        four_back _ small.entry,
        eight_back _ (float_small _ small.floats.cash),
        eight_back _ (float_small _ small.floats.qty),
        eight_back _ (float_small _ small.floats.entry_price),
        eight_back _ small.entry_time,
        eight_back _ (float_small _ small.floats.entry_fee),
        eight_back _ (float_small _ small.floats.fees_paid),
        eight_back _ (float_small _ small.floats.extreme),
        eight_back _ small.last_time,
        eight_back _ (float_small _ small.floats.close),
        mod-eq_of_lt (kind_small (waits_for t.order)),
        eight_back _ (level_small (waits_for t.order) small.floats.order),
        eight_back _ (limit_small (waits_for t.order) small.floats.order),
        eight_back _ (float_small _ small.floats.funding),
        eight_back _ (float_small _ small.floats.worst),
      )

  floats_back : Floats64 (restored_of s t room)
  unfolding restored_of
  floats_back = floats_alike t (restored_of s t room) refl refl refl small.floats

  -- THE STATE COMES BACK from a whole image: all of it but the books, and as many rows as its window has.
  pub state_comes_back : state_in (image_of s t room) ≡ restored_of s t room
  unfolding state_in
  state_comes_back = ap state_of words_back ∙ (unfold words_of in state_back (restored_of s t room) floats_back [])
