-- What a whole image says of the state that it was written from, and that none of its fields is one that 19 refuses.
use Rattle.std.specs.Prelude.{ℕ, ◌+◌, ◌*◌, ◌≤◌, ◌≡◌, refl, true, List, leb, ltb, eqb, length, get_or, None, Option, Some}
use Rattle.words.specs.Prelude.{arith, le-leb, eq-eqb}
use Rattle.words.specs.{Limits.row_words, Limits.most_slots, Limits.most_rows}
use Rattle.execution.specs.{declared.level.OrderKind.OrderKind, declared.level.OrderKind.TheVariants.Market, declared.level.OrderKind.TheVariants.Limit}
use Rattle.execution.specs.{declared.level.OrderKind.TheVariants.Stop, declared.level.OrderKind.TheVariants.StopLimit}
use Rattle.records.specs.{declared.state.Order.Order, declared.state.Order.TheVariants.Idle, declared.state.Order.TheVariants.EnterLong}
use Rattle.records.specs.{declared.state.Order.TheVariants.EnterShort, declared.state.Order.TheVariants.Exit, StateWords.order_kind, StateWords.order_delay}
use Rattle.records.specs.{StateWords.waits_for, StateWords.kind_word, StateWords.level_word, StateWords.limit_word, StateWords.entered_kind, StateWords.entry_bar}
use Rattle.records.specs.{Laws.RoundTrip.entered_back}
use Rattle.refusals.specs.{Rooms.entry_below}
use Rattle.images.specs.{Layout.head_bytes, Layout.dump_bytes, Reading.slots_in, Reading.version_in, Reading.depth_in, Reading.seen_in, Reading.rows_in}
use Rattle.images.specs.{Reading.order_in, Reading.kind_in, Reading.entered_in, Reading.entry_in, Reading.delay_in, Reading.level_in, Reading.limit_in}
use Rattle.images.specs.{Refused.shape_fine, Refused.numbers_fine, Refused.used_or_zero, Refused.is_entry, Refused.unused_zero}

-- The fields of an image `x`: K, D, bars seen, rows, the order and the entry bar.
pub record Says (x : List ℕ) (K D bars held : ℕ) (o : Order) (e : Option ℕ) : Type 0 where
  pub slots : slots_in x ≡ K
  pub depth : depth_in x ≡ D
  pub seen : seen_in x ≡ bars
  pub rows : rows_in x ≡ held
  pub order : order_in x ≡ order_kind o
  pub kind : kind_in x ≡ kind_word (waits_for o)
  pub delay : delay_in x ≡ order_delay o
  pub level : level_in x ≡ level_word (waits_for o)
  pub limit : limit_in x ≡ limit_word (waits_for o)
  pub entered : entered_in x ≡ entered_kind e
  pub entry : entry_in x ≡ entry_bar e

-- ---- kinds

order-known : (o : Order) → leb (order_kind o) 3 ≡ true
unfolding order_kind
order-known Idle = refl
order-known (EnterLong d k) = refl
order-known (EnterShort d k) = refl
order-known (Exit d) = refl

kind_known : (k : OrderKind) → leb (kind_word k) 3 ≡ true
unfolding kind_word
kind_known Market = refl
kind_known (Limit x) = refl
kind_known (Stop x) = refl
kind_known (StopLimit x y) = refl

entered_known : (e : Option ℕ) → leb (entered_kind e) 1 ≡ true
unfolding entered_kind
entered_known None = refl
entered_known (Some b) = refl

-- ---- fields that their kind does not use

delay_used : (o : Order) → used_or_zero (ltb 0 (order_kind o)) (order_delay o) ≡ true
unfolding order_kind order_delay
delay_used Idle = refl
delay_used (EnterLong d k) = refl
delay_used (EnterShort d k) = refl
delay_used (Exit d) = refl

kind_used : (o : Order) → used_or_zero (is_entry (order_kind o)) (kind_word (waits_for o)) ≡ true
unfolding order_kind waits_for kind_word
kind_used Idle = refl
kind_used (EnterLong d k) = refl
kind_used (EnterShort d k) = refl
kind_used (Exit d) = refl

level_used : (k : OrderKind) → used_or_zero (ltb 0 (kind_word k)) (level_word k) ≡ true
unfolding kind_word level_word
level_used Market = refl
level_used (Limit x) = refl
level_used (Stop x) = refl
level_used (StopLimit x y) = refl

limit_used : (k : OrderKind) → used_or_zero (eqb (kind_word k) 3) (limit_word k) ≡ true
unfolding kind_word limit_word
limit_used Market = refl
limit_used (Limit x) = refl
limit_used (Stop x) = refl
limit_used (StopLimit x y) = refl

entry_used : (e : Option ℕ) → used_or_zero (ltb 0 (entered_kind e)) (entry_bar e) ≡ true
unfolding entered_kind entry_bar
entry_used None = refl
entry_used (Some b) = refl

-- ---- the lines of 19 about fields

module _ (x : List ℕ) (K D bars held : ℕ) (o : Order) (e : Option ℕ) (says : Says x K D bars held o e) where
  pub unused_fine : unused_zero x ≡ true
  unfolding unused_zero
  unused_fine =
      rw (
        says.order,
        says.kind,
        says.delay,
        says.level,
        says.limit,
        says.entered,
        says.entry,
        delay_used o,
        kind_used o,
        level_used (waits_for o),
        limit_used (waits_for o),
        entry_used e,
      )

  pub numbers_fine_lem : held ≤ D → held ≤ bars → entry_below e bars ≡ true → numbers_fine x ≡ true
  unfolding numbers_fine
  numbers_fine_lem few early below =
      rw (
        says.rows,
        says.depth,
        says.seen,
        says.order,
        says.kind,
        says.entered,
        says.entry,
        le-leb held D few,
        le-leb held bars early,
        order-known o,
        kind_known (waits_for o),
        entered_known e,
        entered_back e,
        below,
      )

  pub shape_holds : get_or x 0 0 ≡ 87 → get_or x 1 0 ≡ 68 → get_or x 2 0 ≡ 80 → version_in x ≡ 1 → K ≤ most_slots → 1 ≤ D → D ≤ most_rows
      → length x ≡ dump_bytes K D → shape_fine x ≡ true
  unfolding shape_fine dump_bytes
  shape_holds m₀ m₁ m₂ v k d₁ d₂ long =
      let big : head_bytes ≤ length x = omega arith in
      rw (
        le-leb head_bytes (length x) big,
        m₀,
        m₁,
        m₂,
        v,
        says.depth,
        says.slots,
        le-leb 1 D d₁,
        le-leb D most_rows d₂,
        le-leb K most_slots k,
        eq-eqb (length x) (head_bytes + D * (8 * row_words K)) long,
      )
