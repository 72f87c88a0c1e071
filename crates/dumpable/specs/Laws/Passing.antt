-- Words of settings and state of which a dump refuses nothing, seen in the words as they are. It is enough, and seldom more than is needed: a
-- level that is not given has to be finite too.
use Rattle.std.specs.Prelude.{ℕ, zero, suc, ◌+◌, ◌*◌, ◌/◌, ◌%◌, ◌^◌, ◌≤◌, ◌<◌, ◌≡◌, refl, Bool, true, false, cond, ◌&&◌, List, [], leb, ltb, eqb, length, None, Ok, Some}
use Rattle.words.specs.Prelude.{sym, ap, ◌∙◌, true≢false}
use Rattle.words.specs.Prelude.{le-div_iff_mul-le, mul_assoc, mul_comm, arith, lt-ltb, le-ltb, le-leb, ne_eqb, leb-true, ltb-true}
use Rattle.words.specs.{Limits.setting_words, Limits.state_words, Limits.row_words, Limits.most_slots, Limits.most_rows, Limits.most_reach, Limits.most_count}
use Rattle.words.specs.{Words.word}
use Rattle.floats.specs.{Floats.finite, Floats.float_of}
use Rattle.records.specs.{Lent.row_places, Lent.point_places, Lent.trade_places, Settings.level_of, Settings.sizing_of, Settings.slippage_of, Settings.order_type_of}
use Rattle.records.specs.{Settings.risk_of, Settings.terms_of, Settings.entries_of, Settings.settings_of, StateWords.entered_of, StateWords.counts_of}
use Rattle.records.specs.{StateWords.position_of, StateWords.state_of}
use Rattle.refusals.specs.{Lines.judged, Rooms.room_lines, Rooms.entry_below, Rooms.state_lines, Settings.lookback}
use Rattle.refusals.specs.{Settings.sizing_known, Settings.sizing_value, Settings.slippage_known, Settings.slippage_value, Settings.level_fine, Settings.stop_there}
use Rattle.refusals.specs.{Settings.order_type_known, Settings.lot_fine, Settings.sizing_lines, Settings.slippage_lines, Settings.risk_lines, Settings.term_lines}
use Rattle.refusals.specs.{Settings.entry_lines, Settings.setting_lines, Laws.Lines.and_true, Laws.Lines.below_fine, Laws.Descent.no_line, Laws.Descent.fine_line}
use Rattle.engine.specs.{Books.emptied}
use Rattle.images.specs.{Layout.head_bytes, Layout.dump_bytes}
use Rattle.dumpable.specs.{Refused.area_lines, Refused.dump_state_lines, Refused.dump_lines, Refused.dump_judged}

-- ---- what is looked at

-- the float of word i
abbrev pub finite_at : List ℕ → ℕ → Bool
finite_at ws i = finite (float_of (word ws i))

-- settings 5 and 7, by D and the mask: a lookback is below D, and risk sizing has its stop loss
unfoldable pub sizing_passes : ℕ → ℕ → ℕ → ℕ → Bool
sizing_passes kind back D given =
    cond (ltb kind 3) true (cond (eqb kind 3) (ltb back D) (cond (eqb kind 4) (eqb (given / 4096 % 2) 1) false))

-- K, D and the kinds
unfoldable pub kinds_pass : List ℕ → Bool
kinds_pass ws =
    leb (word ws 0) most_slots && leb 1 (word ws 1) && leb (word ws 1) most_rows
    && leb (word ws 9) 1 && leb (word ws 20) 3
    && sizing_passes (word ws 5) (word ws 7) (word ws 1) (word ws 31)

-- capital, sizing, taker fee, slippage, participation
unfoldable pub costs_pass : List ℕ → Bool
costs_pass ws = finite_at ws 2 && finite_at ws 6 && finite_at ws 8 && finite_at ws 10 && finite_at ws 19

-- the levels
unfoldable pub levels_pass : List ℕ → Bool
levels_pass ws = finite_at ws 12 && finite_at ws 13 && finite_at ws 14 && finite_at ws 15 && finite_at ws 16

-- the entries' percentages, maker fee and lot
unfoldable pub entries_pass : List ℕ → Bool
entries_pass ws = finite_at ws 21 && finite_at ws 22 && finite_at ws 23 && lot_fine (float_of (word ws 24))

-- counts and the entry bar
unfoldable pub counts_pass : List ℕ → Bool
counts_pass ws =
    leb (word ws 0) most_count && leb (word ws 1) most_count && leb (word ws 2) most_count && leb (word ws 3) most_count
    && entry_below (entered_of (word ws 6) (word ws 7)) (word ws 0)

-- row room and area
unfoldable pub rooms_pass : ℕ → ℕ → ℕ → ℕ → ℕ → Bool
rooms_pass K D held rows area = leb (D * row_words K) rows && leb (held * row_words K) rows && leb (head_bytes + 8 * (D * row_words K)) area

-- all of it
unfoldable pub words_pass : List ℕ → List ℕ → ℕ → ℕ → Bool
words_pass settings state rows area =
    leb setting_words (length settings) && leb state_words (length state)
    && kinds_pass settings && costs_pass settings && levels_pass settings && entries_pass settings
    && counts_pass state
    && rooms_pass (word settings 0) (word settings 1) (word state 1) rows area

-- ---- what follows

pub record KindsPass (ws : List ℕ) : Type 0 where
  pub slots : word ws 0 ≤ most_slots
  pub some : 1 ≤ word ws 1
  pub depth : word ws 1 ≤ most_rows
  pub slips : leb (word ws 9) 1 ≡ true
  pub orders : leb (word ws 20) 3 ≡ true
  pub sizes : sizing_passes (word ws 5) (word ws 7) (word ws 1) (word ws 31) ≡ true

pub kinds_pass_lem : (ws : List ℕ) → kinds_pass ws ≡ true → KindsPass ws
unfolding kinds_pass
kinds_pass_lem ws h =
    let sizes = and_true _ _ h in
    let orders = and_true _ _ sizes.0 in
    let slips = and_true _ _ orders.0 in
    let depth = and_true _ _ slips.0 in
    let some = and_true _ _ depth.0 in
    record {
      slots = leb-true _ _ some.0;
      some = leb-true _ _ some.1;
      depth = leb-true _ _ depth.1;
      slips = slips.1;
      orders = orders.1;
      sizes = sizes.1;
    }

-- no more rows are counted than can be
pub counts_held : (ws : List ℕ) → counts_pass ws ≡ true → word ws 1 ≤ most_count
unfolding counts_pass
counts_held ws h =
    let seen = leb (word ws 0) most_count in
    let held = leb (word ws 1) most_count in
    let points = leb (word ws 2) most_count in
    let four = and_true (seen && held && points && leb (word ws 3) most_count) _ h in
    let three = and_true (seen && held && points) _ four.0 in
    let two = and_true (seen && held) points three.0 in
    leb-true _ _ (and_true seen held two.0).1

-- the sizing of a kind that passes
record SizingFine (kind v back D given w : ℕ) : Type 0 where
  known : sizing_known (sizing_of kind v back) ≡ true
  value : finite (sizing_value (sizing_of kind v back)) ≡ true
  reach : leb (lookback (sizing_of kind v back)) most_reach ≡ true
  below : ltb (lookback (sizing_of kind v back)) D ≡ true
  stop : stop_there (sizing_of kind v back) (level_of (given / 2 ^ 12) w) ≡ true

sizing_fine : (kind v back D given w : ℕ) → sizing_passes kind back D given ≡ true → 1 ≤ D → D ≤ most_rows → finite (float_of v) ≡ true
    → SizingFine kind v back D given w
unfolding sizing_passes sizing_of level_of
sizing_fine zero v back D given w h l m f = record { known = refl; value = f; reach = refl; below = lt-ltb _ _ l; stop = refl }
sizing_fine (suc zero) v back D given w h l m f = record { known = refl; value = f; reach = refl; below = lt-ltb _ _ l; stop = refl }
sizing_fine (suc (suc zero)) v back D given w h l m f = record { known = refl; value = f; reach = refl; below = lt-ltb _ _ l; stop = refl }
sizing_fine (suc (suc (suc zero))) v back D given w h l m f =
    let b : back < D = ltb-true back D h in
    record { known = refl; value = f; reach = le-leb back most_reach (omega arith); below = h; stop = refl }
sizing_fine (suc (suc (suc (suc zero)))) v back D given w h l m f =
    record { known = refl; value = f; reach = refl; below = lt-ltb _ _ l; stop = simp h }
sizing_fine (suc (suc (suc (suc (suc n))))) v back D given w h l m f =
    let kind = suc (suc (suc (suc (suc n)))) in
    let no = rw (le-ltb kind 3 (omega arith), ne_eqb kind 3 (λ e. omega (arith, e)), ne_eqb kind 4 (λ e. omega (arith, e))) at h in
    absurd (true≢false (sym no))

-- the slippage
slippage_fine : (kind v : ℕ) → leb kind 1 ≡ true → finite (float_of v) ≡ true
    → (slippage_known (slippage_of kind v) ≡ true) × (finite (slippage_value (slippage_of kind v)) ≡ true)
unfolding slippage_of
slippage_fine zero v h f = (refl, f)
slippage_fine (suc zero) v h f = (refl, f)
slippage_fine (suc (suc n)) v h f = absurd (omega (arith, leb-true (suc (suc n)) 1 h))

-- the order kind
order-known : (kind : ℕ) → leb kind 3 ≡ true → order_type_known (order_type_of kind) ≡ true
unfolding order_type_of
order-known zero h = refl
order-known (suc zero) h = refl
order-known (suc (suc zero)) h = refl
order-known (suc (suc (suc zero))) h = refl
order-known (suc (suc (suc (suc n)))) h = absurd (omega (arith, leb-true (suc (suc (suc (suc n)))) 3 h))

-- a level, given or not
level_fine_lem : (bits w : ℕ) → finite (float_of w) ≡ true → level_fine (level_of bits w) ≡ true
unfolding level_of
level_fine_lem bits w f = go (eqb (bits % 2) 1)
  where
    go : (b : Bool) → level_fine (cond b (Some (float_of w)) None) ≡ true
    go true = f
    go false = refl

settings_fine : (ws : List ℕ) → kinds_pass ws ≡ true → costs_pass ws ≡ true → levels_pass ws ≡ true → entries_pass ws ≡ true
    → judged (setting_lines (settings_of ws)) ≡ Ok tt
unfolding costs_pass levels_pass entries_pass settings_of terms_of risk_of entries_of setting_lines term_lines sizing_lines slippage_lines risk_lines entry_lines
settings_fine ws k c l e =
    let kinds = kinds_pass_lem ws k in
    let c19 = and_true _ _ c in
    let c10 = and_true _ _ c19.0 in
    let c8 = and_true _ _ c10.0 in
    let c6 = and_true _ _ c8.0 in
    let l16 = and_true _ _ l in
    let l15 = and_true _ _ l16.0 in
    let l14 = and_true _ _ l15.0 in
    let l13 = and_true _ _ l14.0 in
    let e24 = and_true _ _ e in
    let e23 = and_true _ _ e24.0 in
    let e22 = and_true _ _ e23.0 in
    let sizing = sizing_fine (word ws 5) (word ws 6) (word ws 7) (word ws 1) (word ws 31) (word ws 12) kinds.sizes kinds.some kinds.depth c6.1 in
    let slip = slippage_fine (word ws 9) (word ws 10) kinds.slips c10.1 in
    let depth : (leb 1 (word ws 1) && leb (word ws 1) most_rows && ltb (lookback (sizing_of (word ws 5) (word ws 6) (word ws 7))) (word ws 1)) ≡ true =
    rw (le-leb 1 (word ws 1) kinds.some, le-leb (word ws 1) most_rows kinds.depth) sizing.below in
    sym (fine_line _ _ (le-leb _ _ kinds.slots)
    (fine_line _ _ depth
    (fine_line _ _ c6.0
    (fine_line _ _ sizing.known
    (fine_line _ _ sizing.value
    (fine_line _ _ sizing.reach
    (fine_line _ _ c8.1
    (fine_line _ _ slip.0
    (fine_line _ _ slip.1
    (fine_line _ _ sizing.stop
    (fine_line _ _ (level_fine_lem _ _ l13.0)
    (fine_line _ _ (level_fine_lem _ _ l13.1)
    (fine_line _ _ (level_fine_lem _ _ l14.1)
    (fine_line _ _ (level_fine_lem _ _ l15.1)
    (fine_line _ _ (level_fine_lem _ _ l16.1)
    (fine_line _ _ c19.1
    (fine_line _ _ (order-known (word ws 20) kinds.orders)
    (fine_line _ _ e22.0
    (fine_line _ _ e22.1
    (fine_line _ _ e23.1
    (fine_line _ _ e24.1
    no_line)))))))))))))))))))))

-- the state: the room has places for the rows held
state_fine : (settings state rows : List ℕ) → counts_pass state ≡ true → word state 1 ≤ row_places (word settings 0) rows
    → judged (dump_state_lines (settings_of settings) (state_of state) rows) ≡ Ok tt
unfolding counts_pass dump_state_lines state_lines emptied settings_of state_of counts_of position_of
state_fine settings state rows h held =
    let entry = and_true _ _ h in
    let trades = and_true _ _ entry.0 in
    let points = and_true _ _ trades.0 in
    let kept = and_true _ _ points.0 in
    let few : leb (word state 0) most_count ≡ true = kept.0 in
    let rows_few : leb (word state 1) most_count ≡ true = kept.1 in
    let counts : (leb (word state 0) most_count && leb (word state 1) most_count && leb 0 most_count && leb 0 most_count) ≡ true = rw (few, rows_few) in
    let places : (leb (word state 1) (row_places (word settings 0) rows) && leb 0 (point_places []) && leb 0 (trade_places [])) ≡ true =
    rw (le-leb (word state 1) (row_places (word settings 0) rows) held) in
    sym (fine_line _ _ points.1
    (fine_line _ _ trades.1
    (fine_line _ _ counts
    (fine_line _ _ places
    (fine_line _ _ entry.1
    no_line)))))

pub record WordsFine (settings state rows area : List ℕ) : Type 0 where
  pub long : setting_words ≤ length settings
  pub full : state_words ≤ length state
  pub fine : dump_judged (settings_of settings) (state_of state) rows area ≡ Ok tt

-- WHERE THE WORDS PASS nothing is refused
pub words_fine : (settings state rows area : List ℕ) → words_pass settings state (length rows) (length area) ≡ true → WordsFine settings state rows area
unfolding words_pass rooms_pass room_lines area_lines dump_bytes dump_lines dump_judged settings_of
words_fine settings state rows area h =
    let rooms = and_true _ _ h in
    let counts = and_true _ _ rooms.0 in
    let entries = and_true _ _ counts.0 in
    let levels = and_true _ _ entries.0 in
    let costs = and_true _ _ levels.0 in
    let kinds = and_true _ _ costs.0 in
    let full = and_true _ _ kinds.0 in
    let place = and_true _ _ rooms.1 in
    let room = and_true _ _ place.0 in
    let w = row_words (word settings 0) in
    let D = word settings 1 in
    let bytes : D * (8 * w) ≡ 8 * (D * w) = sym (mul_assoc D 8 w) ∙ ap (λ (m : ℕ). m * w) (mul_comm D 8) ∙ mul_assoc 8 D w in
    let deep : D ≤ length rows / w = (le-div_iff_mul-le {k = w} (omega arith)).1 (leb-true _ _ room.0) in
    let held : word state 1 ≤ length rows / w = (le-div_iff_mul-le {k = w} (omega arith)).1 (leb-true _ _ room.1) in
    let fits : leb (head_bytes + D * (8 * w)) (length area) ≡ true = rw bytes place.1 in
    record {
      long = leb-true _ _ full.0;
      full = leb-true _ _ full.1;
      fine =
          sym (fine_line _ _ (le-leb _ _ deep)
          (fine_line _ _ fits
          (sym (below_fine _ _ (settings_fine settings kinds.1 costs.1 levels.1 entries.1)
          ∙ state_fine settings state rows counts.1 held))));
    }
