-- ACCEPTANCE: what a dump writes whole, a restore accepts. "A cut after any byte leaves an image that is refused, or the whole one": the whole one is
-- not refused.
use Rattle.std.specs.Prelude.{ℕ, ◌+◌, ◌-◌, ◌*◌, ◌/◌, ◌%◌, ◌≤◌, ◌≡◌, refl, true, List, ◌++◌, eqb, length, get_or, Ok}
use Rattle.words.specs.Prelude.{ap, ◌∙◌, mod-eq_of_lt, arith, le-leb, eq-eqb}
use Rattle.words.specs.Prelude.{List·get_or-eq_default}
use Rattle.words.specs.{Limits.row_words, Limits.most_count, Words.word}
use Rattle.rows.specs.{History.last_rows}
use Rattle.table.specs.{Bytes.u16, Bytes.u64}
use Rattle.records.specs.{declared.settings.Settings.Settings, declared.state.State.State, Lent.Lists, Lent.Rooms, Lent.row_places, State.fresh_state}
use Rattle.records.specs.{StateWords.words_of}
use Rattle.refusals.specs.{Bar.bar_lines, Judgement.run_lines, Judgement.step_lines, Judgement.step_judged}
use Rattle.refusals.specs.{Lines.judged, Rooms.room_lines, Rooms.place_lines, Settings.setting_lines, Laws.Fine.settings_fine}
use Rattle.refusals.specs.{Laws.Fine.step_fine, Laws.Lines.first_holds, Laws.Lines.below_fine, Laws.Lines.both_fine}
use Rattle.engine.specs.{Boxes.Sound, Laws.Lengths.row_long, Laws.Runs.run_keeps, Laws.Underway.entry_stays, Record.row_of, Record.held_rows, Run.Run}
use Rattle.engine.specs.{Run.run_over, Step.stepped, Step.step_verdict}
use Rattle.runs.specs.{Laws.Alike.step_sound, Laws.TwoRuns.fresh_sound, Laws.Window.last_added, Laws.Window.window_added}
use Rattle.images.specs.{Layout.words_bytes, Layout.numbers, Layout.amounts, Layout.head, Layout.image, Layout.window_of, Layout.image_of, Reading.slots_in}
use Rattle.images.specs.{Reading.version_in, Reading.depth_in, Reading.words_in, Reading.words_at, Reading.row_place, Reading.row_in, Refused.zero_at}
use Rattle.images.specs.{Refused.each_fine, Refused.rows_fine, Refused.image_lines, Refused.same_lines, Refused.restore_lines, Refused.restore_judged}
use Rattle.heads.specs.{Laws.Packed.head_words}
use Rattle.dump.specs.{Laws.Image.image-head, Laws.Image.image-body, Laws.WordBytes.words_long}
use Rattle.restart.specs.{RoundTrip.restored_of, RoundTrip.words_back, Cut.size_of_image, Window.WholeWindow, Window.window_whole, Window.word_at}
use Rattle.restart.specs.{Boxes.Storable, Boxes.Dumpable, Boxes.Passed, Boxes.row_at, Boxes.RowsPass, Laws.RowsPass.every_of, Laws.RowsPass.row_passes}
use Rattle.restart.specs.{Laws.RowsPass.listed_same, Laws.RowsPass.last_pass, Laws.RowsPass.added_pass, Laws.Says.Says}
use Rattle.restart.specs.{Laws.Says.unused_fine, Laws.Says.numbers_fine_lem, Laws.Says.shape_holds}

-- ---- the statements

-- THE WHOLE IMAGE IS ACCEPTED: a restore with the same settings, over a row room with its places, is refused by no line.
abbrev pub AcceptedTheorem : Type 0
AcceptedTheorem =
    (s : Settings) (t : State) (m : Rooms) → Dumpable s t m
    → (rows : List ℕ) → judged (room_lines s rows) ≡ Ok tt → judged (setting_lines s) ≡ Ok tt → restore_judged s (image_of s t m.rows) rows ≡ Ok tt

-- REQUEST 11, ACCEPTANCE: after any bars from a fresh state the whole image is restored: 10, 12, 19 and 20 refuse nothing, with the settings that it was
-- written with, if 12 lets them pass, and over any row room with D places.
abbrev pub ReachedTheorem : Type 0
ReachedTheorem =
    (s : Settings) (ls : Lists) (m : Rooms) (bars : List (List ℕ)) → s.depth ≤ row_places s.slots m.rows
    → let b = run_over s ls (fresh_state s) m bars in
    Storable s b.state b.rooms → judged (setting_lines s) ≡ Ok tt → (rows : List ℕ) → s.depth ≤ row_places s.slots rows
    → restore_judged s (image_of s b.state b.rooms.rows) rows ≡ Ok tt

-- ---- the bytes

module _ (s : Settings) (t : State) (room : List ℕ) where
  slots_said : slots_in (image_of s t room) ≡ s.slots % 256
  unfolding image_of image head numbers
  slots_said = refl

  depth_said : depth_in (image_of s t room) ≡ s.depth % 256 + 256 * (s.depth / 256 % 256)
  unfolding image_of image head numbers u16
  depth_said = refl

  -- "another mark or version"
  mark_said : (get_or (image_of s t room) 0 0 ≡ 87) × (get_or (image_of s t room) 1 0 ≡ 68) × (get_or (image_of s t room) 2 0 ≡ 80)
      × (version_in (image_of s t room) ≡ 1)
  unfolding image_of image head numbers u16
  mark_said = (refl, refl, refl, refl)

  -- "a nonzero spare byte": 19
  spare_said : get_or (image_of s t room) 19 0 ≡ 0
  unfolding image_of image head numbers
  spare_said = refl

  spare_long : (held : ℕ) → length (words_bytes (head_words s.slots s.depth held (words_of t))) ≡ 136
  unfolding head_words amounts
  spare_long held = words_long (head_words s.slots s.depth held (words_of t))

  -- and 136 to 255
  spares_said : zero_at (image_of s t room) 136 120 ≡ true
  unfolding zero_at image_of
  spares_said =
      let W = window_of s t room in
      let hw = head_words s.slots s.depth (length W / row_words s.slots) (words_of t) in
      every_of 120 (λ i. eqb (get_or (image_of s t room) (136 + i) 0) 0)
      (λ i l.
      eq-eqb (get_or (image_of s t room) (136 + i) 0) 0
      (image-head s.slots s.depth (words_of t) W (136 + i) (omega arith)
      ∙ List·get_or-eq_default (words_bytes hw) 0 {n = 136 + i} (omega (arith, spare_long (length W / row_words s.slots)))))

module _ (s : Settings) (t : State) (m : Rooms) (fit : Dumpable s t m) where
  x : List ℕ
  x = image_of s t m.rows

  W : List ℕ
  W = window_of s t m.rows

  count : ℕ
  count = length W / row_words s.slots

  whole : WholeWindow s t m.rows
  whole = window_whole s t m.rows fit.held

  back : words_in x ≡ words_of (restored_of s t m.rows)
  unfolding x
  back = words_back s t m.rows fit.kept.small (omega (arith, whole.few, fit.kept.depth))

  says : Says x s.slots s.depth t.counts.bars_seen count t.order t.position.entered
  unfolding x W count words_in words_of restored_of
  says = record {
    slots = slots_said s t m.rows ∙ mod-eq_of_lt (omega (arith, fit.kept.slots));
    depth = omega (arith, depth_said s t m.rows, fit.kept.depth);
    seen = ap (λ (ws : List ℕ). word ws 0) back;
    rows = ap (λ (ws : List ℕ). word ws 1) back;
    order = ap (λ (ws : List ℕ). word ws 4) back;
    kind = ap (λ (ws : List ℕ). word ws 17) back;
    delay = ap (λ (ws : List ℕ). word ws 5) back;
    level = ap (λ (ws : List ℕ). word ws 18) back;
    limit = ap (λ (ws : List ℕ). word ws 19) back;
    entered = ap (λ (ws : List ℕ). word ws 6) back;
    entry = ap (λ (ws : List ℕ). word ws 7) back;
  }

  -- ---- the rows

  row_said : (i : ℕ) → row_in x s.slots i ≡ row_at s.slots W i
  unfolding words_at x W image_of
  row_said i =
      let w = row_words s.slots in
      listed_same w (λ j. u64 x (row_place s.slots i + 8 * j)) (λ j. get_or W (i * w + j) 0)
      (λ j l.
      let place : row_place s.slots i + 8 * j ≡ 256 + 8 * (i * w + j) = omega arith in
      ap (λ (p : ℕ). u64 x p) place ∙ word_at s.slots s.depth (words_of t) W (i * w + j) (fit.kept.words (i * w + j)))

  each_fine_lem : each_fine x s.slots count ≡ true
  unfolding each_fine RowsPass W count
  each_fine_lem = every_of count _ (λ i l. rw (row_said i) (fit.rows i l))

  -- "then zero rows"
  behind : (n : ℕ) → zero_at x (row_place s.slots count) n ≡ true
  unfolding zero_at x W count image_of
  behind n =
      every_of n _
      (λ i l.
      let at = 8 * (count * row_words s.slots) + i in
      let place : row_place s.slots count + i ≡ 256 + at = omega arith in
      let long : length (words_bytes W) ≤ at = omega (arith, words_long W, whole.words) in
      eq-eqb _ 0
      (ap (λ (p : ℕ). get_or x p 0) place ∙ image-body s.slots s.depth (words_of t) W at ∙ List·get_or-eq_default (words_bytes W) 0 {n = at} long))

  rows_fine_lem : rows_fine x ≡ true
  unfolding rows_fine
  rows_fine_lem = rw (says.slots, says.rows, each_fine_lem, behind (length x - row_place s.slots count))

  -- ---- the lines

  -- none of the lines of 19 holds it up
  image_passes : 1 ≤ s.depth → judged (image_lines x) ≡ Ok tt
  unfolding judged image_lines x count W
  image_passes some =
      let o = t.order in
      let e = t.position.entered in
      let seen = t.counts.bars_seen in
      let mark = mark_said s t m.rows in
      let shape = shape_holds x s.slots s.depth seen count o e says mark.0 mark.1 mark.2 mark.3 fit.kept.slots some fit.kept.depth
      (size_of_image s t m.rows fit.held) in
      let nums = numbers_fine_lem x s.slots s.depth seen count o e says whole.few (omega (arith, whole.held, fit.early)) fit.entry in
      rw (shape, nums, unused_fine x s.slots s.depth seen count o e says, spare_said s t m.rows, spares_said s t m.rows, rows_fine_lem)

  -- nor does 20, with the same settings
  same_passes : judged (same_lines s x) ≡ Ok tt
  unfolding judged same_lines
  same_passes = rw (says.depth, says.slots, eq-eqb s.depth s.depth refl, eq-eqb s.slots s.slots refl)

  passes : (rows : List ℕ) → judged (room_lines s rows) ≡ Ok tt → judged (setting_lines s) ≡ Ok tt → restore_judged s (image_of s t m.rows) rows ≡ Ok tt
  unfolding restore_judged restore_lines x
  passes rows ten twelve =
      below_fine (room_lines s rows) _ ten ∙ below_fine (setting_lines s) _ twelve
      ∙ below_fine (image_lines x) (same_lines s x) (image_passes (settings_fine s twelve).depth) ∙ same_passes

pub accepted : AcceptedTheorem
accepted s t m fit rows ten twelve = passes s t m fit rows ten twelve

-- ---- a box that was reached

pub fresh_passed : (s : Settings) (m : Rooms) → s.depth ≤ row_places s.slots m.rows → Passed s (fresh_state s) m
unfolding fresh_state RowsPass
fresh_passed s m deep =
    let sound = fresh_sound s m deep in
    let none = (window_whole s (fresh_state s) m.rows sound.within.rows).held in
    record { sound = sound; seen = omega arith; entry = refl; rows = λ i l. absurd (omega (arith, none)) }

module _ (s : Settings) (ls : Lists) (t : State) (m : Rooms) (bar : List ℕ) (fine : step_verdict s t bar m ls ≡ Ok tt) where
  pub step_judged_lem : step_judged s t bar m ls ≡ Ok tt
  unfolding step_verdict step_judged
  step_judged_lem = (both_fine (step_lines s t bar m ls) _ fine).0

  bar_passed : judged (bar_lines s.slots bar t.counts.bars_seen) ≡ Ok tt
  unfolding step_judged step_lines
  bar_passed =
      let rest = (both_fine (run_lines s t m) _ step_judged_lem).1 in
      let below = (both_fine (place_lines t.counts m.equity m.trades) _ (first_holds _ _ rest).1).1 in
      (both_fine (bar_lines s.slots bar t.counts.bars_seen) _ below).0

  -- the window after it: the last D of the window before, and its row
  pub window_moved : Sound s t m
      → window_of s (stepped s t bar m ls).result (stepped s t bar m ls).rooms.rows
      ≡ last_rows s.slots s.depth (window_of s t m.rows ++ row_of s.slots bar)
  unfolding stepped window_of
  window_moved sound =
      let K = s.slots in
      let row = row_of K bar in
      let held = t.counts.rows_held in
      let some = (step_fine s t bar m ls step_judged_lem).settings.depth in
      window_added K m.rows held row (row_long K bar) s.depth some sound.depth sound.within.rows
      ∙ last_added K s.depth (held_rows K held m.rows) row (row_long K bar)

  bars_counted : (stepped s t bar m ls).result.counts.bars_seen ≤ most_count
  unfolding stepped
  bars_counted = omega (arith, (step_fine s t bar m ls step_judged_lem).bars)

  pub step_passed : Passed s t m → Passed s (stepped s t bar m ls).result (stepped s t bar m ls).rooms
  step_passed p =
      let K = s.slots in
      let W = window_of s t m.rows in
      let whole = window_whole s t m.rows p.sound.within.rows in
      let added = added_pass K W p.rows (length W / row_words K) bar whole.words (row_passes K bar t.counts.bars_seen bar_passed) in
      record {
        sound = step_sound s t bar m ls p.sound;
        seen = bars_counted;
        entry = entry_stays s t bar m ls p.entry;
        rows = rw (window_moved p.sound) (last_pass K (W ++ row_of K bar) added s.depth);
      }

module _ (s : Settings) (ls : Lists) (m : Rooms) (bars : List (List ℕ)) (deep : s.depth ≤ row_places s.slots m.rows) where
  abbrev reached : Run
  reached = run_over s ls (fresh_state s) m bars

  pub reached_passed : Passed s reached.state reached.rooms
  reached_passed = run_keeps s ls (Passed s) (λ t n bar h p. step_passed s ls t n bar h p) bars (fresh_state s) m (fresh_passed s m deep)

  -- ANY BARS FROM A FRESH STATE leave a box whose image is accepted, where its numbers and words are such as the code's types hold.
  pub reached_dumpable : Storable s reached.state reached.rooms → Dumpable s reached.state reached.rooms
  reached_dumpable kept =
      let p = reached_passed in
      record { kept = kept; held = p.sound.within.rows; early = p.sound.within.rows_seen; entry = p.entry; rows = p.rows }

pub reached_accepted : ReachedTheorem
reached_accepted s ls m bars deep kept twelve rows place =
    let b : Run = run_over s ls (fresh_state s) m bars in
    accepted s b.state b.rooms (reached_dumpable s ls m bars deep kept) rows
    (unfold room_lines judged in rw (le-leb s.depth (row_places s.slots rows) place)) twelve
