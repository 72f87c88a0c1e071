-- After any bars from a fresh state, the numbers of a state and the words of its window are such as the code's types hold, where those of the settings
-- and of the bars are.
use Rattle.std.specs.Prelude.{ℕ, zero, suc, ◌-◌, ◌*◌, ◌/◌, ◌%◌, ◌^◌, ◌≤◌, ◌<◌, ◌≡◌, Bool, true, false, cond, List, [], ◌∷◌, ◌++◌, leb, ltb, eqb, length, None, Ok, Option, Some}
use Rattle.std.specs.Prelude.{get_or}
use Rattle.words.specs.Prelude.{ap, ◌∙◌, zero-mul}
use Rattle.words.specs.Prelude.{arith, leb-true, ltb-true, List·get_or-eq_default, get_or-drop}
use Rattle.words.specs.{Limits.row_words, Limits.most_rows}
use Rattle.rows.specs.{History.last_rows}
use Rattle.portfolio.specs.{Portfolio.fresh}
use Rattle.records.specs.{declared.settings.Settings.Settings, declared.state.State.State, Bar.candle_of, Lent.Lists, Lent.Rooms, Lent.row_places}
use Rattle.records.specs.{State.fresh_state, StateWords.order_delay, StateWords.entry_bar, Laws.RoundTrip.Floats64}
use Rattle.refusals.specs.{Lines.judged, Rooms.entry_below, Settings.setting_lines, Laws.Fine.settings_fine, Laws.Lines.and_true, Laws.Lines.first_holds}
use Rattle.runs.specs.{Laws.Floats.step_floats, Laws.FirstBar.by_first_bar}
use Rattle.engine.specs.{Laws.Runs.run_none, Record.row_word, Record.listed, Record.row_of, Run.run_over, Step.stepped, Step.step_verdict}
use Rattle.restart.specs.{Boxes.Passed, Boxes.Storable, Accepted.fresh_passed, Accepted.step_passed, Accepted.window_moved}
use Rattle.restart.specs.{Window.window_whole, Laws.Times.Word64, Laws.Times.step_timed, Laws.Times.step_delayed}
use Rattle.images.specs.{Layout.window_of}

-- ---- words

abbrev pub Words64 : List ℕ → Type 0
Words64 ws = (i : ℕ) → Word64 (get_or ws i 0)

-- of each bar
unfoldable pub Bars64 : List (List ℕ) → Type 0
Bars64 [] = Unit {0}
Bars64 (bar ∷ bars) = Words64 bar × Bars64 bars

append_words : (a b : List ℕ) → Words64 a → Words64 b → Words64 (a ++ b)
append_words [] b h k i = k i
append_words (x ∷ a) b h k zero = h 0
append_words (x ∷ a) b h k (suc i) = append_words a b (λ j. h (suc j)) k i

last_words : (K D : ℕ) (ws : List ℕ) → Words64 ws → Words64 (last_rows K D ws)
unfolding last_rows
last_words K D ws h i = rw (get_or-drop _ ws i 0) (h _)

one_word : (w : ℕ) → Word64 w → Words64 (w ∷ [])
one_word w h zero = h
one_word w h (suc i) = omega arith

listed_words : (n : ℕ) (f : ℕ → ℕ) → ((j : ℕ) → Word64 (f j)) → Words64 (listed n f)
unfolding listed
listed_words zero f h i = omega arith
listed_words (suc n) f h i = append_words (listed n f) (f n ∷ []) (listed_words n f h) (one_word (f n) (h n)) i

word_either : (b : Bool) (x y : ℕ) → Word64 x → Word64 y → Word64 (cond b x y)
word_either true x y h k = h
word_either false x y h k = k

row_words_lem : (K : ℕ) (bar : List ℕ) → Words64 bar → Words64 (row_of K bar)
unfolding row_of row_word
row_words_lem K bar h =
    listed_words (row_words K) (row_word bar)
    (λ j. word_either (ltb j 7) (get_or bar j 0) _ (h j) (word_either (eqb (get_or bar 6 0 / 2 ^ (j - 7) % 2) 1) (get_or bar j 0) 0 (h j) (omega arith)))

-- ---- what an image needs of its numbers

entry_small : (e : Option ℕ) (n : ℕ) → entry_below e n ≡ true → n < 4294967296 → entry_bar e < 4294967296
unfolding entry_bar
entry_small None n h l = omega arith
entry_small (Some b) n h l = omega (arith, ltb-true b n h)

depth_fine : (s : Settings) → judged (setting_lines s) ≡ Ok tt → s.depth ≤ most_rows
unfolding setting_lines
depth_fine s h =
    let depth = (first_holds _ _ (first_holds _ _ h).1).0 in
    leb-true _ _ (and_true (leb 1 s.depth) (leb s.depth most_rows) (and_true _ _ depth).0).1

-- ---- a box

module _ (s : Settings) (ls : Lists) (delay : Word64 s.delay) where
  step_storable : (t : State) (m : Rooms) (bar : List ℕ) → step_verdict s t bar m ls ≡ Ok tt → Words64 bar → Passed s t m → Storable s t m
      → Storable s (stepped s t bar m ls).result (stepped s t bar m ls).rooms
  unfolding stepped candle_of
  step_storable t m bar fine w p k =
      let W = window_of s t m.rows in
      let next = step_passed s ls t m bar fine p in
      let seen : (stepped s t bar m ls).result.counts.bars_seen < 4294967296 = omega (arith, next.seen) in
      record {
        slots = k.slots;
        depth = k.depth;
        small = record {
          seen = seen;
          entry = entry_small (stepped s t bar m ls).result.position.entered (stepped s t bar m ls).result.counts.bars_seen next.entry seen;
          delay = step_delayed s t bar m ls delay k.small.delay;
          entry_time = step_timed s t bar m ls (w 0) k.small.entry_time;
          last_time = w 0;
          floats = step_floats s t bar m ls k.small.floats;
        };
        words = rw (window_moved s ls t m bar fine p.sound)
            (last_words s.slots s.depth (W ++ row_of s.slots bar) (append_words W (row_of s.slots bar) k.words (row_words_lem s.slots bar w)));
      }

  run_storable : (bars : List (List ℕ)) (t : State) (m : Rooms) → Bars64 bars → Passed s t m → Storable s t m
      → Storable s (run_over s ls t m bars).state (run_over s ls t m bars).rooms
  unfolding Bars64
  run_storable [] t m f p k = rw run_none k
  run_storable (bar ∷ bars) t m f p k =
      by_first_bar s ls t m bar bars (λ took u n. Storable s u n) k
      (λ e.
      run_storable bars (stepped s t bar m ls).result (stepped s t bar m ls).rooms f.1 (step_passed s ls t m bar e p) (step_storable t m bar e f.0 p k))

fresh_storable : (s : Settings) (m : Rooms) → Passed s (fresh_state s) m → judged (setting_lines s) ≡ Ok tt → Floats64 (fresh_state s) → Storable s (fresh_state s) m
unfolding fresh_state fresh order_delay entry_bar
fresh_storable s m passed twelve floats =
    let whole = window_whole s (fresh_state s) m.rows passed.sound.within.rows in
    let W = window_of s (fresh_state s) m.rows in
    let none : length W / row_words s.slots ≡ 0 = omega (arith, whole.held) in
    let empty : length W ≡ 0 = whole.words ∙ ap (λ (n : ℕ). n * row_words s.slots) none ∙ zero-mul (row_words s.slots) in
    record {
      slots = (settings_fine s twelve).slots;
      depth = depth_fine s twelve;
      small = record {
        seen = omega arith;
        entry = omega arith;
        delay = omega arith;
        entry_time = omega arith;
        last_time = omega arith;
        floats = floats;
      };
      words = λ i. omega (arith, List·get_or-eq_default W 0 {n = i} (omega (arith, empty)));
    }

-- ANY BARS FROM A FRESH STATE leave a box that has all that its image needs (`Storable`): settings that 12 lets pass, whose capital is an f64 and whose delay a
-- 64-bit word, and bars of 64-bit words are all that is asked.
pub reached_storable : (s : Settings) (ls : Lists) (m : Rooms) (bars : List (List ℕ)) → s.depth ≤ row_places s.slots m.rows
    → judged (setting_lines s) ≡ Ok tt → Floats64 (fresh_state s) → Word64 s.delay → Bars64 bars
    → let b = run_over s ls (fresh_state s) m bars in
    Storable s b.state b.rooms
reached_storable s ls m bars deep twelve floats delay words =
    let passed = fresh_passed s m deep in
    run_storable s ls delay bars (fresh_state s) m words passed (fresh_storable s m passed twelve floats)
