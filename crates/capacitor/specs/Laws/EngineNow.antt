-- The box after its losses and the bars since is the engine's: what the theorems of images say of it, for the words that the calls leave.
use Rattle.std.specs.Prelude.{ℕ, ◌/◌, ◌^◌, ◌≤◌, ◌≡◌, refl, List, [], ◌∷◌, ◌++◌, length, get_or}
use Rattle.words.specs.Prelude.{ap, subst, ◌∙◌}
use Rattle.words.specs.{Limits.setting_words, Limits.state_words, Limits.most_count}
use Rattle.records.specs.{declared.state.State.State, Lent.Lists, Lent.Rooms, Lent.row_places, Settings.settings_of, State.fresh_state, StateWords.counts_of}
use Rattle.records.specs.{StateWords.state_of, Laws.RoundTrip.Floats64, Laws.RoundTrip.fresh_floats}
use Rattle.engine.specs.{Boxes.NotFull, Run.run_over}
use Rattle.runs.specs.{NeverFull.PlacesFor}
use Rattle.images.specs.{Reading.words_in, Reading.state_in}
use Rattle.restart.specs.{AsIfNever.AsIfNever, AsIfNever.Restorable, AsIfNever.same_as_unbroken, AsIfNever.always_ready, AsIfNever.as_if_never}
use Rattle.restart.specs.{Laws.Reached64.Bars64, Laws.Times.Word64, Lives.Life, Lives.restored_state, Lives.last_state, Lives.last_rooms, Lives.all_bars}
use Rattle.restart.specs.{Lives.all_points, Lives.all_trades, Lives.SinceLosses}
use Rattle.stepping.specs.{Bars.StepLent, WordRun.lent_with, WordRun.in_words}
use Rattle.capi.specs.{Joined.calls_run}
use Rattle.capacitor.specs.{Begun.Begun, Capacitor.now, Capacitor.unbroken, Loss.Loss, Loss.Restored, Loss.last_box, Loss.bars_before, Loss.points_before}
use Rattle.capacitor.specs.{Loss.trades_before, Laws.FromCalls.begun_from, Laws.FromCalls.begun_lengths, Laws.FromCalls.begun_box}
use Rattle.capacitor.specs.{Laws.LivesInWords.lives_of, Laws.LivesInWords.InWords, Laws.LivesInWords.losses_in_words, Laws.PowerCalls.not_full}

-- The box that the last restore left is (state, rooms), the words of whose state stand in `room`.
pub record EngineNow (table settings : List ℕ) (ls : Lists) (box : StepLent) (losses : List Loss) (bars : List (List ℕ)) : Type 0 where
  pub set : setting_words ≤ length settings
  pub state : State
  pub rooms : Rooms
  pub room : List ℕ
  pub long : state_words ≤ length room
  pub floats : Floats64 state
  pub last : last_box settings box losses ≡ lent_with room state rooms
  -- the bars since then
  pub is : now settings ls box losses bars ≡ in_words room (run_over (settings_of settings) ls state rooms bars)
  pub ready : Restorable (settings_of settings) (run_over (settings_of settings) ls state rooms bars)
  pub never : let e = run_over (settings_of settings) ls state rooms bars in
      AsIfNever (unbroken table settings losses bars e.done) e (points_before settings ls box losses) (trades_before settings ls box losses)
  pub since : (n : Rooms) → (settings_of settings).depth ≤ row_places (settings_of settings).slots n.rows
      → PlacesFor (length (bars_before losses ++ bars)) (fresh_state (settings_of settings)) n
      → let e = run_over (settings_of settings) ls state rooms bars in
      SinceLosses (settings_of settings) (run_over (settings_of settings) ls (fresh_state (settings_of settings)) n (bars_before losses ++ bars)) e
      (length (bars_before losses)) (points_before settings ls box losses) (trades_before settings ls box losses)
  -- where there are none, its books are empty
  pub no_points : state.counts.equity_points ≡ 0
  pub no_trades : state.counts.trades ≡ 0

-- books count from 0 after each restore
last_empty : (lives : List Life) (t : State) → t.counts.equity_points ≡ 0 → t.counts.trades ≡ 0
    → ((last_state t lives).counts.equity_points ≡ 0) × ((last_state t lives).counts.trades ≡ 0)
unfolding last_state state_in state_of counts_of words_in
last_empty [] t points trades = (points, trades)
last_empty (l ∷ lives) t points trades = last_empty lives (restored_state l) refl refl

fresh_empty : (settings : List ℕ)
    → ((fresh_state (settings_of settings)).counts.equity_points ≡ 0) × ((fresh_state (settings_of settings)).counts.trades ≡ 0)
unfolding fresh_state
fresh_empty settings = (refl, refl)

delay_word : (settings : List ℕ) → ((i : ℕ) → Word64 (get_or settings i 0)) → Word64 (settings_of settings).delay
unfolding settings_of
delay_word settings words = words 4

pub engine_now : (table settings : List ℕ) (ls : Lists) (box : StepLent) → Begun table settings ls box → (losses : List Loss)
    → Restored settings ls box losses → (bars : List (List ℕ)) → Bars64 (bars_before losses ++ bars) → length (bars_before losses ++ bars) ≤ most_count
    → ((now settings ls box losses bars).answer / 2 ^ 32 ≡ 14 → ⊥) → EngineNow table settings ls box losses bars
engine_now table settings ls box begun losses all bars words few free =
    let s = settings_of settings in
    let m = box.rooms in
    let first = begun_box table settings ls box begun in
    let lengths = begun_lengths table settings ls box begun in
    let floats = fresh_floats settings in
    let w : InWords settings ls (lent_with begun.room (fresh_state s) m) (fresh_state s) m losses =
    losses_in_words settings ls lengths.0 losses begun.room lengths.1 (fresh_state s) floats m
    (subst (λ (b : StepLent). Restored settings ls b losses) first all) in
    let lives = lives_of settings losses in
    let T = last_state (fresh_state s) lives in
    let M = last_rooms m lives in
    let last : last_box settings box losses ≡ lent_with w.room T M = ap (λ (b : StepLent). last_box settings b losses) first ∙ w.last in
    let points : points_before settings ls box losses ≡ all_points s ls (fresh_state s) m lives =
    ap (λ (b : StepLent). points_before settings ls b losses) first ∙ w.points in
    let trades : trades_before settings ls box losses ≡ all_trades s ls (fresh_state s) m lives =
    ap (λ (b : StepLent). trades_before settings ls b losses) first ∙ w.trades in
    let is : now settings ls box losses bars ≡ in_words w.room (run_over s ls T M bars) =
    rw last (calls_run settings w.room lengths.0 w.long ls bars T M w.floats) in
    let words' : Bars64 (all_bars lives ++ bars) = rw w.bars at words in
    let few' : length (all_bars lives ++ bars) ≤ most_count = rw w.bars at few in
    let free' : NotFull (run_over s ls T M bars).verdict = not_full s ls bars T M (rw is at free) in
    let delay = delay_word settings begun.words in
    let empty = last_empty lives (fresh_state s) (fresh_empty settings).0 (fresh_empty settings).1 in
    record {
      set = lengths.0;
      state = T;
      rooms = M;
      room = w.room;
      long = w.long;
      floats = w.floats;
      last = last;
      is = is;
      ready = always_ready s ls m begun.rows begun.twelve floats delay lives w.lived bars words' few' free';
      never =
          rw (w.bars, points, trades)
          (as_if_never s ls m begun.rows begun.twelve floats delay lives w.lived bars words' few' free' table
          (begun_from table settings ls box begun));
      since = λ n deep.
          rw (w.bars, points, trades) (same_as_unbroken s ls m begun.rows begun.twelve floats delay lives w.lived bars words' few' free' n deep);
      no_points = empty.0;
      no_trades = empty.1;
    }
