-- Losses, in the words of the C calls, are lives of the engine's box, restored from whole images.
use Rattle.std.specs.Prelude.{ℕ, ◌≤◌, ◌≡◌, refl, List, [], ◌∷◌, ◌++◌, length, take, Ok}
use Rattle.words.specs.Prelude.{sym, ap, subst, ◌∙◌, arith}
use Rattle.words.specs.{Limits.setting_words, Limits.state_words}
use Rattle.records.specs.{declared.settings.Settings.Settings, declared.state.State.State, Lent.Lists, Lent.Rooms, Settings.settings_of, Laws.RoundTrip.Floats64}
use Rattle.records.specs.{Laws.RoundTrip.state_kept, Laws.RoundTrip.words_floats}
use Rattle.engine.specs.{Books.held_points, Books.held_trades, Run.Run, Run.run_over}
use Rattle.runs.specs.{Laws.Floats.run_floats}
use Rattle.images.specs.{Layout.image_of, Reading.state_in, Refused.restore_judged, Laws.Fine.restore_fine}
use Rattle.dumpable.specs.{Laws.Fine.dump_fine}
use Rattle.restart.specs.{Cut.size_of_image, Lives.Life, Lives.restored_state, Lives.restored_rooms, Lives.last_state, Lives.last_rooms, Lives.all_bars}
use Rattle.restart.specs.{Lives.all_points, Lives.all_trades, Lives.LifeOf, Lives.LivesOf, PlanCut.plan_accepted, Plans.CutIn, Plans.in_order, Plans.Plan}
use Rattle.stepping.specs.{Bars.StepLent, WordRun.WordRun, WordRun.calls_over, WordRun.lent_with}
use Rattle.capi.specs.{Joined.calls_run}
use Rattle.capacitor.specs.{Loss.Loss, Loss.size_of, Loss.box_before, Loss.dump_of, Loss.image_in, Loss.restore_of, Loss.box_after, Loss.Driven, Loss.Restored}
use Rattle.capacitor.specs.{Loss.last_box, Loss.bars_before, Loss.points_in, Loss.trades_in, Loss.points_before, Loss.trades_before, Laws.PowerCalls.all_taken}
use Rattle.capacitor.specs.{Laws.PowerCalls.dumped_image, Laws.PowerCalls.RestoreDone, Laws.PowerCalls.restore_done}

-- the life before a loss
abbrev pub life_of : List ℕ → Loss → Life
life_of settings l = record { bars = l.bars; image = take (size_of settings) l.found; rows = l.rows; equity = l.equity; trades = l.trades }

unfoldable pub lives_of : List ℕ → List Loss → List Life
lives_of settings [] = []
lives_of settings (l ∷ losses) = life_of settings l ∷ lives_of settings losses

-- ---- one loss, of the box (t, m), the words of whose state stand in `room`

module _ (settings room : List ℕ) (ls : Lists) (set : setting_words ≤ length settings) (long : state_words ≤ length room) (t : State) (h : Floats64 t) (m : Rooms)
    (l : Loss) where
  abbrev s : Settings
  s = settings_of settings

  abbrev r : Run
  r = run_over s ls t m l.bars

  pub box_is : box_before settings ls (lent_with room t m) l ≡ lent_with room r.state r.rooms
  box_is = ap (λ (w : WordRun). w.lent) (calls_run settings room set long ls l.bars t m h)

  floats : Floats64 r.state
  floats = run_floats s ls l.bars t m h

  -- what it took, and what its books held
  pub bars_taken : (calls_over settings ls (lent_with room t m) l.bars).answer ≡ 0 → r.verdict ≡ Ok tt
  bars_taken zero = all_taken s ls l.bars t m (ap (λ (w : WordRun). w.answer) (sym (calls_run settings room set long ls l.bars t m h)) ∙ zero)

  pub points_are : points_in (box_before settings ls (lent_with room t m) l) ≡ held_points r.state r.rooms
  points_are = rw (box_is, state_kept r.state floats room long)

  pub trades_are : trades_in (box_before settings ls (lent_with room t m) l) ≡ held_trades r.state r.rooms
  trades_are = rw (box_is, state_kept r.state floats room long)

  -- the image in the buffer is its image, of the size
  pub image_is : (dump_of settings ls (lent_with room t m) l).answer ≡ 0
      → (image_in settings ls (lent_with room t m) l ≡ image_of s r.state r.rooms.rows)
      × (length (image_of s r.state r.rooms.rows) ≡ size_of settings)
  image_is zero =
      let d = dumped_image settings room set long r.state floats r.rooms.rows l.buffer (rw box_is at zero) in
      (rw box_is d.1, size_of_image s r.state r.rooms.rows (dump_fine s r.state r.rooms.rows l.buffer d.0).held)

  module _ (d : Driven settings ls (lent_with room t m) l) (back : (restore_of settings l).answer ≡ 0) where
    done : RestoreDone settings l.state (take (size_of settings) l.found) l.rows
    done = restore_done settings l.state (take (size_of settings) l.found) l.rows back

    -- it is a life: what the restore accepted is the whole image
    pub loss_life : LifeOf s ls t m (life_of settings l)
    loss_life =
        let i = image_is d.dumped in
        let x = image_of s r.state r.rooms.rows in
        let plan : Plan x l.area l.before l.last = subst (λ (y : List ℕ). Plan y l.area l.before l.last) i.0 d.plan in
        let cut : CutIn x (in_order l.before l.last) l.area l.found =
        subst (λ (y : List ℕ). CutIn y (in_order l.before l.last) l.area l.found) i.0 d.cut in
        let accepted : restore_judged s (take (length x) l.found) l.rows ≡ (Ok tt) = rw i.1 done.accepted in
        let whole = plan_accepted s r.state r.rooms.rows l.rows l.before l.last l.area l.found (omega (arith, i.1, d.fits))
        d.unmarked plan cut accepted in
        record {
          fine = bars_taken d.taken;
          image = rw i.1 at whole;
          place = (restore_fine s (take (size_of settings) l.found) l.rows done.accepted).room;
        }

    -- and the box that the call leaves is the one that is restored
    pub box_back : box_after settings l ≡ lent_with l.state (restored_state (life_of settings l)) (restored_rooms (life_of settings l))
    box_back = rw done.leaves

    pub room_back : state_words ≤ length l.state
    room_back = done.long

-- ---- losses one after another

-- The losses, from the box (t, m), are these lives, and the box that they come to is the engine's.
pub record InWords (settings : List ℕ) (ls : Lists) (box : StepLent) (t : State) (m : Rooms) (losses : List Loss) : Type 0 where
  pub lived : LivesOf (settings_of settings) ls t m (lives_of settings losses)
  pub room : List ℕ
  pub long : state_words ≤ length room
  pub floats : Floats64 (last_state t (lives_of settings losses))
  pub last : last_box settings box losses ≡ lent_with room (last_state t (lives_of settings losses)) (last_rooms m (lives_of settings losses))
  pub bars : bars_before losses ≡ all_bars (lives_of settings losses)
  pub points : points_before settings ls box losses ≡ all_points (settings_of settings) ls t m (lives_of settings losses)
  pub trades : trades_before settings ls box losses ≡ all_trades (settings_of settings) ls t m (lives_of settings losses)

pub losses_in_words : (settings : List ℕ) (ls : Lists) → setting_words ≤ length settings → (losses : List Loss) (room : List ℕ) → state_words ≤ length room
    → (t : State) → Floats64 t → (m : Rooms) → Restored settings ls (lent_with room t m) losses → InWords settings ls (lent_with room t m) t m losses
unfolding Restored lives_of LivesOf last_state last_rooms last_box bars_before all_bars points_before all_points trades_before all_trades
losses_in_words settings ls set [] room long t h m through =
    record { lived = tt; room = room; long = long; floats = h; last = refl; bars = refl; points = refl; trades = refl }
losses_in_words settings ls set (l ∷ losses) room long t h m through =
    let life = loss_life settings room ls set long t h m l through.0 through.1 in
    let box : box_after settings l ≡ lent_with l.state (restored_state (life_of settings l)) (restored_rooms (life_of settings l)) =
    box_back settings room ls set long t h m l through.0 through.1 in
    let on = losses_in_words settings ls set losses l.state (room_back settings room ls set long t h m l through.0 through.1)
    (restored_state (life_of settings l)) (unfold state_in in words_floats _) (restored_rooms (life_of settings l))
    (subst (λ (b : StepLent). Restored settings ls b losses) box through.2) in
    record {
      lived = (life, on.lived);
      room = on.room;
      long = on.long;
      floats = on.floats;
      last = ap (λ (b : StepLent). last_box settings b losses) box ∙ on.last;
      bars = ap (λ (bs : List (List ℕ)). l.bars ++ bs) on.bars;
      points = rw (points_are settings room ls set long t h m l, box, on.points);
      trades = rw (trades_are settings room ls set long t h m l, box, on.trades);
    }
