-- One loss: what the restore after it answers.
use Rattle.std.specs.Prelude.{ℕ, ◌*◌, ◌^◌, ◌≤◌, ◌≡◌, refl, List, [], ◌∷◌, ◌++◌, length, take, Err, Ok}
use Rattle.words.specs.Prelude.{subst, ◌∙◌, arith, le-leb}
use Rattle.words.specs.{Limits.setting_words, Limits.state_words}
use Rattle.records.specs.{declared.settings.Settings.Settings, declared.state.State.State, Lent.Lists, Lent.Rooms, Lent.row_places, Settings.settings_of}
use Rattle.records.specs.{Laws.RoundTrip.Floats64}
use Rattle.refusals.specs.{Lines.judged, Rooms.room_lines}
use Rattle.refusals.specs.{Settings.setting_lines}
use Rattle.engine.specs.{Run.Run, Run.run_over}
use Rattle.images.specs.{Layout.image_of, Refused.restore_judged}
use Rattle.restart.specs.{AsIfNever.Restorable, FirstWord.RefusedOr, FirstWord.nineteen, FirstWord.twenty, FirstWord.whole, PlanCut.plan_cut, Plans.CutIn}
use Rattle.restart.specs.{Plans.in_order, Plans.Plan}
use Rattle.replies.specs.{Call.answer_word}
use Rattle.stepping.specs.{Bars.StepLent, WordRun.answer_of, WordRun.lent_with}
use Rattle.capacitor.specs.{Capacitor.AfterLoss, Capacitor.goes_on, Capacitor.refused19, Capacitor.refused20, Loss.Loss, Loss.size_of, Loss.restore_of}
use Rattle.capacitor.specs.{Loss.box_after, Loss.Driven, Loss.Restored, Loss.last_box, Laws.LivesInWords.image_is, Laws.PowerCalls.restore_answers}
use Rattle.words.specs.declared.refusal.Refusal.TheVariants as Refusal

-- one loss more
pub restored_more : (settings : List ℕ) (ls : Lists) (losses : List Loss) (box : StepLent) (l : Loss) → Restored settings ls box losses
    → Driven settings ls (last_box settings box losses) l → (restore_of settings l).answer ≡ 0 → Restored settings ls box (losses ++ (l ∷ []))
unfolding Restored last_box
restored_more settings ls [] box l all d zero = (d, zero, tt)
restored_more settings ls (k ∷ losses) box l all d zero = (all.0, all.1, restored_more settings ls losses (box_after settings k) l all.2 d zero)

nineteen_word : answer_of (Err Refusal.Image) ≡ 19 * 2 ^ 32
unfolding answer_of answer_word
nineteen_word = refl

twenty_word : answer_of (Err Refusal.Other) ≡ 20 * 2 ^ 32
unfolding answer_of answer_word
twenty_word = refl

fine_word : answer_of (Ok tt) ≡ 0
unfolding answer_of
fine_word = refl

-- a loss of the box (t, m), the words of whose state stand in `room`, where what it has come to is ready
module _ (settings room : List ℕ) (ls : Lists) (set : setting_words ≤ length settings) (long : state_words ≤ length room) (t : State) (h : Floats64 t) (m : Rooms)
    (twelve : judged (setting_lines (settings_of settings)) ≡ Ok tt) (l : Loss)
    (ready : Restorable (settings_of settings) (run_over (settings_of settings) ls t m l.bars))
    (state : state_words ≤ length l.state) (place : (settings_of settings).depth ≤ row_places (settings_of settings).slots l.rows) where
  abbrev s : Settings
  s = settings_of settings

  abbrev r : Run
  r = run_over s ls t m l.bars

  abbrev image : List ℕ
  image = image_of s r.state r.rooms.rows

  ten : judged (room_lines s l.rows) ≡ Ok tt
  unfolding room_lines judged
  ten = rw (le-leb s.depth (row_places s.slots l.rows) place)

  -- the restore of the whole image answers 0
  pub whole_answers : take (size_of settings) l.found ≡ image → (restore_of settings l).answer ≡ 0
  whole_answers same =
      restore_answers settings l.state (take (size_of settings) l.found) l.rows set state ten
      ∙ rw (same, ready.accepted l.rows place, fine_word)

  -- and so what any cut leaves is restored, or refused
  cut_answers : Driven settings ls (lent_with room t m) l
      → RefusedOr (restore_judged s (take (size_of settings) l.found) l.rows) (take (size_of settings) l.found) image
  cut_answers d =
      let i = image_is settings room ls set long t h m l d.dumped in
      let plan : Plan image l.area l.before l.last = subst (λ (y : List ℕ). Plan y l.area l.before l.last) i.0 d.plan in
      let cut : CutIn image (in_order l.before l.last) l.area l.found =
      subst (λ (y : List ℕ). CutIn y (in_order l.before l.last) l.area l.found) i.0 d.cut in
      subst (λ (n : ℕ). RefusedOr (restore_judged s (take n l.found) l.rows) (take n l.found) image) i.1
      (plan_cut s r.state r.rooms.rows l.rows l.before l.last l.area l.found (omega (arith, i.1, d.fits)) d.unmarked plan cut
      ten twelve)

  pub loss_answers : (first : StepLent) (losses : List Loss) → Restored settings ls first losses → last_box settings first losses ≡ lent_with room t m
      → Driven settings ls (last_box settings first losses) l → AfterLoss settings ls first losses l
  loss_answers first losses all same d = go (cut_answers (subst (λ (b : StepLent). Driven settings ls b l) same d))
    where
      answer : (restore_of settings l).answer ≡ answer_of (restore_judged s (take (size_of settings) l.found) l.rows)
      answer = restore_answers settings l.state (take (size_of settings) l.found) l.rows set state ten

      go : RefusedOr (restore_judged s (take (size_of settings) l.found) l.rows) (take (size_of settings) l.found) image
          → AfterLoss settings ls first losses l
      go (nineteen e) = refused19 (answer ∙ rw e nineteen_word)
      go (twenty e) = refused20 (answer ∙ rw e twenty_word)
      go (whole e) = let zero = whole_answers e in goes_on zero (restored_more settings ls losses first l all d zero)
