-- `ysh_step`, `ysh_dump` and `ysh_restore` on the words of a state: what an answer of 0 tells of the engine, and what the engine's verdict makes the answer.
use Rattle.std.specs.Prelude.{ℕ, ◌≤◌, ◌/◌, ◌^◌, ◌≡◌, refl, List, length, take, Err, Ok}
use Rattle.words.specs.Prelude.{sym, ap, ◌∙◌, arith}
use Rattle.words.specs.{Limits.setting_words, Limits.state_words, declared.refusal.Refusal.Refusal, Outcome.gives, Words.overwrite}
use Rattle.words.specs.{Laws.Overwrite.overwrite-length}
use Rattle.records.specs.{declared.settings.Settings.Settings, declared.state.State.State, Lent.Lists, Lent.Rooms, Settings.settings_of, StateWords.state_of}
use Rattle.records.specs.{StateWords.words_of, Laws.RoundTrip.Floats64, Laws.RoundTrip.state_kept}
use Rattle.refusals.specs.{Lines.judged, Rooms.room_lines, Laws.Lines.never, Laws.Lines.both_fine}
use Rattle.engine.specs.{Boxes.NotFull, Laws.Runs.run_ends, Run.run_over}
use Rattle.images.specs.{Layout.dump_bytes, Layout.image_of, Reading.state_in, Reading.window_in, Refused.restore_judged, Refused.left_by, Restoring.restored_by}
use Rattle.dumpable.specs.{Refused.dump_lines, Refused.dump_judged, Laws.Fine.dump_fine}
use Rattle.dump.specs.{Order.written}
use Rattle.restart.specs.{Cut.size_of_image, OrderPlan.all_written}
use Rattle.replies.specs.{Call.call_of, Call.unless_bad, Laws.Answers.answer_number}
use Rattle.stepping.specs.{Bars.lent_lines, WordRun.answer_of}
use Rattle.capi.specs.{DayJoined.lent_had, Joined.lent_fine, Power.RestoreLent, Power.dump_gives, Power.dump_call, Power.restore_gives, Power.restore_call}
use Rattle.capi.specs.{Laws.Calls.FitsAnswer, Laws.Calls.refused_word, Laws.DumpCalls.dump_honest, Laws.DumpCalls.restore_honest, Laws.RunCalls.step_small}
use Rattle.capacitor.specs.{Laws.Answered.refuses_not, Laws.Answered.gives_same, Laws.Answered.unless_gives}
use Rattle.refusals.specs.{Lines.Verdict}

-- ---- bars

module _ (s : Settings) (ls : Lists) (bars : List (List ℕ)) (t : State) (m : Rooms) where
  -- what ends a run can stand in an answer
  run_small : (r : Refusal) → (run_over s ls t m bars).verdict ≡ Err r → FitsAnswer r
  run_small =
      run_ends s ls (λ t m. Unit {0}) (λ t m bar fine u. tt) (λ v. (r : Refusal) → v ≡ Err r → FitsAnswer r) (λ r e. never (sym e))
      (λ t m bar u r e. step_small s t bar m ls r e) bars t m tt

  -- an answer of 0: all bars were taken
  pub all_taken : answer_of (run_over s ls t m bars).verdict ≡ 0 → (run_over s ls t m bars).verdict ≡ Ok tt
  all_taken zero = go (run_over s ls t m bars).verdict refl zero
    where
      go : (v : Verdict) → (run_over s ls t m bars).verdict ≡ v → answer_of v ≡ 0 → v ≡ Ok tt
      go (Ok _) e z = refl
      go (Err r) e z = absurd (refused_word r (run_small r e) (unfold answer_of in z))

  -- an answer with another number than 14: no room was full
  pub not_full : (answer_of (run_over s ls t m bars).verdict / 2 ^ 32 ≡ 14 → ⊥) → NotFull (run_over s ls t m bars).verdict
  unfolding NotFull answer_of
  not_full other r e fourteen =
      let small = run_small r e in
      other (ap (λ (v : Verdict). answer_of v / 2 ^ 32) e ∙ answer_number r small.number small.place ∙ fourteen)

-- ---- the dump

dump_given : (v : Verdict) (image after : List ℕ) → dump_gives v image ≡ gives after → (v ≡ Ok tt) × (image ≡ after)
unfolding dump_gives
dump_given (Ok _) image after e = (refl, gives_same e)
dump_given (Err why) image after e = refuses_not e

dump_room : (s : Settings) (t : State) (rows buffer : List ℕ) → dump_judged s t rows buffer ≡ Ok tt → judged (room_lines s rows) ≡ Ok tt
unfolding dump_judged dump_lines
dump_room s t rows buffer fine = (both_fine (room_lines s rows) _ fine).0

-- an answer of 0, on any words: nothing was refused, and the buffer begins with the image
pub record DumpDone (settings state rows buffer : List ℕ) : Type 0 where
  pub lines : judged (lent_lines settings state rows) ≡ Ok tt
  pub fine : dump_judged (settings_of settings) (state_of state) rows buffer ≡ Ok tt
  pub image : let size = dump_bytes (settings_of settings).slots (settings_of settings).depth in
      take size (dump_call settings state rows buffer 0 size).lent ≡ image_of (settings_of settings) (state_of state) rows

pub dump_done : (settings state rows buffer : List ℕ)
    → (dump_call settings state rows buffer 0 (dump_bytes (settings_of settings).slots (settings_of settings).depth)).answer ≡ 0
    → DumpDone settings state rows buffer
unfolding dump_bytes
dump_done settings state rows buffer done =
    let s = settings_of settings in
    let t = state_of state in
    let size = dump_bytes s.slots s.depth in
    let given = unless_gives _ _ _ ((dump_honest settings state rows buffer 0 size).does done) in
    let d = dump_given (dump_judged s t rows buffer) (written (image_of s t rows) buffer 0 size) _ given.1 in
    let known = dump_fine s t rows buffer d.0 in
    let long = size_of_image s t rows known.held in
    record {
      lines = given.0;
      fine = d.0;
      image = rw (← d.1, ← long) (all_written (image_of s t rows) buffer (omega (arith, long)) (omega (arith, long, known.place)) _ (omega (arith, long)));
    }

module _ (settings room : List ℕ) (set : setting_words ≤ length settings) (long : state_words ≤ length room) (t : State) (h : Floats64 t)
    (rows buffer : List ℕ) where
  abbrev s : Settings
  s = settings_of settings

  abbrev words : List ℕ
  words = overwrite room 0 (words_of t)

  -- an answer of 0: the dump was not refused, and the buffer begins with the image
  pub dumped_image : (dump_call settings (overwrite room 0 (words_of t)) rows buffer 0 (dump_bytes s.slots s.depth)).answer ≡ 0
      → (dump_judged s t rows buffer ≡ Ok tt)
      × (take (dump_bytes s.slots s.depth) (dump_call settings (overwrite room 0 (words_of t)) rows buffer 0 (dump_bytes s.slots s.depth)).lent
      ≡ image_of s t rows)
  dumped_image zero =
      let same : state_of words ≡ t = state_kept t h room long in
      let d = dump_done settings words rows buffer zero in
      (rw same at d.fine, rw same at d.image)

  -- a dump that the engine does not refuse answers 0
  pub dump_answers : (from upto : ℕ) → dump_judged s t rows buffer ≡ Ok tt → (dump_call settings (overwrite room 0 (words_of t)) rows buffer from upto).answer ≡ 0
  unfolding dump_call call_of unless_bad dump_gives
  dump_answers from upto fine =
      rw (state_kept t h room long, lent_fine settings words set (rw overwrite-length long) rows, dump_room s t rows buffer fine, fine)

-- ---- the restore

restore_given : (v : Verdict) (x state rows after-rows : List ℕ) (after : RestoreLent)
    → restore_gives (restored_by v x) state (left_by v after-rows rows) ≡ gives after
    → (v ≡ Ok tt) × (record { state = overwrite state 0 (words_of (state_in x)); rows = after-rows } ≡ after)
unfolding restored_by restore_gives left_by
restore_given (Ok _) x state rows after-rows after e = (refl, gives_same e)
restore_given (Err why) x state rows after-rows after e = refuses_not e

-- an answer of 0: the image was accepted, and what is lent holds its state and its rows
pub record RestoreDone (settings state x rows : List ℕ) : Type 0 where
  pub accepted : restore_judged (settings_of settings) x rows ≡ Ok tt
  pub long : state_words ≤ length state
  pub leaves : (restore_call settings state x rows).lent
      ≡ record { state = overwrite state 0 (words_of (state_in x)); rows = overwrite rows 0 (window_in x) }

module _ (settings state x rows : List ℕ) where
  pub restore_done : (restore_call settings state x rows).answer ≡ 0 → RestoreDone settings state x rows
  restore_done zero =
      let given = unless_gives _ _ _ ((restore_honest settings state x rows).does zero) in
      let r = restore_given (restore_judged (settings_of settings) x rows) x state rows (overwrite rows 0 (window_in x)) _ given.1 in
      record { accepted = r.0; long = (lent_had settings state rows given.0).1; leaves = sym r.1 }

  -- with rooms that have their words, the answer is the verdict's
  pub restore_answers : setting_words ≤ length settings → state_words ≤ length state → judged (room_lines (settings_of settings) rows) ≡ Ok tt
      → (restore_call settings state x rows).answer ≡ answer_of (restore_judged (settings_of settings) x rows)
  unfolding restore_call
  restore_answers set long ten = rw (lent_fine settings state set long rows, ten) (by (restore_judged (settings_of settings) x rows) _)
    where
      by : (v : Verdict) (after : List ℕ) → (call_of (unless_bad (Ok tt) (restore_gives (restored_by v x) state after)) (record { state = state; rows = rows })).answer
          ≡ answer_of v
      by (Ok _) after = unfold call_of unless_bad restore_gives restored_by answer_of in refl
      by (Err r) after = unfold call_of unless_bad restore_gives restored_by answer_of in refl
