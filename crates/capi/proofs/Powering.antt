-- A C call for a loss of power is the dump, or the restore, of what its words mean.
use Rattle.std.specs.Prelude.{Err, Ok, Result}
use Rattle.words.specs.Prelude.{ℕ, ◌≡◌, refl, sym, ◌∙◌, Bool, true, false, List, arith, le-leb}
use Rattle.words.specs.{declared.refusal.Refusal.Refusal, Words.overwrite}
use Rattle.records.specs.{declared.settings.Settings.Settings, declared.state.State.State, Settings.settings_of, StateWords.state_of, StateWords.words_of}
use Rattle.refusals.specs.{Lines.judged, Rooms.room_lines, Laws.Lines.below_fine, Laws.Lines.both_fine, Laws.Descent.no_line, Laws.Descent.fine_line}
use Rattle.images.specs.{Layout.image_of, Reading.window_in, Refused.restore_judged, Refused.left_by, Restoring.restored_by, Restoring.Restores}
use Rattle.dumpable.specs.{Refused.dump_lines, Refused.dump_judged, Laws.Passing.WordsFine, Laws.Passing.words_fine}
use Rattle.dump.specs.{Order.written, Dumping.Dumped, Dumping.WordsDumped}
use Rattle.replies.specs.{Call.Call, Call.answer_word, Call.word_lines}
use Rattle.stepping.specs.{Bars.lent_lines}
use Rattle.capi.specs.{Power.dump_gives, Power.dump_call, Power.restore_gives, Power.restore_call}
use Rattle.refusals.specs.{Lines.Verdict}
use Rattle.capi.proofs.{Calling.call_bad, Calling.call_refused, Calling.call_gives}

module _ (settings state rows area : List ℕ) (from upto : ℕ) where
  -- words that pass have all their rooms
  lent_passed : WordsFine settings state rows area → judged (lent_lines settings state rows) ≡ Ok tt
  unfolding lent_lines word_lines dump_judged dump_lines
  lent_passed w =
      below_fine (room_lines (settings_of settings) rows) (word_lines settings state) (both_fine (room_lines (settings_of settings) rows) _ w.fine).0
      ∙ sym (fine_line _ _ (le-leb _ _ w.long) (fine_line _ _ (le-leb _ _ w.full) no_line))

  module _ {r : Bool} {after : List ℕ} (ran : WordsDumped settings state rows area from upto r after) where
    -- and are dumped
    pub dump_passed : r ≡ true → dump_call settings state rows area from upto ≡ record { answer = 0; lent = after }
    unfolding dump_call dump_gives
    dump_passed yes-all =
        let d = rw yes-all at ran in
        let w = words_fine settings state rows area (sym d.passes) in
        call_gives _ _ _ {after = written (image_of (settings_of settings) (state_of state) rows) area from upto} (lent_passed w) (rw w.fine) ∙ rw d.leaves

    -- words that do not leave the area as it was
    pub dump_kept : {out : Call (List ℕ)} → r ≡ false → dump_call settings state rows after from upto ≡ out → dump_call settings state rows area from upto ≡ out
    dump_kept not-all e = let d = rw not-all at ran in rw d.leaves at e

  pub dump_short : {r : Refusal} {a : ℕ} → judged (lent_lines settings state rows) ≡ Err r → a ≡ answer_word r
      → dump_call settings state rows area from upto ≡ record { answer = a; lent = area }
  unfolding dump_call
  dump_short bad word = call_bad _ _ _ bad word

  module _
      {s : Settings} {t : State} {v : Verdict} {after : List ℕ} (fine : judged (lent_lines settings state rows) ≡ Ok tt)
      (read : s ≡ settings_of settings) (given : t ≡ state_of state) (ran : Dumped s t rows area from upto v after) where
    pub dump_refused : {r : Refusal} {a : ℕ} → v ≡ Err r → a ≡ answer_word r → dump_call settings state rows area from upto ≡ record { answer = a; lent = after }
    unfolding dump_call dump_gives left_by
    dump_refused bad word =
        let d = rw (read, given) at ran in
        let e : dump_judged (settings_of settings) (state_of state) rows area ≡ Err _ = sym d.verdict ∙ bad in
        call_refused _ _ _ fine (rw e) word ∙ rw (d.leaves, e)

    pub dump_done : v ≡ Ok tt → dump_call settings state rows area from upto ≡ record { answer = 0; lent = after }
    unfolding dump_call dump_gives left_by
    dump_done done =
        let d = rw (read, given) at ran in
        let e : dump_judged (settings_of settings) (state_of state) rows area ≡ (Ok tt) = sym d.verdict ∙ done in
        call_gives _ _ _ {after = written (image_of (settings_of settings) (state_of state) rows) area from upto} fine (rw e) ∙ rw (d.leaves, e)

module _ (settings state image rows : List ℕ) where
  pub restore_short : {r : Refusal} {a : ℕ} → judged (lent_lines settings state rows) ≡ Err r → a ≡ answer_word r
      → restore_call settings state image rows ≡ record { answer = a; lent = record { state = state; rows = rows } }
  unfolding restore_call
  restore_short bad word = call_bad _ _ _ bad word

  module _
      {s : Settings} {restored : Result State Refusal} {after : List ℕ} (fine : judged (lent_lines settings state rows) ≡ Ok tt)
      (read : s ≡ settings_of settings) (ran : Restores s image rows restored after) where
    -- what the call comes to, in the restore's own words
    restore_ran : let v = restore_judged (settings_of settings) image rows in
        restore_gives (restored_by v image) state (left_by v (overwrite rows 0 (window_in image)) rows) ≡ restore_gives restored state after
    restore_ran = let d = rw read at ran in rw (d.answer, d.leaves)

    pub restore_done : {next : State} {words : List ℕ} → restored ≡ Ok next → words ≡ overwrite state 0 (words_of next)
        → restore_call settings state image rows ≡ record { answer = 0; lent = record { state = words; rows = after } }
    unfolding restore_call restore_gives
    restore_done done put = call_gives _ _ _ fine (restore_ran ∙ simp (done, put))

    -- a refusal leaves the rows
    left : (v : Verdict) {r : Refusal} (x y : List ℕ) → restored_by v image ≡ Err r → left_by v x y ≡ y
    unfolding restored_by left_by
    left (Ok _) x y e = absurd (let z : ◌≡◌ {A = ℕ} 0 1 = cc in omega arith)
    left (Err why) x y e = refl

    pub restore_refused : {r : Refusal} {a : ℕ} → restored ≡ Err r → a ≡ answer_word r
        → restore_call settings state image rows ≡ record { answer = a; lent = record { state = state; rows = after } }
    unfolding restore_call restore_gives
    restore_refused refused word =
        let d = rw read at ran in
        let kept : after ≡ rows = d.leaves ∙ left (restore_judged (settings_of settings) image rows) _ rows (sym d.answer ∙ refused) in
        call_refused _ _ _ fine (restore_ran ∙ simp refused) word ∙ rw kept
