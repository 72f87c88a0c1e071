-- A C call for a part is the part of what its words mean.
use Rattle.std.specs.Prelude.{Err, Ok, Result, ℕ}
use Rattle.words.specs.Prelude.{ℕ, ◌≡◌, refl, sym, ◌∙◌, Bool, true, false, List, arith, le-leb, length}
use Rattle.words.specs.{declared.refusal.Refusal.Refusal}
use Rattle.records.specs.{declared.settings.Settings.Settings, declared.state.State.State, Settings.settings_of, StateWords.state_of}
use Rattle.refusals.specs.{Lines.judged, Rooms.room_lines, Laws.Lines.below_fine, Laws.Lines.both_fine, Laws.Descent.no_line, Laws.Descent.fine_line}
use Rattle.images.specs.{Layout.image_of, Refused.left_by}
use Rattle.dumpable.specs.{Refused.part_lines, Refused.part_judged}
use Rattle.dump.specs.{Parts.bytes_from}
use Rattle.dump.specs.{Parts.parted_by, Parts.PartDumped, Laws.WordsFit.WordsFit, Laws.WordsFit.WordsParted, Laws.WordsFit.words_fit}
use Rattle.replies.specs.{Call.Call, Call.answer_word, Call.word_lines}
use Rattle.stepping.specs.{Bars.lent_lines}
use Rattle.capi.specs.{Part.PartLent, Part.part_gives, Part.filled_with, Part.part_call}
use Rattle.refusals.specs.{Lines.Verdict}
use Rattle.capi.proofs.{Calling.call_bad, Calling.call_refused, Calling.call_gives}

-- what an answer tells of the verdict
refused_by : (v : Verdict) (n : ℕ) {r : Refusal} → parted_by v n ≡ Err r → v ≡ Err r
unfolding parted_by
refused_by (Ok _) n e = absurd (let z : ◌≡◌ {A = ℕ} 0 1 = cc in omega arith)
refused_by (Err why) n e = cc

used_by : (v : Verdict) {n m : ℕ} → parted_by v n ≡ Ok m → (v ≡ Ok tt) × (n ≡ m)
unfolding parted_by
used_by (Ok _) e = (refl, cc)
used_by (Err why) e = absurd (let z : ◌≡◌ {A = ℕ} 0 1 = cc in omega arith)

module _ (settings state rows : List ℕ) (at : ℕ) (part : List ℕ) (used : ℕ) where
  -- words that pass have all their rooms
  lent_passed : WordsFit settings state rows → judged (lent_lines settings state rows) ≡ Ok tt
  unfolding lent_lines word_lines part_judged part_lines
  lent_passed w =
      below_fine (room_lines (settings_of settings) rows) (word_lines settings state) (both_fine (room_lines (settings_of settings) rows) _ w.fine).0
      ∙ sym (fine_line _ _ (le-leb _ _ w.long) (fine_line _ _ (le-leb _ _ w.full) no_line))

  module _ {r : Bool} {after : List ℕ} {count : ℕ} (ran : WordsParted settings state rows at part used r after count) where
    -- and their part is written
    pub part_passed : r ≡ true
        → part_call settings state rows at (record { part = part; used = used }) ≡ record { answer = 0; lent = record { part = after; used = count } }
    unfolding part_call part_gives filled_with
    part_passed yes-all =
        let d = rw yes-all at ran in
        let w = words_fit settings state rows (sym d.passes) in
        call_gives _ _ _ {after = filled_with part (bytes_from (image_of (settings_of settings) (state_of state) rows) at (length part))}
        (lent_passed w) (rw w.fine)
        ∙ rw (d.leaves, d.counts)

    -- words that do not leave part and count as they were
    pub part_kept : {out : Call PartLent} → r ≡ false → part_call settings state rows at (record { part = after; used = count }) ≡ out
        → part_call settings state rows at (record { part = part; used = used }) ≡ out
    part_kept not-all e = let d = rw not-all at ran in rw (d.leaves, d.counts) at e

  pub part_short : {r : Refusal} {a : ℕ} → judged (lent_lines settings state rows) ≡ Err r → a ≡ answer_word r
      → part_call settings state rows at (record { part = part; used = used }) ≡ record { answer = a; lent = record { part = part; used = used } }
  unfolding part_call
  part_short bad word = call_bad _ _ _ bad word

  module _
      {s : Settings} {t : State} {q : Result ℕ Refusal} {after : List ℕ} (fine : judged (lent_lines settings state rows) ≡ Ok tt)
      (read : s ≡ settings_of settings) (given : t ≡ state_of state) (ran : PartDumped s t rows at part q after) where
    pub part_refused : {r : Refusal} {a : ℕ} → q ≡ Err r → a ≡ answer_word r
        → part_call settings state rows at (record { part = part; used = used }) ≡ record { answer = a; lent = record { part = after; used = used } }
    unfolding part_call part_gives left_by
    part_refused refused word =
        let d = rw (read, given) at ran in
        let e : part_judged (settings_of settings) (state_of state) rows ≡ Err _ =
        refused_by (part_judged (settings_of settings) (state_of state) rows) _ (sym d.answer ∙ refused) in
        call_refused _ _ _ fine (rw e) word ∙ rw (d.leaves, e)

    pub part_done : {count : ℕ} → q ≡ Ok count
        → part_call settings state rows at (record { part = part; used = used }) ≡ record { answer = 0; lent = record { part = after; used = count } }
    unfolding part_call part_gives left_by filled_with
    part_done done =
        let d = rw (read, given) at ran in
        let e = used_by (part_judged (settings_of settings) (state_of state) rows) (sym d.answer ∙ done) in
        call_gives _ _ _ {after = filled_with part (bytes_from (image_of (settings_of settings) (state_of state) rows) at (length part))} fine (rw e.0)
        ∙ rw (d.leaves, e.0, e.1)
