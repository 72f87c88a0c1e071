-- ysh_dump_part: a part is a stretch of what ysh_dump leaves, and parts one after another are all of it. Each refusal has a number and a place that an
-- answer can hold.
use Rattle.std.specs.Prelude.{ℕ, ◌+◌, ◌≤◌, ◌≡◌, refl, true, List, [], ◌∷◌, ◌++◌, length, take, drop, Err, Ok}
use Rattle.words.specs.Prelude.{sym, ap, ◌∙◌, arith, length-take}
use Rattle.words.specs.{declared.refusal.Refusal.Refusal, Outcome.gives, Laws.Overwrite.overwrite_fits}
use Rattle.records.specs.{declared.settings.Settings.Settings, declared.state.State.State, Settings.settings_of, StateWords.state_of}
use Rattle.refusals.specs.{Lines.judged, Rooms.room_lines, Rooms.state_lines, Settings.sizing_lines, Settings.slippage_lines, Settings.risk_lines}
use Rattle.refusals.specs.{Settings.term_lines, Settings.entry_lines, Settings.setting_lines, Laws.Lines.both_fine}
use Rattle.images.specs.{Layout.dump_bytes, Layout.size_for, Layout.image_of}
use Rattle.dumpable.specs.{Refused.area_lines, Refused.dump_state_lines, Refused.dump_lines, Refused.dump_judged, Refused.part_lines, Refused.part_judged}
use Rattle.dumpable.specs.{Laws.Fine.dump_fine, Laws.Fine.fine_part}
use Rattle.dump.specs.{Order.written, Parts.bytes_from, Laws.Parts.in_parts, Laws.Parts.total, Laws.Parts.parts_are_whole}
use Rattle.dump.specs.{Laws.Parts.size_of, Laws.Parts.whole_written}
use Rattle.replies.specs.{Call.call_of, Call.unless_bad}
use Rattle.stepping.specs.{Bars.lent_lines}
use Rattle.capi.specs.{Power.dump_gives, Power.dump_call, Part.PartLent, Part.part_gives, Part.filled_with, Part.part_call, Laws.Calls.FitsAnswer}
use Rattle.capi.specs.{Laws.Calls.Numbered, Laws.Calls.Honest, Laws.Calls.honest, Laws.Calls.never_refuses, Laws.Calls.one_refusal}
use Rattle.capi.specs.{Laws.Calls.after_verdict, Laws.DumpCalls.on_paper, Laws.DumpCalls.paper_small, Laws.DumpCalls.lent_small}
use Rattle.capi.specs.{Laws.DumpCalls.dump_bytes_lem, Laws.DumpCalls.dump_honest}
use Rattle.refusals.specs.{Lines.Verdict}
use Rattle.std.proofs.Math.Seq.{take-append_seam}

-- ---- honest

part_on_paper : (s : Settings) (t : State) (rows : List ℕ) → on_paper (part_lines s t rows) ≡ true
unfolding on_paper part_lines room_lines setting_lines term_lines entry_lines sizing_lines slippage_lines risk_lines dump_state_lines state_lines
part_on_paper s t rows = refl

part_by : (v : Verdict) (after : PartLent) → ((r : Refusal) → v ≡ Err r → FitsAnswer r) → Numbered (part_gives v after)
unfolding part_gives
part_by (Ok _) after s = never_refuses after
part_by (Err why) after s = one_refusal why (s why refl)

pub part_honest : (settings state rows : List ℕ) (at : ℕ) (before : PartLent) →
    (let s = settings_of settings in
    let t = state_of state in
    Honest (part_call settings state rows at before) before
    (unless_bad (judged (lent_lines settings state rows))
    (part_gives (part_judged s t rows) (filled_with before.part (bytes_from (image_of s t rows) at (length before.part))))))
unfolding part_call part_judged
part_honest settings state rows at before =
    let s = settings_of settings in
    let t = state_of state in
    honest _ before
    (after_verdict _ _ (lent_small settings state rows)
    (part_by (part_judged s t rows) _ (paper_small (part_lines s t rows) (part_on_paper s t rows))))

-- ---- beside a whole dump

-- what gave was refused by neither verdict
both_passed : (v w : Verdict) (x y : List ℕ) → unless_bad v (dump_gives w x) ≡ gives y → (v ≡ Ok tt) × (w ≡ Ok tt) × (x ≡ y)
unfolding unless_bad dump_gives
both_passed (Ok _) (Ok _) x y e = (refl, refl, cc)
both_passed (Ok _) (Err r) x y e = absurd (let z : ◌≡◌ {A = ℕ} 0 1 = cc in omega arith)
both_passed (Err r) w x y e = absurd (let z : ◌≡◌ {A = ℕ} 0 1 = cc in omega arith)

-- the bytes of the image that call after call gives, each from where the part before it ends
unfoldable pub in_calls : List ℕ → List ℕ → List ℕ → ℕ → List PartLent → List ℕ
in_calls settings state rows at [] = []
in_calls settings state rows at (b ∷ bs) =
    let after = (part_call settings state rows at b).lent in
    take after.used after.part ++ in_calls settings state rows (at + length b.part) bs

-- how long the parts are
unfoldable pub part_lengths : List PartLent → List ℕ
part_lengths [] = []
part_lengths (b ∷ bs) = length b.part ∷ part_lengths bs

-- the bytes that fill a part stand first in it
first_filled : (part image : List ℕ) (at : ℕ) → let bytes = bytes_from image at (length part) in
    take (filled_with part bytes).used (filled_with part bytes).part ≡ bytes
unfolding filled_with bytes_from
first_filled part image at =
    let bytes = take (length part) (drop at image) in
    let fits : 0 + length bytes ≤ length part = omega (arith, length-take (length part) (drop at image)) in
    ap (take (length bytes)) (overwrite_fits part 0 bytes fits) ∙ take-append_seam bytes (drop (0 + length bytes) part)

-- settings that a dump lets pass
settings_passed : (s : Settings) (t : State) (rows area : List ℕ) → dump_judged s t rows area ≡ Ok tt → judged (setting_lines s) ≡ Ok tt
unfolding dump_judged dump_lines
settings_passed s t rows area h =
    (both_fine (setting_lines s) _ (both_fine (area_lines s area) _ (both_fine (room_lines s rows) _ h).1).1).0

module _
    (settings state rows area : List ℕ) (size : length area ≡ size_for (settings_of settings).slots (settings_of settings).depth)
    (done : (dump_call settings state rows area 0 (length area)).answer ≡ 0) where
  -- what the answer tells: rooms and words were let pass, and the image was written
  both : (judged (lent_lines settings state rows) ≡ Ok tt) × (dump_judged (settings_of settings) (state_of state) rows area ≡ Ok tt)
      × (written (image_of (settings_of settings) (state_of state) rows) area 0 (length area) ≡ (dump_call settings state rows area 0 (length area)).lent)
  both = both_passed (judged (lent_lines settings state rows)) (dump_judged (settings_of settings) (state_of state) rows area) _ _
      ((dump_honest settings state rows area 0 (length area)).does done)

  bytes : length area ≡ dump_bytes (settings_of settings).slots (settings_of settings).depth
  bytes = size ∙ (dump_bytes_lem (settings_of settings) (settings_passed (settings_of settings) (state_of state) rows area both.1)).0

  -- A DUMP THAT WAS DONE, into an area of the size, left the image.
  pub dump_is_image : (dump_call settings state rows area 0 (length area)).lent ≡ image_of (settings_of settings) (state_of state) rows
  dump_is_image =
      let s = settings_of settings in
      let t = state_of state in
      sym both.2 ∙ whole_written s t rows (dump_fine s t rows area both.1).held area bytes

  -- A PART IS A STRETCH OF IT, and is not refused.
  pub part_of_dump : (at : ℕ) (before : PartLent)
      → part_call settings state rows at before
      ≡ record {
        answer = 0;
        lent = filled_with before.part (bytes_from (dump_call settings state rows area 0 (length area)).lent at (length before.part));
      }
  unfolding part_call part_gives call_of unless_bad
  part_of_dump at before = rw (dump_is_image, both.0, fine_part (settings_of settings) (state_of state) rows area both.1)

  calls_are_parts : (at : ℕ) (parts : List PartLent)
      → in_calls settings state rows at parts ≡ in_parts (dump_call settings state rows area 0 (length area)).lent at (part_lengths parts)
  unfolding in_calls in_parts part_lengths
  calls_are_parts at [] = refl
  calls_are_parts at (b ∷ bs) =
      let whole = (dump_call settings state rows area 0 (length area)).lent in
      rw (part_of_dump at b, calls_are_parts (at + length b.part) bs)
      (ap (λ (x : List ℕ). x ++ in_parts whole (at + length b.part) (part_lengths bs)) (first_filled b.part whole at))

  -- PARTS ONE AFTER ANOTHER, with place for all of it, are what the dump left.
  pub parts_are_dump : (parts : List PartLent) → length area ≤ total (part_lengths parts)
      → in_calls settings state rows 0 parts ≡ (dump_call settings state rows area 0 (length area)).lent
  parts_are_dump parts h =
      let s = settings_of settings in
      let t = state_of state in
      let whole = (dump_call settings state rows area 0 (length area)).lent in
      let long : length whole ≡ length area =
      ap length dump_is_image ∙ size_of s t rows (dump_fine s t rows area both.1).held ∙ sym bytes in
      calls_are_parts 0 parts ∙ parts_are_whole whole (part_lengths parts) (rw long h)
