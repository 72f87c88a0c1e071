-- THE IMAGE IN PARTS. The capacitor theorem speaks of the image that `ysh_dump` leaves in a buffer; a driver without memory for it makes each page by
-- `ysh_dump_part`. Call after call gives that very image, so what such a driver programs is what the theorem says is programmed.
use Rattle.std.specs.Prelude.{ℕ, ◌≤◌, ◌≡◌, List, length, take, replicate, Ok}
use Rattle.words.specs.Prelude.{sym, ◌∙◌, arith, le-leb, length-replicate}
use Rattle.records.specs.{declared.settings.Settings.Settings, declared.state.State.State, Lent.Lists, Settings.settings_of, StateWords.state_of}
use Rattle.refusals.specs.{Laws.Lines.both_fine, Lines.judged, Rooms.room_lines, Settings.setting_lines}
use Rattle.images.specs.{Layout.dump_bytes}
use Rattle.dumpable.specs.{Refused.area_lines, Refused.dump_lines, Refused.dump_judged, Laws.Fine.dump_fine}
use Rattle.dump.specs.{Laws.Parts.total}
use Rattle.replies.specs.{Call.call_of, Call.unless_bad}
use Rattle.stepping.specs.{Bars.StepLent, Bars.lent_lines}
use Rattle.capi.specs.{Part.PartLent, Power.dump_gives, Power.dump_call, Laws.DumpCalls.dump_bytes_lem, Laws.PartCalls.in_calls, Laws.PartCalls.part_lengths}
use Rattle.capi.specs.{Laws.PartCalls.dump_is_image, Laws.PartCalls.parts_are_dump}
use Rattle.capacitor.specs.{Loss.Loss, Loss.size_of, Loss.box_before, Loss.dump_of, Loss.image_in, Laws.PowerCalls.dump_done}

-- a dump is judged alike over any two areas that have the size
judged_alike : (s : Settings) (t : State) (rows a b : List ℕ) → dump_bytes s.slots s.depth ≤ length a → dump_bytes s.slots s.depth ≤ length b
    → dump_judged s t rows a ≡ dump_judged s t rows b
unfolding dump_judged dump_lines area_lines
judged_alike s t rows a b p q = rw (le-leb _ _ p, le-leb _ _ q)

settings_fine : (s : Settings) (t : State) (rows area : List ℕ) → dump_judged s t rows area ≡ Ok tt → judged (setting_lines s) ≡ Ok tt
unfolding dump_judged dump_lines
settings_fine s t rows area h = (both_fine (setting_lines s) _ (both_fine (area_lines s area) _ (both_fine (room_lines s rows) _ h).1).1).0

fine_answers : (settings state rows area : List ℕ) (from upto : ℕ) → judged (lent_lines settings state rows) ≡ Ok tt
    → dump_judged (settings_of settings) (state_of state) rows area ≡ Ok tt → (dump_call settings state rows area from upto).answer ≡ 0
unfolding dump_call call_of unless_bad dump_gives
fine_answers settings state rows area from upto lines fine = rw (lines, fine)

-- on any words
parts_are_image : (settings state rows buffer : List ℕ) → (dump_call settings state rows buffer 0 (size_of settings)).answer ≡ 0 → (parts : List PartLent)
    → size_of settings ≤ total (part_lengths parts)
    → in_calls settings state rows 0 parts ≡ take (size_of settings) (dump_call settings state rows buffer 0 (size_of settings)).lent
parts_are_image settings state rows buffer done parts enough =
    let s = settings_of settings in
    let t = state_of state in
    let d = dump_done settings state rows buffer done in
    let area = replicate {A = ℕ} (size_of settings) 0 in
    let long : length area ≡ size_of settings = length-replicate {A = ℕ} (size_of settings) 0 in
    let place = (dump_fine s t rows buffer d.fine).place in
    let fine : dump_judged s t rows area ≡ (Ok tt) = judged_alike s t rows area buffer (omega (arith, long)) place ∙ d.fine in
    let size = long ∙ sym (dump_bytes_lem s (settings_fine s t rows buffer d.fine)).0 in
    let zeros : (dump_call settings state rows area 0 (length area)).answer ≡ 0 = fine_answers settings state rows area 0 (length area) d.lines fine in
    parts_are_dump settings state rows area size zeros parts (omega (arith, long, enough)) ∙ dump_is_image settings state rows area size zeros ∙ sym d.image

-- THE IMAGE OF A LOSS IN PARTS: where `ysh_dump` would answer 0 (as it does for every buffer of the size: `ready`), the parts that `ysh_dump_part` gives of the
-- same box, one after another and long enough together, are the image of `Driven`.
pub image_in_parts : (settings : List ℕ) (ls : Lists) (box : StepLent) (l : Loss) → (dump_of settings ls box l).answer ≡ 0 → (parts : List PartLent)
    → size_of settings ≤ total (part_lengths parts)
    → let b = box_before settings ls box l in
    in_calls settings b.state b.rooms.rows 0 parts ≡ image_in settings ls box l
image_in_parts settings ls box l done parts enough =
    let b = box_before settings ls box l in
    parts_are_image settings b.state b.rooms.rows l.buffer done parts enough
