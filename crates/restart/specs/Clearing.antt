-- THE FIRST WORD CLEARED, so that an old image is not taken for a new one: before the first bar after a restore, and before an erase.
use Rattle.std.specs.Prelude.{ℕ, ◌≤◌, ◌<◌, ◌≡◌, true, List, [], length, get_or, Ok}
use Rattle.words.specs.Prelude.{◌∙◌, arith}
use Rattle.records.specs.{declared.settings.Settings.Settings, declared.state.State.State}
use Rattle.refusals.specs.{Lines.judged, Rooms.room_lines, Settings.setting_lines}
use Rattle.images.specs.{Layout.dump_bytes, Layout.image_of, Refused.restore_judged, Laws.Fine.restore_fine}
use Rattle.restart.specs.{FirstWord.Unmarked, FirstWord.RefusedOr, FirstWord.first_word_decides, Laws.Programs.programmed_long}
use Rattle.restart.specs.{Laws.Programs.programmed_is, PagePlan.first_word, PagePlan.word_else, PagePlan.word_at, Plans.touches, Plans.programmed}
use Rattle.restart.specs.{Plans.Torn}

-- the first word programmed to zeros, which flash that erases to ones always allows
abbrev pub cleared : List ℕ → List ℕ
cleared area = programmed [] first_word area

-- An area with its first word cleared is unmarked: it serves the next dump.
pub cleared_unmarked : (area : List ℕ) → 8 ≤ length area → Unmarked (cleared area)
cleared_unmarked area l e =
    let none : get_or (cleared area) 2 0 ≡ 0 =
    programmed_is [] first_word area 2 (omega arith)
    (λ n. absurd (let t : touches first_word 2 ≡ true = word_at 2 (omega arith) in let z : ◌≡◌ {A = ℕ} 0 1 = cc in omega arith)) in
    omega arith

-- So is one that a restore accepted, of the size that the next dump asks for.
pub cleared_again : (s : Settings) (x rows : List ℕ) → restore_judged s x rows ≡ Ok tt
    → (length (cleared x) ≡ dump_bytes s.slots s.depth) × Unmarked (cleared x)
unfolding dump_bytes
cleared_again s x rows fine =
    let known = restore_fine s x rows fine in
    let long : length x ≡ dump_bytes s.slots s.depth = rw (← known.depth, ← known.slots) known.shape.long in
    (programmed_long [] first_word x ∙ long, cleared_unmarked x (omega arith))

-- A CLEARING THAT IS TORN is harmless while the image is still that of the box: it leaves what is refused, or the image as it was. So it is of an area
-- that was refused, where only its first word is not the image's.
pub clearing_cut : (s : Settings) (t : State) (room rows area after : List ℕ) → length area ≡ length (image_of s t room)
    → ((i : ℕ) → 8 ≤ i → i < length area → get_or area i 0 ≡ get_or (image_of s t room) i 0) → Torn first_word area after
    → judged (room_lines s rows) ≡ Ok tt → judged (setting_lines s) ≡ Ok tt → RefusedOr (restore_judged s after rows) after (image_of s t room)
clearing_cut s t room rows area after long behind torn ten twelve =
    first_word_decides s t room after torn.bytes (torn.long ∙ long)
    (λ i h l. torn.else i (word_else i h) ∙ behind i h (omega (arith, torn.long))) rows ten twelve
