-- ysh_dump_bytes, ysh_dump and ysh_restore: the size that is asked for is the one that 10 asks of an area, and each refusal has a number and a place that an
-- answer can hold, so the law over calls holds of both.
use Rattle.std.specs.Prelude.{ℕ, ◌≤◌, ◌≡◌, refl, Bool, true, false, cond, ◌&&◌, List, [], ◌∷◌, leb, length, Err, Ok}
use Rattle.words.specs.Prelude.{sym, arith, leb-true, le-leb}
use Rattle.words.specs.{declared.refusal.Refusal.Refusal, Limits.most_slots, Limits.most_rows, Words.overwrite}
use Rattle.records.specs.{declared.settings.Settings.Settings, declared.state.State.State, Settings.settings_of, StateWords.state_of}
use Rattle.refusals.specs.{Lines.Line}
use Rattle.refusals.specs.{Lines.judged, Rooms.room_lines, Rooms.state_lines, Settings.sizing_lines, Settings.slippage_lines, Settings.risk_lines}
use Rattle.refusals.specs.{Settings.term_lines, Settings.entry_lines, Settings.setting_lines, Laws.Lines.never, Laws.Lines.and_true, Laws.Lines.first_holds}
use Rattle.images.specs.{Layout.dump_bytes, Layout.size_for, Layout.image_of, Reading.window_in, Refused.image_lines, Refused.same_lines, Refused.restore_lines}
use Rattle.images.specs.{Refused.restore_judged, Refused.left_by, Restoring.restored_by}
use Rattle.dumpable.specs.{Refused.area_lines, Refused.dump_state_lines, Refused.dump_lines, Refused.dump_judged}
use Rattle.dump.specs.{Order.written}
use Rattle.replies.specs.{Call.unless_bad, Call.word_lines}
use Rattle.stepping.specs.{Bars.lent_lines}
use Rattle.capi.specs.{Power.dump_gives, Power.dump_call, Power.restore_gives, Power.restore_call, Laws.Calls.FitsAnswer, Laws.Calls.Numbered}
use Rattle.capi.specs.{Laws.Calls.Honest, Laws.Calls.honest, Laws.Calls.never_refuses, Laws.Calls.one_refusal, Laws.Calls.after_verdict}
use Rattle.refusals.specs.{Lines.Verdict}
use Rattle.words.specs.{Outcome.number_of, Outcome.place_of}

-- ---- ysh_dump_bytes

-- K and D as 12 lets them pass
sizes_fine : (s : Settings) → judged (setting_lines s) ≡ Ok tt → (leb s.slots most_slots ≡ true) × (leb 1 s.depth && leb s.depth most_rows) ≡ true
unfolding setting_lines
sizes_fine s h =
    let slots = first_holds _ _ h in
    (slots.0, (and_true _ _ (first_holds _ _ slots.1).0).0)

-- With settings that 12 lets pass, the size is an image's, and no area of so many bytes is refused with 10.
pub dump_bytes_lem : (s : Settings) → judged (setting_lines s) ≡ Ok tt
    → (size_for s.slots s.depth ≡ dump_bytes s.slots s.depth)
    × ((area : List ℕ) → size_for s.slots s.depth ≤ length area → judged (area_lines s area) ≡ Ok tt)
unfolding size_for area_lines judged
dump_bytes_lem s h =
    let fine = sizes_fine s h in
    (rw (fine.0, fine.1), λ area. rw (fine.0, fine.1) (λ l. rw (le-leb _ _ l)))

-- 0 is the size of none: no settings that have them pass 12.
pub no_dump_bytes : (s : Settings) → size_for s.slots s.depth ≡ 0 → judged (setting_lines s) ≡ Ok tt → ⊥
unfolding dump_bytes
no_dump_bytes s e h = omega (arith, (dump_bytes_lem s h).0)

-- ---- the refusals of a list of lines

-- numbers and places as the papers have them: 1 to 22, rooms and settings
unfoldable pub on_paper : List Line → Bool
on_paper [] = true
on_paper (l ∷ ls) = (leb 1 (number_of l.why) && leb (number_of l.why) 22 && leb (place_of l.why) 31) && on_paper ls

line_small : (ok : Bool) (v : Verdict) (why r : Refusal) → (leb 1 (number_of why) && leb (number_of why) 22 && leb (place_of why) 31) ≡ true
    → (v ≡ Err r → FitsAnswer r) → cond ok v (Err why) ≡ Err r → FitsAnswer r
line_small true v why r h below e = below e
line_small false v why r h below e =
    let a = and_true (leb 1 (number_of why) && leb (number_of why) 22) (leb (place_of why) 31) h in
    let b = and_true (leb 1 (number_of why)) (leb (number_of why) 22) a.0 in
    let number : number_of why ≡ number_of r = cc in
    let place : place_of why ≡ place_of r = cc in
    record {
      some = omega (arith, leb-true 1 (number_of why) b.0);
      number = omega (arith, leb-true (number_of why) 22 b.1);
      place = omega (arith, leb-true (place_of why) 31 a.1);
    }

pub paper_small : (ls : List Line) → on_paper ls ≡ true → (r : Refusal) → judged ls ≡ Err r → FitsAnswer r
unfolding judged on_paper
paper_small [] h r e = never (sym e)
paper_small (l ∷ ls) h r e =
    let own = and_true (leb 1 (number_of l.why) && leb (number_of l.why) 22 && leb (place_of l.why) 31) (on_paper ls) h in
    line_small l.ok (judged ls) l.why r own.0 (paper_small ls own.1 r) e

-- the rooms of rows, settings and state, which most calls ask for first
pub lent_small : (settings state rows : List ℕ) (r : Refusal) → judged (lent_lines settings state rows) ≡ Err r → FitsAnswer r
unfolding on_paper lent_lines room_lines word_lines
lent_small settings state rows = paper_small (lent_lines settings state rows) refl

-- ---- ysh_dump

dump_on_paper : (s : Settings) (t : State) (rows area : List ℕ) → on_paper (dump_lines s t rows area) ≡ true
unfolding on_paper dump_lines room_lines area_lines setting_lines term_lines entry_lines sizing_lines slippage_lines risk_lines dump_state_lines state_lines
dump_on_paper s t rows area = refl

dump_by : (v : Verdict) (after : List ℕ) → ((r : Refusal) → v ≡ Err r → FitsAnswer r) → Numbered (dump_gives v after)
unfolding dump_gives
dump_by (Ok _) after s = never_refuses after
dump_by (Err why) after s = one_refusal why (s why refl)

pub dump_honest : (settings state rows area : List ℕ) (from upto : ℕ) →
    (let s = settings_of settings in
    let t = state_of state in
    Honest (dump_call settings state rows area from upto) area
    (unless_bad (judged (lent_lines settings state rows)) (dump_gives (dump_judged s t rows area) (written (image_of s t rows) area from upto))))
unfolding dump_call dump_judged
dump_honest settings state rows area from upto =
    let s = settings_of settings in
    let t = state_of state in
    honest _ area
    (after_verdict _ _ (lent_small settings state rows)
    (dump_by (dump_judged s t rows area) _ (paper_small (dump_lines s t rows area) (dump_on_paper s t rows area))))

-- ---- ysh_restore

restore_on_paper : (s : Settings) (image rows : List ℕ) → on_paper (restore_lines s image rows) ≡ true
unfolding on_paper restore_lines room_lines setting_lines term_lines entry_lines sizing_lines slippage_lines risk_lines image_lines same_lines
restore_on_paper s image rows = refl

restore_by : (v : Verdict) (image state rows : List ℕ) → ((r : Refusal) → v ≡ Err r → FitsAnswer r) → Numbered (restore_gives (restored_by v image) state rows)
unfolding restored_by restore_gives
restore_by (Ok _) image state rows s = never_refuses _
restore_by (Err why) image state rows s = one_refusal why (s why refl)

pub restore_honest : (settings state image rows : List ℕ) →
    (let v = restore_judged (settings_of settings) image rows in
    Honest (restore_call settings state image rows) (record { state = state; rows = rows })
    (unless_bad (judged (lent_lines settings state rows))
    (restore_gives (restored_by v image) state (left_by v (overwrite rows 0 (window_in image)) rows))))
unfolding restore_call restore_judged
restore_honest settings state image rows =
    let s = settings_of settings in
    honest _ _
    (after_verdict _ _ (lent_small settings state rows)
    (restore_by (restore_judged s image rows) image state _ (paper_small (restore_lines s image rows) (restore_on_paper s image rows))))
