-- What a restore answers and leaves, refused or done.
use Rattle.std.specs.Prelude.{Err, Ok}
use Rattle.words.specs.Prelude.{ℕ, ◌*◌, ◌≤◌, ◌≡◌, List, mul-le-mul_right, le_trans, arith, length}
use Rattle.words.specs.{declared.refusal.Refusal.Refusal, Limits.row_words, Words.overwrite, Laws.Records.records_fit}
use Rattle.records.specs.{declared.settings.Settings.Settings, declared.state.State.State}
use Rattle.images.specs.{Reading.slots_in}
use Rattle.images.specs.{Reading.rows_in, Reading.state_in, Reading.window_in, Refused.restore_judged, Refused.left_by, Restoring.restored_by}
use Rattle.images.specs.{Restoring.Restores, Laws.Fine.RestoreFine}
use Rattle.refusals.specs.{Lines.Verdict}

module _ (s : Settings) (image rows : List ℕ) {v : Verdict} (judge : v ≡ restore_judged s image rows) where
  pub restore_refused : {r : Refusal} → v ≡ Err r → Restores s image rows (Err r) rows
  unfolding left_by restored_by
  restore_refused bad = record { answer = rw (← judge, bad); leaves = rw (← judge, bad) }

  pub restore_done : {t : State} {after : List ℕ} → v ≡ Ok tt → t ≡ state_in image → after ≡ overwrite rows 0 (window_in image)
      → Restores s image rows (Ok t) after
  unfolding left_by restored_by
  restore_done fine e f = record { answer = rw (← judge, fine, e); leaves = rw (← judge, fine) f }

-- the window of an image that is judged fine has a place in the row room
pub window_fits : (s : Settings) (x rows : List ℕ) → RestoreFine s x rows → rows_in x * row_words (slots_in x) ≤ length rows
window_fits s x rows fine =
    let few : rows_in x ≤ s.depth = omega (arith, fine.few, fine.depth) in
    rw fine.slots
    (le_trans (mul-le-mul_right (row_words s.slots) few) (records_fit (length rows) (row_words s.slots) (omega arith) s.depth fine.room))
