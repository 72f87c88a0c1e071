-- Words of which a part refuses nothing, seen in the words as they are.
use Rattle.std.specs.Prelude.{ℕ, ◌+◌, ◌*◌, ◌≤◌, ◌≡◌, Bool, true, cond, List, length, replicate, Ok}
use Rattle.words.specs.Prelude.{sym, ap, ◌∙◌, length-replicate}
use Rattle.words.specs.{Limits.setting_words, Limits.state_words, Limits.row_words, Limits.most_slots, Limits.most_rows, Words.overwrite}
use Rattle.records.specs.{Settings.settings_of, StateWords.state_of}
use Rattle.images.specs.{Layout.head_bytes, Layout.image_of}
use Rattle.dumpable.specs.{Refused.part_judged, Laws.Fine.fine_part, Laws.Passing.words_pass, Laws.Passing.words_fine}
use Rattle.dump.specs.{Parts.bytes_from}

-- the greatest image: an area of its size is short for none
abbrev pub most_bytes : ℕ
most_bytes = head_bytes + 8 * (most_rows * row_words most_slots)

-- words of settings and state that have all their words, and of which nothing is refused
pub record WordsFit (settings state rows : List ℕ) : Type 0 where
  pub long : setting_words ≤ length settings
  pub full : state_words ≤ length state
  pub fine : part_judged (settings_of settings) (state_of state) rows ≡ Ok tt

-- WHERE THE WORDS PASS, with an area for the greatest image, no part of theirs is refused
pub words_fit : (settings state rows : List ℕ) → words_pass settings state (length rows) most_bytes ≡ true → WordsFit settings state rows
words_fit settings state rows h =
    let area = replicate {A = ℕ} most_bytes 0 in
    let long : most_bytes ≡ length area = sym (length-replicate {A = ℕ} most_bytes 0) in
    let w = words_fine settings state rows area (ap (words_pass settings state (length rows)) (sym long) ∙ h) in
    record { long = w.long; full = w.full; fine = fine_part (settings_of settings) (state_of state) rows area w.fine }

-- What a part of words does: all that was asked where they pass, and nothing where not.
pub record WordsParted (settings state rows : List ℕ) (at : ℕ) (part : List ℕ) (used : ℕ) (r : Bool) (after : List ℕ) (count : ℕ) : Type 0 where
  pub passes : r ≡ words_pass settings state (length rows) most_bytes
  pub leaves : after ≡ cond r (overwrite part 0 (bytes_from (image_of (settings_of settings) (state_of state) rows) at (length part))) part
  pub counts : count ≡ cond r (length (bytes_from (image_of (settings_of settings) (state_of state) rows) at (length part))) used
