-- THE FIRST WORD DECIDES. The first eight bytes of an image, its mark, K, version and D, are the commit: whatever stands in them, bytes that are an
-- image's behind them are refused with 19 or 20, or they are the image.
use Rattle.std.specs.Prelude.{ℕ, ◌≤◌, ◌<◌, ◌≡◌, refl, Bool, true, false, ◌&&◌, List, [], ◌∷◌, ◌++◌, eqb, length, get_or, Err, Ok}
use Rattle.words.specs.Prelude.{sym, ◌∙◌, ne_eqb}
use Rattle.words.specs.{declared.refusal.Refusal.Refusal}
use Rattle.table.specs.{Bytes.Bytes}
use Rattle.records.specs.{declared.settings.Settings.Settings, declared.state.State.State}
use Rattle.refusals.specs.{Lines.Line}
use Rattle.refusals.specs.{Lines.line, Lines.judged, Rooms.room_lines, Settings.setting_lines, Laws.Lines.never, Laws.Lines.both_fine, Laws.Lines.below_fine}
use Rattle.refusals.specs.{Laws.Lines.below_bad}
use Rattle.images.specs.{Layout.image_of, Refused.shape_fine, Refused.image_lines, Refused.same_lines, Refused.restore_lines, Refused.restore_judged}
use Rattle.restart.specs.{Laws.FirstBytes.passed_whole}
use Rattle.refusals.specs.{Lines.Verdict}

-- ---- definitions

-- byte 2, the mark's last, is not the mark's
abbrev pub Unmarked : List ℕ → Type 0
Unmarked x = get_or x 2 0 ≡ 80 → ⊥

-- Refused with 19 or 20, at place 0, or the bytes of an image.
pub data RefusedOr (v : Verdict) (x image : List ℕ) : Type 0 where
  nineteen : v ≡ Err Refusal.Image → RefusedOr v x image
  twenty : v ≡ Err Refusal.Other → RefusedOr v x image
  whole : x ≡ image → RefusedOr v x image

-- ---- unmarked bytes

no_and : (b : Bool) → (b && false) ≡ false
no_and true = refl
no_and false = refl

-- "another mark"
unmarked_lines : (x : List ℕ) → Unmarked x → judged (image_lines x) ≡ Err Refusal.Image
unfolding judged image_lines shape_fine
unmarked_lines x other = let e : eqb (get_or x 2 0) 80 ≡ false = ne_eqb (get_or x 2 0) 80 other in simp (e, no_and)

-- UNMARKED BYTES ARE REFUSED with 19, whatever else they hold, by any settings and over any row room that 12 and 10 let pass.
pub unmarked_refused : (s : Settings) (x rows : List ℕ) → judged (room_lines s rows) ≡ Ok tt → judged (setting_lines s) ≡ Ok tt → Unmarked x
    → restore_judged s x rows ≡ Err Refusal.Image
unfolding restore_judged restore_lines
unmarked_refused s x rows ten twelve other =
    below_fine (room_lines s rows) _ ten ∙ below_fine (setting_lines s) _ twelve ∙ below_bad (image_lines x) (same_lines s x) _ (unmarked_lines x other)

-- ---- what the lines of 19 and 20 can say

data FineOr (r : Refusal) (v : Verdict) : Type 0 where
  passes : v ≡ Ok tt → FineOr r v
  fails : v ≡ Err r → FineOr r v

one_line : (ok : Bool) (why : Refusal) (ls : List Line) → FineOr why (judged ls) → FineOr why (judged (line ok why ∷ ls))
unfolding judged
one_line true why ls h = h
one_line false why ls h = fails refl

none_left : (r : Refusal) → FineOr r (judged [])
unfolding judged
none_left r = passes refl

image_says : (x : List ℕ) → FineOr Refusal.Image (judged (image_lines x))
unfolding image_lines
image_says x =
    one_line _ _ _ (one_line _ _ _ (one_line _ _ _ (one_line _ _ _ (one_line _ _ _ (one_line _ _ _ (none_left _))))))

same_says : (s : Settings) (x : List ℕ) → FineOr Refusal.Other (judged (same_lines s x))
unfolding same_lines
same_says s x = one_line _ _ _ (one_line _ _ _ (none_left _))

-- ---- the first word

module _ (s : Settings) (t : State) (room x : List ℕ) (bytes : Bytes x) (long : length x ≡ length (image_of s t room))
    (behind : (i : ℕ) → 8 ≤ i → i < length x → get_or x i 0 ≡ get_or (image_of s t room) i 0) where
  by_lines : RefusedOr (judged (image_lines x ++ same_lines s x)) x (image_of s t room)
  by_lines = go (image_says x) (same_says s x)
    where
      go : FineOr Refusal.Image (judged (image_lines x)) → FineOr Refusal.Other (judged (same_lines s x))
          → RefusedOr (judged (image_lines x ++ same_lines s x)) x (image_of s t room)
      go (fails h) k = nineteen (below_bad (image_lines x) (same_lines s x) _ h)
      go (passes h) (fails k) = twenty (below_fine (image_lines x) (same_lines s x) h ∙ k)
      go (passes h) (passes k) = whole (passed_whole s t room x bytes long behind h k)

  -- THE FIRST WORD DECIDES: of every byte string of an image's size that equals it from byte 8 on, with the settings of the image, where 10 and 12 do not
  -- come first. Of the state and the rows nothing is asked.
  pub first_word_decides : (rows : List ℕ) → judged (room_lines s rows) ≡ Ok tt → judged (setting_lines s) ≡ Ok tt
      → RefusedOr (restore_judged s x rows) x (image_of s t room)
  unfolding restore_judged restore_lines
  first_word_decides rows ten twelve =
      rw (
        below_fine (room_lines s rows) (setting_lines s ++ (image_lines x ++ same_lines s x)) ten,
        below_fine (setting_lines s) (image_lines x ++ same_lines s x) twelve,
      ) by_lines

-- ---- what is accepted

-- is whole
pub accepted_whole : (v : Verdict) (x image : List ℕ) → v ≡ Ok tt → RefusedOr v x image → x ≡ image
accepted_whole v x image fine (nineteen h) = never (sym h ∙ fine)
accepted_whole v x image fine (twenty h) = never (sym h ∙ fine)
accepted_whole v x image fine (whole h) = h

-- and was refused by neither 10 nor 12
pub above_fine : (s : Settings) (x rows : List ℕ) → restore_judged s x rows ≡ Ok tt → (judged (room_lines s rows) ≡ Ok tt) × (judged (setting_lines s) ≡ Ok tt)
unfolding restore_judged restore_lines
above_fine s x rows h = let a = both_fine (room_lines s rows) _ h in (a.0, (both_fine (setting_lines s) _ a.1).0)
