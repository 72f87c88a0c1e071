-- ANY PLAN, CUT ANYWHERE: over an unmarked area a plan whose last program keeps to the first word leaves an area that is refused, or the whole image.
-- The area may be longer than the image: a restore is lent its first bytes, as many as the image has.
use Rattle.std.specs.Prelude.{ℕ, ◌≤◌, ◌<◌, ◌≡◌, refl, Bool, true, false, List, [], ◌∷◌, ltb, length, get_or, take, Ok}
use Rattle.words.specs.Prelude.{sym, ◌∙◌, arith, ltb-true, ltb-false}
use Rattle.words.specs.Prelude.{List·get_or-eq_default, length-take-le, get_or-take}
use Rattle.table.specs.{Bytes.Bytes}
use Rattle.records.specs.{declared.settings.Settings.Settings, declared.state.State.State}
use Rattle.refusals.specs.{Lines.judged, Rooms.room_lines, Settings.setting_lines}
use Rattle.images.specs.{Layout.image_of, Refused.restore_judged}
use Rattle.restart.specs.{FirstWord.Unmarked, FirstWord.RefusedOr, FirstWord.nineteen, FirstWord.whole, FirstWord.unmarked_refused}
use Rattle.restart.specs.{FirstWord.first_word_decides, FirstWord.accepted_whole, FirstWord.above_fine, Laws.FirstBytes.image_first, Laws.Programs.Left}
use Rattle.restart.specs.{Laws.Programs.early, Laws.Programs.late, Laws.Programs.done, Laws.Programs.neither, Laws.Programs.starts_with}
use Rattle.restart.specs.{Laws.Programs.cut_long, Laws.Programs.cut_rest, Laws.Programs.cut_leaves, Plans.touches, Plans.covers, Plans.CutIn}
use Rattle.restart.specs.{Plans.in_order, Plans.Plan}

-- ---- the first bytes of an area

-- they are bytes
first_bytes : (n : ℕ) (x : List ℕ) → n ≤ length x → Bytes x → Bytes (take n x)
unfolding Bytes
first_bytes n x fits small i = go (ltb i n) refl
  where
    go : (b : Bool) → ltb i n ≡ b → get_or (take n x) i 0 < 256
    go true e = rw (get_or-take n x i 0 (ltb-true i n e)) (small i)
    go false e =
        let short : length (take n x) ≤ i = omega (arith, length-take-le n x fits, ltb-false i n e) in
        rw (List·get_or-eq_default (take n x) 0 {n = i} short) (omega arith)

-- an image has its mark
has_mark : (s : Settings) (t : State) (room : List ℕ) → 2 < length (image_of s t room)
has_mark s t room = go (ltb 2 (length (image_of s t room))) refl
  where
    go : (b : Bool) → ltb 2 (length (image_of s t room)) ≡ b → 2 < length (image_of s t room)
    go true e = ltb-true _ _ e
    go false e =
        absurd (omega (arith, (image_first s t room).2, List·get_or-eq_default (image_of s t room) 0 {n = 2} (ltb-false 2 (length (image_of s t room)) e)))

-- ---- the plan

module _ (s : Settings) (t : State) (room rows : List ℕ) (before : List (List ℕ)) (last area after : List ℕ) where
  -- ANY PLAN, CUT ANYWHERE, over an unmarked area of the image's size or more: what stands at the image's places is refused with 19 or 20, or is the whole
  -- image; where 10 and 12 do not come first.
  pub plan_cut : length (image_of s t room) ≤ length area → Unmarked area → Plan (image_of s t room) area before last
      → CutIn (image_of s t room) (in_order before last) area after → judged (room_lines s rows) ≡ Ok tt → judged (setting_lines s) ≡ Ok tt
      → let found = take (length (image_of s t room)) after in
      RefusedOr (restore_judged s found rows) found (image_of s t room)
  plan_cut fits other plan cut ten twelve = go (cut_leaves image last before area after fits plan.rest cut)
    where
      image : List ℕ
      image = image_of s t room

      fits_after : length image ≤ length after
      fits_after = omega (arith, cut_long image (in_order before last) area after cut)

      found : List ℕ
      found = take (length image) after

      long : length found ≡ length image
      long = length-take-le (length image) after fits_after

      found_at : (i : ℕ) → i < length image → get_or found i 0 ≡ get_or after i 0
      found_at i l = get_or-take (length image) after i 0 l

      go : Left image area before last after → RefusedOr (restore_judged s found rows) found image
      go (early same) = nineteen (unmarked_refused s found rows ten twelve (λ e. other (sym (same 2 plan.off) ∙ sym (found_at 2 (has_mark s t room)) ∙ e)))
      go (late small right) =
          first_word_decides s t room found (first_bytes (length image) after fits_after small) long
          (λ i h l. let k : i < length image = omega (arith, long) in found_at i k ∙ right i k (plan.low i h)) rows ten twelve
      go (done right) = whole (starts_with image after fits_after right)

  -- So what a restore accepts, whatever was torn and over whatever row room, is the whole image.
  pub plan_accepted : length (image_of s t room) ≤ length area → Unmarked area → Plan (image_of s t room) area before last
      → CutIn (image_of s t room) (in_order before last) area after
      → let found = take (length (image_of s t room)) after in
      restore_judged s found rows ≡ Ok tt → found ≡ image_of s t room
  plan_accepted fits other plan cut fine =
      let found = take (length (image_of s t room)) after in
      let above = above_fine s found rows fine in
      accepted_whole (restore_judged s found rows) found (image_of s t room) fine (plan_cut fits other plan cut above.0 above.1)

-- ---- once more

-- A plan that was cut and left the area unmarked is begun again from its first program, as often as need be.
pub data Tries (bytes : List ℕ) (before : List (List ℕ)) (last : List ℕ) : List ℕ → List ℕ → Type 0 where
  once : (area after : List ℕ) → CutIn bytes (in_order before last) area after → Tries bytes before last area after
  again : (area between after : List ℕ) → CutIn bytes (in_order before last) area between → Unmarked between → Tries bytes before last between after
      → Tries bytes before last area after

neither-covers : (before : List (List ℕ)) (last : List ℕ) (i : ℕ) → covers before i ≡ false → touches last i ≡ false → covers (in_order before last) i ≡ false
unfolding covers
neither-covers [] last i c n = rw n
neither-covers (program ∷ before) last i c n =
    let b = neither (touches program i) (covers before i) c in rw (b.0, neither-covers before last i b.1 n)

-- A RETRY TOO: tried as often as one likes, a plan leaves an area that is refused, or the whole image.
pub plan_retried : (s : Settings) (t : State) (room rows : List ℕ) (before : List (List ℕ)) (last area after : List ℕ)
    → length (image_of s t room) ≤ length area → Unmarked area → Plan (image_of s t room) area before last
    → Tries (image_of s t room) before last area after → judged (room_lines s rows) ≡ Ok tt → judged (setting_lines s) ≡ Ok tt
    → let found = take (length (image_of s t room)) after in
    RefusedOr (restore_judged s found rows) found (image_of s t room)
plan_retried s t room rows before last area after fits other plan (once _ _ cut) ten twelve =
    plan_cut s t room rows before last area after fits other plan cut ten twelve
plan_retried s t room rows before last area after fits other plan (again _ between _ cut unmarked tries) ten twelve =
    let image = image_of s t room in
    let none : (i : ℕ) → covers before i ≡ false → touches last i ≡ false → covers (in_order before last) i ≡ false =
    λ i c n. neither-covers before last i c n in
    plan_retried s t room rows before last between after (omega (arith, cut_long image (in_order before last) area between cut)) unmarked
    (record { off = plan.off; low = plan.low; rest = λ i l c n. cut_rest image (in_order before last) area between i (none i c n) cut ∙ plan.rest i l c n })
    tries ten twelve
