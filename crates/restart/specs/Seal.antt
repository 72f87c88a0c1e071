-- A SEAL, for flash whose programs take more than 8 bytes at once: bytes of the driver's own in a unit behind the image, programmed last and looked at
-- first. It commits in the first word's place: where the seal stands, what stands before it is the whole image. (What fills the image up to a unit's end
-- counts as the image's here.)
use Rattle.std.specs.Prelude.{ℕ, ◌+◌, ◌≤◌, ◌<◌, ◌≡◌, refl, Bool, true, false, List, ◌++◌, ltb, length, get_or, take}
use Rattle.words.specs.Prelude.{sym, ◌∙◌, arith, ltb-true, ltb-false}
use Rattle.words.specs.Prelude.{length-append, List·get_or-append}
use Rattle.restart.specs.{Laws.Programs.Left, Laws.Programs.early, Laws.Programs.late, Laws.Programs.done, Laws.Programs.starts_with}
use Rattle.restart.specs.{Laws.Programs.cut_long, Laws.Programs.cut_leaves, PagePlan.places_from, PagePlan.pages_to, PagePlan.from_below, PagePlan.from_at}
use Rattle.restart.specs.{PagePlan.pages_at, PagePlan.pages_above, Pages.Rising, Pages.end_of, Plans.touches, Plans.covers, Plans.CutIn, Plans.in_order}
use Rattle.restart.specs.{Plans.RestRight}

-- behind so many bytes of the area stands the seal
abbrev pub Sealed : ℕ → List ℕ → List ℕ → Type 0
Sealed size seal area = (i : ℕ) → i < length seal → get_or area (size + i) 0 ≡ get_or seal i 0

-- What is asked of a plan for an image and a seal over this area: no program before the last touches the seal's unit, the last touches no byte of the
-- image, and each byte that no program touches is right already.
pub record SealPlan (image seal area : List ℕ) (before : List (List ℕ)) (last : List ℕ) : Type 0 where
  pub off : (i : ℕ) → length image ≤ i → covers before i ≡ false
  pub behind : (i : ℕ) → i < length image → touches last i ≡ false
  pub rest : RestRight (image ++ seal) area before last

-- THE SEAL DECIDES: over an area that is not sealed, wherever the plan is cut, an area that is sealed afterwards holds the whole image.
pub sealed_whole : (image seal : List ℕ) (before : List (List ℕ)) (last area after : List ℕ) → length image + length seal ≤ length area
    → (Sealed (length image) seal area → ⊥) → SealPlan image seal area before last → CutIn (image ++ seal) (in_order before last) area after
    → Sealed (length image) seal after → take (length image) after ≡ image
sealed_whole image seal before last area after fits unsealed plan cut sealed =
    starts_with image after (omega (arith, cut_long (image ++ seal) (in_order before last) area after cut))
    (go (cut_leaves (image ++ seal) last before area after (omega (arith, length-append image seal)) plan.rest cut))
  where
    there : (i : ℕ) → i < length image → get_or (image ++ seal) i 0 ≡ get_or image i 0
    there i l = List·get_or-append image seal 0 i l

    go : Left (image ++ seal) area before last after → (i : ℕ) → i < length image → get_or after i 0 ≡ get_or image i 0
    go (early same) i l = absurd (unsealed (λ j k. sym (same (length image + j) (plan.off (length image + j) (omega arith))) ∙ sealed j k))
    go (late small right) i l = right i (omega (arith, length-append image seal)) (plan.behind i l) ∙ there i l
    go (done right) i l = right i (omega (arith, length-append image seal)) ∙ there i l

-- PAGES OF ANY SIZES over all of the image, and then the seal, are such a plan over any area.
pub seal_pages : (image seal area es : List ℕ) → Rising 0 es → end_of 0 es ≡ length image
    → SealPlan image seal area (pages_to 0 es) (places_from (length image) (length seal))
seal_pages image seal area es rising ends = record {
  off = λ i l. pages_above es 0 i rising (omega arith);
  behind = λ i l. from_below (length seal) (length image) i l;
  rest = λ i l c n. absurd (go i (ltb i (length image)) refl l c n);
}
  where
    go : (i : ℕ) (b : Bool) → ltb i (length image) ≡ b → i < length (image ++ seal) → covers (pages_to 0 es) i ≡ false
        → touches (places_from (length image) (length seal)) i ≡ false → ⊥
    go i true e l c n =
        let t : covers (pages_to 0 es) i ≡ true = pages_at es 0 i rising (omega arith) (omega (arith, ltb-true i (length image) e)) in
        let z : ◌≡◌ {A = ℕ} 0 1 = cc in omega arith
    go i false e l c n =
        let t : touches (places_from (length image) (length seal)) i ≡ true =
        from_at (length seal) (length image) i (ltb-false i (length image) e) (omega (arith, length-append image seal)) in
        let z : ◌≡◌ {A = ℕ} 0 1 = cc in omega arith
