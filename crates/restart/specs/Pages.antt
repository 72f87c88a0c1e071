-- A driver that writes page after page asks for one stretch of the order of writing after another.
use Rattle.std.specs.Prelude.{ℕ, ◌+◌, ◌-◌, ◌≤◌, ◌<◌, min, ◌≡◌, refl, Bool, true, false, List, [], ◌∷◌, leb, length}
use Rattle.words.specs.Prelude.{ap, ◌∙◌, arith, leb-true, leb-false}
use Rattle.dump.specs.{Order.stretch, Order.written, Laws.Laid.stretch_on}

-- the pages end at these bytes of the order, one after another
unfoldable pub in_pages : List ℕ → List ℕ → ℕ → List ℕ → List ℕ
in_pages image area from [] = area
in_pages image area from (p ∷ ps) = in_pages image (written image area from p) p ps

unfoldable pub end_of : ℕ → List ℕ → ℕ
end_of from [] = from
end_of from (p ∷ ps) = end_of p ps

unfoldable pub Rising : ℕ → List ℕ → Type 0
Rising from [] = Unit {0}
Rising from (p ∷ ps) = (from ≤ p) × Rising p ps

nothing : (image area : List ℕ) (a : ℕ) → area ≡ written image area a a
unfolding written stretch
nothing image area a = let z : min a (length image) - a ≡ 0 = omega arith in rw z

two_pages : (image area : List ℕ) (a b c : ℕ) → a ≤ b → b ≤ c → written image (written image area a b) b c ≡ written image area a c
unfolding written
two_pages image area a b c h k = go (leb b (length image)) refl
  where
    size : ℕ
    size = length image

    go : (t : Bool) → leb b size ≡ t → stretch image (stretch image area a (min b size - a)) b (min c size - b) ≡ stretch image area a (min c size - a)
    go true e =
        let l : b ≤ size = leb-true b size e in
        let n : min b size - a ≡ b - a = omega arith in
        let m : min c size - a ≡ b - a + (min c size - b) = omega arith in
        let at : b ≡ a + (b - a) = omega arith in
        rw (n, m, ← (stretch_on image area a (b - a) (min c size - b)))
        (ap (λ (p : ℕ). stretch image (stretch image area a (b - a)) p (min c size - b)) at)
    go false e =
        let l : size < b = leb-false b size e in
        let n : min b size - a ≡ min c size - a = omega arith in
        let z : min c size - b ≡ 0 = omega arith in
        rw (n, z) (unfold stretch in refl)

pub ends_later : (from : ℕ) (ps : List ℕ) → Rising from ps → from ≤ end_of from ps
unfolding Rising end_of
ends_later from [] r = omega arith
ends_later from (p ∷ ps) r = let l : p ≤ end_of p ps = ends_later p ps r.1 in omega (arith, r.0)

-- PAGE AFTER PAGE: in any number of stretches, each from where the one before it ends, is once.
pub page_after_page : (image area : List ℕ) (from : ℕ) (ps : List ℕ) → Rising from ps → in_pages image area from ps ≡ written image area from (end_of from ps)
unfolding in_pages end_of Rising
page_after_page image area from [] r = nothing image area from
page_after_page image area from (p ∷ ps) r =
    page_after_page image (written image area from p) p ps r.1 ∙ two_pages image area from p (end_of p ps) r.0 (ends_later p ps r.1)
