-- The first eight bytes of an image: bytes that are an image's behind them, and that 19 and 20 let pass, are the image.
use Rattle.std.specs.Prelude.{ℕ, zero, suc, ◌+◌, ◌*◌, ◌/◌, ◌%◌, ◌≤◌, ◌<◌, ◌≡◌, refl, Bool, true, false, List, ltb, length, get_or, Ok}
use Rattle.words.specs.Prelude.{sym, ◌∙◌, mod-eq_of_lt, arith, eqb-true}
use Rattle.words.specs.Prelude.{ltb-true, ltb-false, ext_get_or}
use Rattle.table.specs.{Bytes.u16, Bytes.Bytes}
use Rattle.records.specs.{declared.settings.Settings.Settings, declared.state.State.State}
use Rattle.refusals.specs.{Lines.judged, Laws.Lines.first_holds}
use Rattle.images.specs.{Layout.numbers, Layout.head, Layout.image, Layout.image_of, Reading.slots_in, Reading.depth_in, Refused.image_lines, Refused.same_lines}
use Rattle.images.specs.{Laws.Fine.ShapeFine, Laws.Fine.shape_fine_lem}
use Rattle.restart.specs.{Laws.Marked.Marked, Laws.Marked.shape_marked}

-- what the lines of 19 and 20 have seen of the first eight bytes: the mark and the version, K and D
record FirstWord (s : Settings) (x : List ℕ) : Type 0 where
  mark : Marked x
  shape : ShapeFine x
  slots : slots_in x ≡ s.slots
  depth : depth_in x ≡ s.depth

first_word : (s : Settings) (x : List ℕ) → judged (image_lines x) ≡ Ok tt → judged (same_lines s x) ≡ Ok tt → FirstWord s x
unfolding image_lines same_lines
first_word s x nineteen twenty =
    let shape = (first_holds _ _ nineteen).0 in
    let depth = first_holds _ _ twenty in
    record {
      mark = shape_marked x shape;
      shape = shape_fine_lem x shape;
      slots = eqb-true _ _ (first_holds _ _ depth.1).0;
      depth = eqb-true _ _ depth.0;
    }

-- the two bytes of a number
low_of : (a b n : ℕ) → a < 256 → a + 256 * b ≡ n → a ≡ n % 256
low_of a b n l e = omega arith

high_of : (a b n : ℕ) → a < 256 → b < 256 → a + 256 * b ≡ n → b ≡ n / 256 % 256
high_of a b n l k e = omega arith

-- two lists with the same eight bytes at their start
eight_same : (x y : List ℕ) → get_or x 0 0 ≡ get_or y 0 0 → get_or x 1 0 ≡ get_or y 1 0 → get_or x 2 0 ≡ get_or y 2 0 → get_or x 3 0 ≡ get_or y 3 0
    → get_or x 4 0 ≡ get_or y 4 0 → get_or x 5 0 ≡ get_or y 5 0 → get_or x 6 0 ≡ get_or y 6 0 → get_or x 7 0 ≡ get_or y 7 0
    → (i : ℕ) → i < 8 → get_or x i 0 ≡ get_or y i 0
eight_same x y a b c d e f g h zero l = a
eight_same x y a b c d e f g h (suc zero) l = b
eight_same x y a b c d e f g h (suc (suc zero)) l = c
eight_same x y a b c d e f g h (suc (suc (suc zero))) l = d
eight_same x y a b c d e f g h (suc (suc (suc (suc zero)))) l = e
eight_same x y a b c d e f g h (suc (suc (suc (suc (suc zero))))) l = f
eight_same x y a b c d e f g h (suc (suc (suc (suc (suc (suc zero)))))) l = g
eight_same x y a b c d e f g h (suc (suc (suc (suc (suc (suc (suc zero))))))) l = h
eight_same x y a b c d e f g h (suc (suc (suc (suc (suc (suc (suc (suc n)))))))) l = absurd (omega arith)

module _ (s : Settings) (t : State) (room : List ℕ) where
  -- an image's: the mark, K, the version, D
  pub image_first : let x = image_of s t room in
      (get_or x 0 0 ≡ 87) × (get_or x 1 0 ≡ 68) × (get_or x 2 0 ≡ 80) × (get_or x 3 0 ≡ s.slots % 256) × (get_or x 4 0 ≡ 1) × (get_or x 5 0 ≡ 0)
      × (get_or x 6 0 ≡ s.depth % 256) × (get_or x 7 0 ≡ s.depth / 256 % 256)
  unfolding image_of image head numbers
  image_first = (refl, refl, refl, refl, refl, refl, refl, refl)

  module _ (x : List ℕ) (bytes : Bytes x) (long : length x ≡ length (image_of s t room))
      (behind : (i : ℕ) → 8 ≤ i → i < length x → get_or x i 0 ≡ get_or (image_of s t room) i 0) where
    first_eight : FirstWord s x → (i : ℕ) → i < 8 → get_or x i 0 ≡ get_or (image_of s t room) i 0
    unfolding u16 Bytes
    first_eight f =
        let m = image_first in
        let one : get_or x 4 0 ≡ 1 = omega (arith, f.mark.version) in
        let none : get_or x 5 0 ≡ 0 = omega (arith, f.mark.version) in
        let k : get_or x 3 0 ≡ s.slots % 256 = f.slots ∙ sym (mod-eq_of_lt (omega (arith, f.shape.slots, f.slots))) in
        let low : get_or x 6 0 ≡ s.depth % 256 = low_of _ _ _ (bytes 6) f.depth in
        let high : get_or x 7 0 ≡ s.depth / 256 % 256 = high_of _ _ _ (bytes 6) (bytes 7) f.depth in
        eight_same x (image_of s t room) (f.mark.m₀ ∙ sym m.0) (f.mark.m₁ ∙ sym m.1) (f.mark.m₂ ∙ sym m.2) (k ∙ sym m.3)
        (one ∙ sym m.4) (none ∙ sym m.5) (low ∙ sym m.6) (high ∙ sym m.7)

    -- Of the first eight bytes 19 and 20 leave no other value than the image's.
    pub passed_whole : judged (image_lines x) ≡ Ok tt → judged (same_lines s x) ≡ Ok tt → x ≡ image_of s t room
    passed_whole nineteen twenty = ext_get_or 0 x (image_of s t room) long (λ i l. go i (ltb i 8) refl l)
      where
        go : (i : ℕ) (b : Bool) → ltb i 8 ≡ b → i < length x → get_or x i 0 ≡ get_or (image_of s t room) i 0
        go i true e l = first_eight (first_word s x nineteen twenty) i (ltb-true i 8 e)
        go i false e l = behind i (ltb-false i 8 e) l
