-- Closes that are numbers, in their order: below, twice, is below; not below, twice, is not below. Assumes nothing.
use Rattle.std.specs.Prelude.{ℕ, ◌≡◌, refl, Bool, true, false, Float}
use Rattle.words.specs.Prelude.{sym, ◌∙◌, true≢false, le}
use Rattle.floats.specs.{Floats.◌≺◌, Floats.◌≼◌, Floats.float_of, Laws.Order.not-below, Laws.Order.not_above, Laws.Order.in_turn, Laws.Order.itself}
use Rattle.blocks.specs.{Reading.below, Reading.Number}

-- what is below is at most
at_most : (x y : Float) → x ≺ y ≡ true → x ≼ y ≡ true
unfolding le
at_most x y e = simp e

pub not_itself : (a : ℕ) → Number a → below a a ≡ false
not_itself a p = not_above (float_of a) (float_of a) (itself (float_of a) p)

module _ (a b c : ℕ) (p : Number a) (q : Number b) (r : Number c) where
  pub not_twice : below a b ≡ false → below b c ≡ false → below a c ≡ false
  not_twice f g =
      not_above (float_of c) (float_of a)
      (in_turn (float_of c) (float_of b) (float_of a) (not-below (float_of c) (float_of b) r q g) (not-below (float_of b) (float_of a) q p f))

  pub twice : below a b ≡ true → below b c ≡ true → below a c ≡ true
  twice f g = go (below a c) refl
    where
      go : (t : Bool) → below a c ≡ t → t ≡ true
      go true e = refl
      go false e =
          absurd (true≢false (sym f ∙ not_above (float_of b) (float_of a)
          (in_turn (float_of b) (float_of c) (float_of a) (at_most (float_of b) (float_of c) g) (not-below (float_of c) (float_of a) r p e))))
