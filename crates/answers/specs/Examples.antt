-- Worked examples of the definitions.
use Rattle.std.specs.Prelude.{◌≡◌, refl, [], ◌∷◌}
use Rattle.answers.specs.{Text.decimal}

-- `0`, `1234` and the largest word in decimal
counts : (decimal 0 ≡ 48 ∷ []) × (decimal 1234 ≡ 49 ∷ 50 ∷ 51 ∷ 52 ∷ [])
    × (decimal 0xffff_ffff_ffff_ffff ≡ 49 ∷ 56 ∷ 52 ∷ 52 ∷ 54 ∷ 55 ∷ 52 ∷ 52 ∷ 48 ∷ 55 ∷ 51 ∷ 55 ∷ 48 ∷ 57 ∷ 53 ∷ 53 ∷ 49 ∷ 54 ∷ 49 ∷ 53 ∷ [])
unfolding decimal
counts = (refl, refl, refl)
