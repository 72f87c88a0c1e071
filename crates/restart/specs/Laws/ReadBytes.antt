-- The bytes of a number that bytes say are these bytes.
use Rattle.std.specs.Prelude.{ℕ, zero, suc, ◌+◌, ◌<◌, ◌≡◌, refl, List, [], ◌∷◌, ◌++◌, get_or}
use Rattle.words.specs.Prelude.{ap, ◌∙◌, arith}
use Rattle.table.specs.{Bytes.u16, Bytes.u32, Bytes.u64, Bytes.Bytes}
use Rattle.steps.specs.{Bytes.four, Bytes.eight}
use Rattle.heads.specs.{Laws.Packed.halves, Laws.Packed.joined}

module _ (x : List ℕ) (bytes : Bytes x) (at : ℕ) where
  four_read : four (u32 x at) ≡ get_or x at 0 ∷ get_or x (at + 1) 0 ∷ get_or x (at + 2) 0 ∷ get_or x (at + 2 + 1) 0 ∷ []
  unfolding u16 u32 Bytes
  four_read =
      joined (u32 x at) (get_or x at 0) (get_or x (at + 1) 0) (get_or x (at + 2) 0) (get_or x (at + 2 + 1) 0) (bytes at) (bytes (at + 1)) (bytes (at + 2))
      (bytes (at + 2 + 1)) (omega arith)

  pub four_small : u32 x at < 4294967296
  unfolding u16 u32 Bytes
  four_small = omega (arith, bytes at, bytes (at + 1), bytes (at + 2), bytes (at + 2 + 1))

  pub two_small : u16 x at < 65536
  unfolding u16 Bytes
  two_small = omega (arith, bytes at, bytes (at + 1))

module _ (x : List ℕ) (bytes : Bytes x) where
  eight_read : (at : ℕ) → eight (u64 x at)
      ≡ get_or x at 0 ∷ get_or x (at + 1) 0 ∷ get_or x (at + 2) 0 ∷ get_or x (at + 2 + 1) 0
      ∷ get_or x (at + 4) 0 ∷ get_or x (at + 4 + 1) 0 ∷ get_or x (at + 4 + 2) 0 ∷ get_or x (at + 4 + 2 + 1) 0 ∷ []
  unfolding u64
  eight_read at =
      halves (u32 x at) (u32 x (at + 4)) (u64 x at) (four_small x bytes at) refl
      ∙ ap (λ (l : List ℕ). l ++ four (u32 x (at + 4))) (four_read x bytes at)
      ∙ ap (λ (l : List ℕ). get_or x at 0 ∷ get_or x (at + 1) 0 ∷ get_or x (at + 2) 0 ∷ get_or x (at + 2 + 1) 0 ∷ l) (four_read x bytes (at + 4))

  -- byte k of the word at a place
  pub byte_read : (at k p : ℕ) → k < 8 → p ≡ at + k → get_or (eight (u64 x at)) k 0 ≡ get_or x p 0
  byte_read at k p l e = ap (λ (b : List ℕ). get_or b k 0) (eight_read at) ∙ go k l e
    where
      place : (i : ℕ) → i ≡ p → get_or x i 0 ≡ get_or x p 0
      place i h = ap (λ (j : ℕ). get_or x j 0) h

      go : (k : ℕ) → k < 8 → p ≡ at + k
          → get_or (get_or x at 0 ∷ get_or x (at + 1) 0 ∷ get_or x (at + 2) 0 ∷ get_or x (at + 2 + 1) 0
          ∷ get_or x (at + 4) 0 ∷ get_or x (at + 4 + 1) 0 ∷ get_or x (at + 4 + 2) 0 ∷ get_or x (at + 4 + 2 + 1) 0 ∷ []) k 0
          ≡ get_or x p 0
      go zero l e = place at (omega arith)
      go (suc zero) l e = place (at + 1) (omega arith)
      go (suc (suc zero)) l e = place (at + 2) (omega arith)
      go (suc (suc (suc zero))) l e = place (at + 2 + 1) (omega arith)
      go (suc (suc (suc (suc zero)))) l e = place (at + 4) (omega arith)
      go (suc (suc (suc (suc (suc zero))))) l e = place (at + 4 + 1) (omega arith)
      go (suc (suc (suc (suc (suc (suc zero)))))) l e = place (at + 4 + 2) (omega arith)
      go (suc (suc (suc (suc (suc (suc (suc zero))))))) l e = place (at + 4 + 2 + 1) (omega arith)
      go (suc (suc (suc (suc (suc (suc (suc (suc n)))))))) l e = absurd (omega arith)
