-- Words, lowest first, as one whole number. Definitions only.
use Rattle.std.specs.Prelude.{◌≡◌, Bool, true, false, List, [], ◌∷◌, ℕ, zero, suc, ◌+◌, ◌-◌, ◌*◌, ◌/◌, ◌%◌, ◌^◌, ◌≤◌, ◌<◌, get_or, take}

-- the weight of word i
unfoldable pub place : ℕ → ℕ
place zero = 1
place (suc i) = 2 ^ 64 * place i

unfoldable pub number_of : List ℕ → ℕ
number_of [] = 0
number_of (w ∷ ws) = w + 2 ^ 64 * number_of ws

-- the n words of a number, lowest first
unfoldable pub words_of : ℕ → ℕ → List ℕ
words_of zero x = []
words_of (suc n) x = x % 2 ^ 64 ∷ words_of n (x / 2 ^ 64)

-- every one of them is a word
abbrev pub AreWords : List ℕ → Type 0
AreWords ws = (i : ℕ) → get_or ws i 0 < 2 ^ 64

-- ---- what the functions of src/sum.rt and src/nearest.rt promise one another

-- a is b and x more, or x less where `down`, but for what is still to be moved
abbrev pub Moves : Bool → (a rest b x : ℕ) → Type 0
Moves false a rest b x = a + rest ≡ b + x
Moves true a rest b x = a + x ≡ b + rest

-- x more than a, or x less where `down`, in numbers below m: two's complement
unfoldable pub shifted : Bool → ℕ → ℕ → ℕ → ℕ
shifted false m a x = (a + x) % m
shifted true m a x = (a + (m - x % m)) % m

-- of the first n words those up to the highest that is not 0
pub record Top (ws : List ℕ) (n t : ℕ) : Type 0 where
  pub most : t ≤ n
  pub same : number_of (take n ws) ≡ number_of (take t ws)
  pub some : 0 < t → 0 < get_or ws (t - 1) 0
