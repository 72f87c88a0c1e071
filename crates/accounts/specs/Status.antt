-- The status of an account on the stream. Definitions only.
use Rattle.std.specs.Prelude.{ℕ, Bool, not, List, [], ◌∷◌, eqb}
use Rattle.words.specs.{Words.word, Words.overwrite}

-- a number, a place, a bar of the stream
abbrev pub status_words : ℕ
status_words = 3

-- a number other than 0: the account is stopped
unfoldable pub is_stopped : List ℕ → Bool
is_stopped status = not (eqb (word status 0) 0)

-- "stopped at it, with number and place": and the stream's bar
unfoldable pub stopped_with : List ℕ → ℕ → ℕ → ℕ → List ℕ
stopped_with status number place bar = overwrite status 0 (number ∷ place ∷ bar ∷ [])
