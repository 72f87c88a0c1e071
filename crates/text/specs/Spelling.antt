-- Words as text: a word's 16 hexadecimal digits, and lines of words. Definitions only.
use Rattle.std.specs.Prelude.{ℕ, ◌-◌, ◌^◌, List, [], ◌∷◌, ◌++◌, false}
use Rattle.std.specs.Fmt.{digits, padded_integral, format_spec}

-- what `{:016x}` writes of a word: its digits, with zeros in front up to 16
unfoldable pub spelt : ℕ → List ℕ
spelt word = padded_integral (format_spec 32 0 4 16 (2 ^ 64 - 1)) false [] (digits 16 false word)

-- "Writes the words, a space after each but the last, and after that one the byte `end`."
unfoldable pub spelt_words : List ℕ → ℕ → List ℕ
spelt_words [] end = []
spelt_words (word ∷ []) end = spelt word ++ (end ∷ [])
spelt_words (word ∷ next ∷ rest) end = spelt word ++ (32 ∷ spelt_words (next ∷ rest) end)
