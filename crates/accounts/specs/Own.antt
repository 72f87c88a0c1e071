-- The bar that an account is handed: "the bar and the slots are shared", "an account with fewer slots is handed only its own". Definitions only.
use Rattle.std.specs.Prelude.{ℕ, ◌%◌, ◌^◌, cond, List, [], ◌∷◌, ◌++◌, ltb, leb, eqb, length, take, drop}
use Rattle.words.specs.{Limits.bar_words, Limits.row_words, Limits.most_slots, Words.word, Words.overwrite}

-- the lowest K bits of a mask, which has 64
unfoldable pub low_bits : ℕ → ℕ → ℕ
low_bits K mask = cond (ltb K most_slots) (mask % 2 ^ K) mask

-- Of a bar of S slots, for an account of K: time, prices and volume; the mask's bits of slots 0 to K - 1; these slots; the three words of funding, which
-- stand behind all S slots.
unfoldable pub own_bar : ℕ → ℕ → List ℕ → List ℕ
own_bar S K bar = take 6 bar ++ (low_bits K (word bar 6) ∷ []) ++ take K (drop 7 bar) ++ drop (row_words S) bar

-- written to the start of a room; nothing where the words are not a bar of S slots, or the account has more
unfoldable pub own_into : ℕ → ℕ → List ℕ → List ℕ → List ℕ
own_into S K bar room = cond (eqb (length bar) (bar_words S)) (cond (leb K S) (overwrite room 0 (own_bar S K bar)) room) room
