-- Settings and states are made of their first words alone: lists that agree in these have the same.
use Rattle.std.specs.Prelude.{ℕ, zero, suc, ◌+◌, ◌<◌, ◌≤◌, ◌≡◌, refl, Bool, cond, List, [], ◌∷◌, ◌++◌, length, drop, replicate}
use Rattle.words.specs.Prelude.{ap, ◌∙◌, append-nil, zero-add, arith, le-leb}
use Rattle.words.specs.Prelude.{length-replicate}
use Rattle.words.specs.{Limits.setting_words, Limits.state_words, Words.word, Words.overwrite}
use Rattle.records.specs.{Settings.settings_of, Settings.terms_of, Settings.risk_of, Settings.entries_of, StateWords.state_of, StateWords.counts_of}
use Rattle.records.specs.{StateWords.position_of, StateWords.portfolio_of}

-- two lists with the same first n words
abbrev pub Agree : ℕ → List ℕ → List ℕ → Type 0
Agree n a b = (i : ℕ) → i < n → word a i ≡ word b i

-- zeros behind a list are what a reader finds past its end
zeros_behind : (n : ℕ) (ws : List ℕ) (i : ℕ) → word (ws ++ drop (length ws) (replicate n 0)) i ≡ word ws i
zeros_behind zero [] i = refl
zeros_behind (suc n) [] zero = refl
zeros_behind (suc n) [] (suc i) = zeros_behind n [] i
zeros_behind n (w ∷ ws) zero = refl
zeros_behind zero (w ∷ ws) (suc i) = ap (λ (l : List ℕ). word l i) (append-nil ws)
zeros_behind (suc n) (w ∷ ws) (suc i) = zeros_behind n ws i

-- a short list written over zeros
pub padded_agree : (n : ℕ) (ws : List ℕ) → length ws ≤ n → Agree n (overwrite (replicate n 0) 0 ws) ws
unfolding overwrite
padded_agree n ws short i h =
    rw (zero-add (length ws), length-replicate {A = ℕ} n 0)
    (ap (λ (b : Bool). word (cond b (ws ++ drop (length ws) (replicate n 0)) (replicate n 0)) i) (le-leb _ _ short) ∙ zeros_behind n ws i)

-- the n words from word i on
unfoldable next_words : ℕ → ℕ → List ℕ → List ℕ
next_words zero i ws = []
next_words (suc n) i ws = word ws i ∷ next_words n (i + 1) ws

same_words : (n i : ℕ) (a b : List ℕ) → ((j : ℕ) → i ≤ j → j < i + n → word a j ≡ word b j) → next_words n i a ≡ next_words n i b
unfolding next_words
same_words zero i a b same = refl
same_words (suc n) i a b same =
    rw (same i (omega arith) (omega arith), same_words n (i + 1) a b (λ j low high. same j (omega arith) (omega arith)))

-- settings are made of 32 words
pub settings_agree : (a b : List ℕ) → Agree setting_words a b → settings_of a ≡ settings_of b
unfolding settings_of terms_of risk_of entries_of next_words
settings_agree a b same = ap settings_of (same_words setting_words 0 a b (λ j low high. same j (omega arith)))

-- a state is made of 22 words
pub state_agree : (a b : List ℕ) → Agree state_words a b → state_of a ≡ state_of b
unfolding state_of counts_of position_of portfolio_of next_words
state_agree a b same = ap state_of (same_words state_words 0 a b (λ j low high. same j (omega arith)))
