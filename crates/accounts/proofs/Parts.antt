-- The parts of an account's own bar, written one behind another, are the bar.
use Rattle.words.specs.Prelude.{ℕ, ◌+◌, ◌≤◌, ◌≡◌, ◌∙◌, List, [], ◌∷◌, ◌++◌, arith, length, take, drop, length-append, length-drop, length-take-le}
use Rattle.words.specs.{Limits.bar_words, Limits.row_words, Words.word, Words.overwrite}
use Rattle.accounts.specs.{Laws.Own.overwrite_on, Own.low_bits, Own.own_bar}

module _ (S K : ℕ) (bar room : List ℕ) (whole : length bar ≡ bar_words S) (few : K ≤ S) (fits : bar_words K ≤ length room) where
  pub prices_long : length (take 6 bar) ≡ 6
  prices_long = length-take-le 6 bar (omega arith)

  pub own_written : {m : ℕ} {slots funding after₁ after₂ after₃ after₄ : List ℕ} → m ≡ low_bits K (word bar 6) → slots ≡ take K (drop 7 bar)
      → funding ≡ drop (row_words S) bar
      → after₁ ≡ overwrite room 0 (take 6 bar) → after₂ ≡ overwrite after₁ 6 (m ∷ []) → after₃ ≡ overwrite after₂ 7 slots
      → after₄ ≡ overwrite after₃ (7 + K) funding → after₄ ≡ overwrite room 0 (own_bar S K bar)
  unfolding own_bar
  own_written {m} {slots} {funding} mask own paid e₁ e₂ e₃ e₄ =
      let a : List ℕ = take 6 bar in
      let long-slots : length slots ≡ K = rw own (length-take-le K (drop 7 bar) (omega (arith, length-drop 7 bar))) in
      let long-funding : length funding ≡ 3 = rw (paid, length-drop) (omega arith) in
      let two : length (a ++ (m ∷ [])) ≡ 7 = rw (length-append, prices_long) in
      let three : length (a ++ (m ∷ []) ++ slots) ≡ 7 + K = rw (length-append, two, long-slots) in
      e₄ ∙ rw (
        e₃,
        e₂,
        e₁,
        overwrite_on room a (m ∷ []) 6 prices_long (omega arith),
        overwrite_on room (a ++ (m ∷ [])) slots 7 two (omega arith),
        overwrite_on room (a ++ (m ∷ []) ++ slots) funding (7 + K) three (omega arith),
        mask,
        own,
        paid,
      )
