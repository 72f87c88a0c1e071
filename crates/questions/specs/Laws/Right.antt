-- Where all positions are in order, each is.
use Rattle.std.specs.Prelude.{ℕ, ◌<◌, ◌≡◌, refl, Bool, true, false, List}
use Rattle.words.specs.Prelude.{sym, ◌∙◌, true≢false}
use Rattle.rules.specs.{Answers.state_right}
use Rattle.refusals.specs.{Laws.Every.every_no}
use Rattle.questions.specs.{Position.position_at, Position.all_right}

pub each_right : (ps : List ℕ) (n i : ℕ) → i < n → all_right ps n ≡ true → state_right (position_at ps i) ≡ true
unfolding all_right
each_right ps n i l e = go (state_right (position_at ps i)) refl
  where
    go : (b : Bool) → state_right (position_at ps i) ≡ b → state_right (position_at ps i) ≡ true
    go true h = h
    go false h = absurd (true≢false (sym e ∙ every_no (λ k. state_right (position_at ps k)) i h n l))
