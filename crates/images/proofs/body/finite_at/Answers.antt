-- The word, and whether its float is finite.
use Rattle.words.specs.Prelude.{ℕ, ap, ◌∙◌}
use Rattle.floats.specs.{Floats.finite, Floats.float_of}
use Rattle.images.proofs.body.finite_at.Goals as goal

pub returns : goal.returns
returns c = c.word_is_finite.ensures ∙ ap (λ (w : ℕ). finite (float_of w)) c.word_at.ensures.0
