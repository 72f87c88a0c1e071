-- The library's `or` of two options, by the cases of the first.
use Rattle.std.specs.Prelude.{Option, ℕ, None, Some}
use Rattle.std.specs.Option.{option_or}
use Rattle.words.specs.Prelude.{◌≡◌, ◌∙◌, refl}
use Rattle.table.specs.{Order.or_place}
use Rattle.table.proofs.places.or_place.Goals as goal

same : (p q : Option ℕ) → option_or p q ≡ or_place p q
unfolding or_place
same None q = refl
same (Some p) q = refl

pub returns : goal.returns
returns c = c.or.ensures ∙ same c.args.p c.args.q
