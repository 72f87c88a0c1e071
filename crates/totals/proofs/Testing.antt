-- What is known after `if !b`. Assumes nothing.
use Rattle.words.specs.Prelude.{◌≡◌, refl, Bool, true, false, not, true≢false, false≢true}

pub not_so : (b : Bool) → not b ≡ true → b ≡ false
not_so true h = absurd (false≢true h)
not_so false h = refl

pub so : (b : Bool) → not b ≡ false → b ≡ true
so true h = refl
so false h = absurd (true≢false h)
