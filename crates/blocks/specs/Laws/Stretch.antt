-- What a question that is not refused may rely on, and where none is refused. Assumes nothing.
use Rattle.std.specs.Prelude.{ℕ, ◌+◌, ◌-◌, ◌*◌, ◌/◌, ◌<◌, ◌≤◌, ◌≡◌, refl, Bool, true, false, ◌&&◌, List, ltb, leb, length, Ok}
use Rattle.words.specs.Prelude.{false≢true, leb-true, ltb-true, le-leb, lt-ltb}
use Rattle.words.specs.Prelude.{arith}
use Rattle.words.specs.{Limits.most_count}
use Rattle.blocks.specs.{Reads.reads, Reads.told, Stretch.holds, Stretch.exists, Stretch.stretched}

-- three tests that all hold
all_three : (x y z : Bool) → x && (y && z) ≡ true → (x ≡ true) × (y ≡ true) × (z ≡ true)
all_three true true true e = (refl, refl, refl)
all_three true true false e = absurd (false≢true e)
all_three true false z e = absurd (false≢true e)
all_three false y z e = absurd (false≢true e)

module _ (held : ℕ) (closes blocks : List ℕ) (e : holds held closes blocks ≡ true) where
  pub counted : held ≤ most_count
  counted = leb-true held most_count (all_three (leb held most_count) (leb held (length closes)) _ e).0

  pub closes_held : held ≤ length closes
  closes_held = leb-true held (length closes) (all_three (leb held most_count) (leb held (length closes)) _ e).1

module _ (held first last : ℕ) (e : exists held first last ≡ true) where
  pub in_order : first ≤ last
  in_order = leb-true first last (all_three (leb first last) (ltb first held) (ltb last held) e).0

  pub last_held : last < held
  last_held = ltb-true last held (all_three (leb first last) (ltb first held) (ltb last held) e).2

-- rooms that hold their bars answer a question over some of them
pub answers : (held first last : ℕ) (closes blocks : List ℕ) → held ≤ most_count → held ≤ length closes
    → 4 * ((held + 64 - 1) / 64) ≤ length blocks → first ≤ last → last < held
    → stretched held first last closes blocks ≡ Ok (told closes blocks (reads first (last + 1 - first)))
unfolding stretched
answers held first last closes blocks p q r h l =
    let begins : first < held = omega arith in
    simp (le-leb held most_count p, le-leb held (length closes) q, le-leb _ _ r, le-leb first last h, lt-ltb first held begins, lt-ltb last held l)
