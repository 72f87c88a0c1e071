-- Which list is run to leave a position. Definitions only.
use Rattle.std.specs.Prelude.{cond, List, [], ℕ, Float}
use Rattle.floats.specs.{Floats.◌≺◌, Floats.zero}
use Rattle.rules.specs.{Values.held}

-- "With a long position the exit steps are handed back, with a short one the short exit steps, from the two lent lists; when flat,
-- the empty start of the exit list."
unfoldable pub exit_list : Float → List ℕ → List ℕ → List ℕ
exit_list qty exit short_exit = cond (held qty) (cond (zero ≺ qty) exit short_exit) []
