-- An account's own bar: as long as a bar of its slots, and readable from the room that it was written to.
use Rattle.std.specs.Prelude.{ℕ, ◌+◌, ◌≤◌, ◌≡◌, List, ◌++◌, length, take, drop}
use Rattle.words.specs.Prelude.{sym, ◌∙◌, arith, eq-eqb, le-leb}
use Rattle.words.specs.Prelude.{length-append, length-take, length-drop, take_at, drop-append-add, drop-drop}
use Rattle.words.specs.{Laws.Overwrite.overwrite_fits, Laws.Overwrite.overwrite-length, Limits.bar_words, Words.overwrite}
use Rattle.accounts.specs.{Own.own_bar, Own.own_into}

-- words written to the start of a room
pub overwrite_start : (room a : List ℕ) → length a ≤ length room → overwrite room 0 a ≡ a ++ drop (length a) room
overwrite_start room a h = let start : 0 + length a ≡ length a = omega arith in overwrite_fits room 0 a (omega arith) ∙ rw start

-- and more behind them: both at once
pub overwrite_on : (room a b : List ℕ) (n : ℕ) → length a ≡ n → n + length b ≤ length room → overwrite (overwrite room 0 a) n b ≡ overwrite room 0 (a ++ b)
overwrite_on room a b n e h =
    let one : length a ≤ length room = omega arith in
    let both : length (a ++ b) ≤ length room = simp length-append (omega arith) in
    let long : n + length b ≤ length (overwrite room 0 a) = rw overwrite-length h in
    let rest : drop (n + length b) (a ++ drop (length a) room) ≡ drop (length (a ++ b)) room =
    rw (← e, drop-append-add, drop-drop, length-append) in
    overwrite_fits (overwrite room 0 a) n b long
    ∙ (rw (overwrite_start room a one, take_at a (drop (length a) room) n e, rest) (sym (overwrite_start room (a ++ b) both)))

module _ (S K : ℕ) (bar : List ℕ) (whole : length bar ≡ bar_words S) (few : K ≤ S) where
  pub own_length : length (own_bar S K bar) ≡ bar_words K
  unfolding own_bar
  own_length = simp (length-append, length-take, length-drop) (omega arith)

  pub own_front : (room : List ℕ) → bar_words K ≤ length room → take (bar_words K) (own_into S K bar room) ≡ own_bar S K bar
  unfolding own_into
  own_front room h =
      rw (eq-eqb _ _ whole, le-leb _ _ few, overwrite_start room (own_bar S K bar) (omega (arith, own_length)))
      (take_at (own_bar S K bar) _ (bar_words K) own_length)
