-- The last equity point after finish: on the words that a room holds, behind them, and on points.
use Rattle.std.specs.Prelude.{ℕ, suc, ◌+◌, ◌-◌, ◌*◌, ◌≡◌, refl, Bool, true, false, cond, List, [], ◌∷◌, ltb, Float, length, take, drop, set, None, Option, Some}
use Rattle.words.specs.Prelude.{flat_map}
use Rattle.words.specs.Prelude.{ap, arith, ltb-true, lt-ltb}
use Rattle.words.specs.Prelude.{length-set}
use Rattle.floats.specs.{Floats.word_of}
use Rattle.engine.specs.{Books.Point, Books.words_of_point, Books.last_becomes, Finish.remarked, Whole.end_points}
use Rattle.std.proofs.Math.Seq.{take-set-lt}
use Rattle.std.proofs.Common.{drop-set-lt}
use Rattle.words.specs.Limits as Limits
use Rattle.portfolio.specs.{declared.Closed.Closed}

-- ---- a word stored in the last of n points, where there is one

abbrev last_word : ℕ → ℕ
last_word n = (n - 1) * Limits.point_words + 1

abbrev stored : List ℕ → ℕ → ℕ → List ℕ
stored room n w = cond (ltb 0 n) (set room (last_word n) w) room

module _ (room : List ℕ) (n w : ℕ) where
  stored-length : length (stored room n w) ≡ length room
  stored-length = go (ltb 0 n)
    where
      go : (b : Bool) → length (cond b (set room (last_word n) w) room) ≡ length room
      go true = length-set room (last_word n) w
      go false = refl

  stored_held : take (n * Limits.point_words) (stored room n w) ≡ stored (take (n * Limits.point_words) room) n w
  stored_held = go (ltb 0 n) refl
    where
      go : (b : Bool) → ltb 0 n ≡ b
          → take (n * Limits.point_words) (cond b (set room (last_word n) w) room)
          ≡ cond b (set (take (n * Limits.point_words) room) (last_word n) w) (take (n * Limits.point_words) room)
      go true e = take-set-lt (n * Limits.point_words) room (last_word n) w (omega (arith, ltb-true 0 n e))
      go false e = refl

  stored_behind : drop (n * Limits.point_words) (stored room n w) ≡ drop (n * Limits.point_words) room
  stored_behind = go (ltb 0 n) refl
    where
      go : (b : Bool) → ltb 0 n ≡ b → drop (n * Limits.point_words) (cond b (set room (last_word n) w) room) ≡ drop (n * Limits.point_words) room
      go true e = drop-set-lt (n * Limits.point_words) room (last_word n) w (omega (arith, ltb-true 0 n e))
      go false e = refl

-- in the words of points
stored_points : (ps : List Point) (e : Float) → stored (flat_map words_of_point ps) (length ps) (word_of e) ≡ flat_map words_of_point (last_becomes ps e)
unfolding flat_map words_of_point last_becomes
stored_points [] e = refl
stored_points (p ∷ []) e = refl
stored_points (p ∷ (q ∷ ps)) e =
    let n : ℕ = length ps in
    let here : last_word (suc (suc n)) ≡ suc (suc (last_word (suc n))) = omega arith in
    rw (lt-ltb 0 (suc (suc n)) (omega arith), here)
    (ap (λ (ws : List ℕ). p.time ∷ word_of p.equity ∷ ws) (rw (lt-ltb 0 (suc n) (omega arith)) at (stored_points (q ∷ ps) e)))

-- ---- the exit decides

module _ (room : List ℕ) (n : ℕ) (close : Float) where
  -- the room stays as long as it was
  pub remarked-length : (x : Option Closed) → length (remarked room n x close) ≡ length room
  unfolding remarked
  remarked-length None = refl
  remarked-length (Some c) = stored-length room n _

  -- what it holds depends on what it held
  pub remarked_held : (x : Option Closed) → take (n * Limits.point_words) (remarked room n x close) ≡ remarked (take (n * Limits.point_words) room) n x close
  unfolding remarked
  remarked_held None = refl
  remarked_held (Some c) = stored_held room n _

  -- what lies behind is untouched
  pub remarked_behind : (x : Option Closed) → drop (n * Limits.point_words) (remarked room n x close) ≡ drop (n * Limits.point_words) room
  unfolding remarked
  remarked_behind None = refl
  remarked_behind (Some c) = stored_behind room n _

module _ (ps : List Point) (close : Float) where
  pub remarked_points : (x : Option Closed) → remarked (flat_map words_of_point ps) (length ps) x close ≡ flat_map words_of_point (end_points ps x close)
  unfolding remarked end_points
  remarked_points None = refl
  remarked_points (Some c) = stored_points ps _

last_count : (ps : List Point) (e : Float) → length (last_becomes ps e) ≡ length ps
unfolding last_becomes
last_count [] e = refl
last_count (p ∷ []) e = refl
last_count (p ∷ (q ∷ ps)) e = ap suc (last_count (q ∷ ps) e)

pub end_count : (ps : List Point) (x : Option Closed) (close : Float) → length (end_points ps x close) ≡ length ps
unfolding end_points
end_count ps None close = refl
end_count ps (Some c) close = last_count ps _
