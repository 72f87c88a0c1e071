-- Two parts of a list, each turned round, and then both as one. Assumes nothing.
use Rattle.words.specs.Prelude.{ℕ, ◌+◌, ◌-◌, ◌≤◌, ◌≡◌, sym, ap, ◌∙◌, List, ◌++◌, append_assoc, reverse, arith, sub-zero, length, take, drop, length-append}
use Rattle.words.specs.Prelude.{length-drop, length-reverse, take-append-drop, take_at, drop_at, drop-drop, length-take-le}
use mathlib.Core.List.{reverse-append, reverse-reverse}

module _ (room : List ℕ) (at end : ℕ) (order : at ≤ end) (fits : end ≤ length room) where
  A : List ℕ
  A = take at room

  B : List ℕ
  B = take (end - at) (drop at room)

  R : List ℕ
  R = drop end room

  long_a : length A ≡ at
  unfolding A
  long_a = length-take-le at room (omega arith)

  long_b : length B ≡ end - at
  unfolding B
  long_b = length-take-le (end - at) (drop at room) (rw length-drop (omega arith))

  after : drop at room ≡ B ++ R
  unfolding B R
  after =
      let whole : at + (end - at) ≡ end = omega arith in
      sym (take-append-drop (end - at) (drop at room))
      ∙ ap (λ (l : List ℕ). take (end - at) (drop at room) ++ l) (drop-drop (end - at) at room ∙ ap (λ (n : ℕ). drop n room) whole)

  parts : room ≡ A ++ B ++ R
  unfolding A
  parts = sym (take-append-drop at room) ∙ ap (λ (l : List ℕ). take at room ++ l) after ∙ sym (append_assoc (take at room) B R)

  -- the list with a part of it that starts at `a` and is k long put anew
  abbrev put : ℕ → ℕ → List ℕ → List ℕ → List ℕ
  put a k l part = take a l ++ (part ++ drop k (drop a l))

  pub places_changed : (x y z : List ℕ) → x ≡ reverse (take (at - 0) room) → y ≡ reverse (take (end - at) (drop at (x ++ drop (at - 0) room)))
      → z ≡ reverse (take (end - 0) (put at (end - at) (x ++ drop (at - 0) room) y))
      → z ++ drop (end - 0) (put at (end - at) (x ++ drop (at - 0) room) y) ≡ drop at (take end room) ++ take at (take end room) ++ drop end room
  unfolding A R
  places_changed x y z ex ey ez =
      let turned-A : x ≡ reverse A = ex ∙ ap (λ (n : ℕ). reverse (take n room)) (sub-zero at) in
      let long-x : length x ≡ at = ap length turned-A ∙ length-reverse A ∙ long_a in
      let one : x ++ drop (at - 0) room ≡ x ++ (B ++ R) = ap (λ (l : List ℕ). x ++ l) (ap (λ (n : ℕ). drop n room) (sub-zero at) ∙ after) in
      let behind : drop at (x ++ drop (at - 0) room) ≡ B ++ R = ap (drop at) one ∙ drop_at x (B ++ R) at long-x in
      let turned-B : y ≡ reverse B = ey ∙ rw (behind, take_at B R (end - at) long_b) in
      let long-y : length y ≡ end - at = ap length turned-B ∙ length-reverse B ∙ long_b in
      let two : put at (end - at) (x ++ drop (at - 0) room) y ≡ (x ++ y) ++ R =
      rw (behind, drop_at B R (end - at) long_b, one, take_at x (B ++ R) at long-x) (sym (append_assoc x y R)) in
      let long : length (x ++ y) ≡ end = length-append x y ∙ omega arith in
      let turned-both : z ≡ B ++ A =
      ez ∙ rw (two, sub-zero end, take_at (x ++ y) R end long, reverse-append x y, turned-A, turned-B, reverse-reverse B, reverse-reverse A) in
      let front : take end room ≡ A ++ B =
      ap (take end) parts ∙ take_at (A ++ B) R end (length-append A B ∙ omega (arith, long_a, long_b)) in
      rw (two, sub-zero end, drop_at (x ++ y) R end long, turned-both, front, drop_at A B at long_a, take_at A B at long_a)
