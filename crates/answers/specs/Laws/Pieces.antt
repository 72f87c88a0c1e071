-- Laws of `put`: pieces that are put one after another are one piece.
use Rattle.std.specs.Prelude.{Bool, true, false, cond, ◌≡◌, refl, List, ◌++◌, ℕ, zero, suc, ◌+◌, ◌/◌, ◌≤◌, leb, length, take, drop}
use Rattle.words.specs.Prelude.{sym, ap, ◌∙◌, append_assoc, add-one, arith, le-leb}
use Rattle.words.specs.Prelude.{leb-true, length-append, length-drop, take_at, drop_at, drop-drop, length-take-le}
use Rattle.answers.specs.{Text.put, Text.next, Text.last_digits}
use Rattle.std.proofs.Math.Path.{subst⁻¹}

-- the piece fits
pub next_fits : (room : List ℕ) (at : ℕ) (s : List ℕ) → at + length s ≤ length room → next room at s ≡ at + length s
unfolding next
next_fits room at s h = let e : leb (at + length s) (length room) ≡ true = le-leb _ _ h in rw e

pub put_fits : (room : List ℕ) (at : ℕ) (s : List ℕ) → at + length s ≤ length room → put room at s ≡ take at room ++ s ++ drop (at + length s) room
unfolding put
put_fits room at s h = let e : leb (at + length s) (length room) ≡ true = le-leb _ _ h in rw e

-- a room keeps its length
pub length-put : (room : List ℕ) (at : ℕ) (s : List ℕ) → length (put room at s) ≡ length room
unfolding put
length-put room at s = go (leb (at + length s) (length room)) refl
  where
    go : (b : Bool) → leb (at + length s) (length room) ≡ b → length (cond b (take at room ++ s ++ drop (at + length s) room) room) ≡ length room
    go false e = refl
    go true e =
        let h : at + length s ≤ length room = leb-true (at + length s) (length room) e in
        let i : at ≤ length room = omega arith in
        simp (length-append, length-take-le at room i, length-drop) (omega arith)

-- two pieces, one after the other
pub put-put : (room : List ℕ) (at : ℕ) (a b : List ℕ) → at + length a + length b ≤ length room
    → put (put room at a) (at + length a) b ≡ put room at (a ++ b)
put-put room at a b h =
    let ha : at + length a ≤ length room = omega arith in
    let i : at ≤ length room = omega arith in
    let front : List ℕ = take at room ++ a in
    let l : length front ≡ at + length a = length-append (take at room) a ∙ ap (λ (n : ℕ). n + length a) (length-take-le at room i) in
    let all : List ℕ = front ++ drop (at + length a) room in
    let m : at + length a + length b ≤ length all =
    subst⁻¹ (λ (n : ℕ). at + length a + length b ≤ n) (length-append front (drop (at + length a) room)) (simp length-drop (omega arith)) in
    let e : at + length a + length b ≡ at + length (a ++ b) = omega (arith, length-append a b) in
    ap (λ (r : List ℕ). put r (at + length a) b) (put_fits room at a ha)
    ∙ put_fits all (at + length a) b m
    ∙ ap (λ (r : List ℕ). r ++ b ++ drop (at + length a + length b) all) (take_at front (drop (at + length a) room) (at + length a) l)
    ∙ ap (λ (r : List ℕ). front ++ b ++ r)
    (sym (drop-drop (length b) (at + length a) all)
    ∙ ap (λ (r : List ℕ). drop (length b) r) (drop_at front (drop (at + length a) room) (at + length a) l)
    ∙ drop-drop (length b) (at + length a) room)
    ∙ ap (λ (r : List ℕ). r ++ drop (at + length a + length b) room) (append_assoc (take at room) a b)
    ∙ ap (λ (n : ℕ). take at room ++ (a ++ b) ++ drop n room) e
    ∙ sym (put_fits room at (a ++ b) (omega arith))

-- a number's digits
pub length_digits : (base k n : ℕ) → length (last_digits base k n) ≡ k
length_digits base zero n = refl
length_digits base (suc k) n = length-append (last_digits base k (n / base)) _ ∙ rw (length_digits base k (n / base)) (add-one k)
