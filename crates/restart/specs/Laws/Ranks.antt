-- The order of writing: which byte of it stands at a place, and that the mark's last byte is the last.
use Rattle.std.specs.Prelude.{ℕ, ◌+◌, ◌-◌, ◌≤◌, ◌<◌, ◌≡◌, refl, Bool, true, false, cond, ltb}
use Rattle.words.specs.Prelude.{arith, lt-ltb, le-ltb, ltb-true, ltb-false}
use Rattle.dump.specs.{Order.place_of}

-- no byte of the order but the last goes to place 2
pub mark_last : (size n : ℕ) → 256 ≤ size → n + 1 < size → place_of size n ≡ 2 → ⊥
unfolding place_of
mark_last size n big l = go (ltb n (size - 256)) (ltb n (size - 3)) refl refl
  where
    go : (a b : Bool) → ltb n (size - 256) ≡ a → ltb n (size - 3) ≡ b
        → cond a (256 + n) (cond b (3 + (n - (size - 256))) (n - (size - 3))) ≡ 2 → ⊥
    go true b e f h = omega arith
    go false true e f h = omega arith
    go false false e f h = omega (arith, ltb-false n (size - 3) f)

-- and that one does
pub mark_at : (size : ℕ) → 256 ≤ size → place_of size (size - 1) ≡ 2
unfolding place_of
mark_at size big = rw (le-ltb (size - 1) (size - 256) (omega arith), le-ltb (size - 1) (size - 3) (omega arith)) (omega arith)

-- the byte of the order that stands at place q
pub record Rank (size q : ℕ) : Type 0 where
  pub rank : ℕ
  pub low : rank < size
  pub place : place_of size rank ≡ q

pub ranked : (size q : ℕ) → 256 ≤ size → q < size → Rank size q
unfolding place_of
ranked size q big l = go (ltb q 3) (ltb q 256) refl refl
  where
    go : (a b : Bool) → ltb q 3 ≡ a → ltb q 256 ≡ b → Rank size q
    go true b e f =
        let h : q < 3 = ltb-true q 3 e in
        let u : size - 256 ≤ size - 3 + q = omega arith in
        let v : size - 3 ≤ size - 3 + q = omega arith in
        record { rank = size - 3 + q; low = omega arith; place = rw (le-ltb _ _ u, le-ltb _ _ v) (omega arith) }
    go false true e f =
        let g : 3 ≤ q = ltb-false q 3 e in
        let h : q < 256 = ltb-true q 256 f in
        let u : size - 256 ≤ size - 256 + (q - 3) = omega arith in
        let v : size - 256 + (q - 3) < size - 3 = omega arith in
        record { rank = size - 256 + (q - 3); low = omega arith; place = rw (le-ltb _ _ u, lt-ltb _ _ v) (omega arith) }
    go false false e f =
        let h : 256 ≤ q = ltb-false q 256 f in
        let u : q - 256 < size - 256 = omega arith in
        record { rank = q - 256; low = omega arith; place = rw (lt-ltb _ _ u) (omega arith) }
