-- A node that is written in a table stands there, and what is written after it stands after it.
-- Assumes nothing.
use Rattle.std.specs.Prelude.{◌≡◌, List, ◌++◌, ℕ, ◌+◌, ◌*◌, ◌/◌, ◌%◌, length, get_or, drop}
use Rattle.words.specs.Prelude.{sym, ◌∙◌, ap, arith, get_or-drop, drop-drop, drop_at}
use Rattle.table.specs.{Bytes.u16, Bytes.u32, Bytes.u64, Nodes.node_at, Writing.le16, Writing.le32, Writing.le64, Writing.node}
use Rattle.roundtrip.specs.{Laws.WrittenForest.nd}

-- the bytes of the nodes from node i on
abbrev pub From : List ℕ → ℕ → List ℕ → Type 0
From t i l = drop (16 + 16 * i) t ≡ l

pub pair : (x : ℕ) → x % 256 + 256 * (x / 256) ≡ x
pair x = omega arith

four : (x : ℕ) → x % 65536 + 65536 * (x / 65536) ≡ x
four x = omega arith

eight : (x : ℕ) → x % 4294967296 + 4294967296 * (x / 4294967296) ≡ x
eight x = omega arith

module _ (t : List ℕ) (i : ℕ) (l : List ℕ) (h : From t i l) where
  byte_at : (j : ℕ) → get_or t (16 + 16 * i + j) 0 ≡ get_or l j 0
  byte_at j = sym (get_or-drop (16 + 16 * i) t j 0) ∙ ap (λ (r : List ℕ). get_or r j 0) h

  u16_at : (j : ℕ) → u16 t (16 + 16 * i + j) ≡ get_or l j 0 + 256 * get_or l (j + 1) 0
  unfolding u16
  u16_at j =
      let place : 16 + 16 * i + j + 1 ≡ 16 + 16 * i + (j + 1) = omega arith in
      rw (place, byte_at j, byte_at (j + 1))

  u32_at : (j : ℕ) → u32 t (16 + 16 * i + j) ≡ get_or l j 0 + 256 * get_or l (j + 1) 0 + 65536 * (get_or l (j + 2) 0 + 256 * get_or l (j + 2 + 1) 0)
  unfolding u32
  u32_at j =
      let place : 16 + 16 * i + j + 2 ≡ 16 + 16 * i + (j + 2) = omega arith in
      rw (place, u16_at j, u16_at (j + 2))

module _ (t : List ℕ) (i kind selector children n constant : ℕ) (l : List ℕ) (h : From t i (node kind selector children n constant ++ l)) where
  children_there : u16 t (16 + 16 * i + 2) ≡ children
  unfolding node le16
  children_there = u16_at t i _ h 2 ∙ pair children

  n_there : u32 t (16 + 16 * i + 4) ≡ n
  unfolding node le16 le32
  n_there = u32_at t i _ h 4 ∙ rw (pair (n % 65536), pair (n / 65536)) (four n)

  low_there : u32 t (16 + 16 * i + 8) ≡ constant % 4294967296
  unfolding node le16 le32 le64
  low_there = u32_at t i _ h 8 ∙ rw (pair (constant % 4294967296 % 65536), pair (constant % 4294967296 / 65536)) (four (constant % 4294967296))

  high_there : u32 t (16 + 16 * i + 12) ≡ constant / 4294967296
  unfolding node le16 le32 le64
  high_there = u32_at t i _ h 12 ∙ rw (pair (constant / 4294967296 % 65536), pair (constant / 4294967296 / 65536)) (four (constant / 4294967296))

  pub node_there : node_at t i ≡ nd i kind selector children n constant
  unfolding node_at u64 node
  node_there =
      let k : get_or t (16 + 16 * i) 0 ≡ kind = ap (λ (j : ℕ). get_or t j 0) (omega arith) ∙ byte_at t i _ h 0 in
      let s : get_or t (17 + 16 * i) 0 ≡ selector = ap (λ (j : ℕ). get_or t j 0) (omega arith) ∙ byte_at t i _ h 1 in
      let c : u16 t (18 + 16 * i) ≡ children = ap (u16 t) (omega arith) ∙ children_there in
      let m : u32 t (20 + 16 * i) ≡ n = ap (u32 t) (omega arith) ∙ n_there in
      let lo : u32 t (24 + 16 * i) ≡ constant % 4294967296 = ap (u32 t) (omega arith) ∙ low_there in
      let hi : u32 t (24 + 16 * i + 4) ≡ constant / 4294967296 = ap (u32 t) (omega arith) ∙ high_there in
      let x : u32 t (24 + 16 * i) + 4294967296 * u32 t (24 + 16 * i + 4) ≡ constant = rw (lo, hi) (eight constant) in
      cc (k, s, c, m, x)

  pub nodes_after : From t (i + 1) l
  unfolding node le16 le32 le64
  nodes_after =
      let place : 16 + 16 * (i + 1) ≡ 16 + 16 * i + 16 = omega arith in
      ap (λ (j : ℕ). drop j t) place ∙ sym (drop-drop 16 (16 + 16 * i) t) ∙ ap (drop 16) h

-- past bytes of m nodes
pub from_past : (t : List ℕ) (i m : ℕ) (p l : List ℕ) → length p ≡ 16 * m → From t i (p ++ l) → From t (i + m) l
from_past t i m p l long h =
    let place : 16 + 16 * (i + m) ≡ 16 + 16 * i + 16 * m = omega arith in
    ap (λ (j : ℕ). drop j t) place ∙ sym (drop-drop (16 * m) (16 + 16 * i) t) ∙ ap (drop (16 * m)) h ∙ drop_at p l (16 * m) long
