-- Of what a question reads: it is a walk that takes a block wherever one begins and fits, and else one close; it is little; and no bar is read
-- twice. Assumes nothing.
use Rattle.std.specs.Prelude.{ℕ, zero, suc, ◌+◌, ◌-◌, ◌*◌, ◌/◌, ◌%◌, ◌<◌, ◌≤◌, ◌≡◌, refl, Bool, true, false, ◌&&◌, List, [], ◌∷◌, ◌++◌, leb, eqb, get_or}
use Rattle.words.specs.Prelude.{sym, ap, ◌∙◌, false≢true}
use Rattle.words.specs.Prelude.{append_assoc, append-nil, add-zero, add-suc, arith, add-one, eqb-true, eqb-false, leb-true, eq-eqb, le-leb}
use Rattle.blocks.specs.{declared.best.Best.Best, Reading.one, Reading.join, Blocks.block_bars, Blocks.block, Blocks.with_closes, Blocks.with_blocks}
use Rattle.blocks.specs.{Reads.Read, Reads.single, Reads.whole, Reads.several, Reads.singles, Reads.wholes, Reads.front, Reads.reads, Reads.begins_block}
use Rattle.blocks.specs.{Reads.best}
use Rattle.blocks.specs.{Reads.onto, Reads.closes_read, Reads.blocks_read, Reads.bars, Reads.bars_read, Reads.Little}

-- ---- a block that begins at a bar and fits

and_parts : (x y : Bool) → x && y ≡ true → (x ≡ true) × (y ≡ true)
and_parts true true e = (refl, refl)
and_parts true false e = absurd (false≢true e)
and_parts false y e = absurd (false≢true e)

pub block_begins : (bar n : ℕ) → begins_block bar n ≡ true → bar % block_bars ≡ 0
block_begins bar n e = eqb-true (bar % 64) 0 (and_parts (eqb (bar % 64) 0) (leb 64 n) e).0

pub block_fits : (bar n : ℕ) → begins_block bar n ≡ true → block_bars ≤ n
block_fits bar n e = leb-true 64 n (and_parts (eqb (bar % 64) 0) (leb 64 n) e).1

no_block : (bar n : ℕ) → begins_block bar n ≡ false → block_bars ≤ n → bar % block_bars ≡ 0 → ⊥
no_block bar n e l z = false≢true (sym e ∙ simp (eq-eqb (bar % 64) 0 z, le-leb 64 n l))

-- ---- the first of several

next : (x y : ℕ) → x + suc y ≡ suc x + y
next x y = omega arith

several_first : (kind : ℕ → Read) (at n : ℕ) → several kind at (suc n) ≡ kind at ∷ several kind (suc at) n
unfolding several
several_first kind at zero = ap (λ (i : ℕ). kind i ∷ []) (add-zero at)
several_first kind at (suc n) =
    ap (λ (rs : List Read). rs ++ (kind (at + suc n) ∷ [])) (several_first kind at n)
    ∙ ap (λ (i : ℕ). kind at ∷ (several kind (suc at) n ++ (kind i ∷ []))) (next at n)

-- the three parts, by how many each has
abbrev parts : ℕ → ℕ → ℕ → ℕ → ℕ → ℕ → List Read
parts first before j many end after = singles first before ++ wholes j many ++ singles end after

-- reads, where it is known how many stand in front and how many blocks follow
reads_are : (first n f m j end after : ℕ) → front first n ≡ f → (n - f) / block_bars ≡ m → (first + f) / block_bars ≡ j → first + f + block_bars * m ≡ end
    → first + n - end ≡ after → reads first n ≡ parts first f j m end after
unfolding reads
reads_are first n f m j end after p q r s t = rw (p, q, r, s, t) refl

-- none in front
no_front : (first j m end after : ℕ) → parts first 0 j m end after ≡ wholes j m ++ singles end after
unfolding several
no_front first j m end after = refl

-- one close in front, then the rest
front_first : (first f j m end after : ℕ) → parts first (suc f) j m end after ≡ single first ∷ parts (suc first) f j m end after
front_first first f j m end after = ap (λ (rs : List Read). rs ++ wholes j m ++ singles end after) (several_first single first f)

-- "whole blocks where it can": a block where one begins and fits, and then the rest ..
pub reads-block : (first n : ℕ) → begins_block first n ≡ true → reads first n ≡ whole (first / block_bars) ∷ reads (first + block_bars) (n - block_bars)
reads-block first n e =
    let begins = block_begins first n e in
    let fits = block_fits first n e in
    let j = first / 64 in
    let many = (n - 64) / 64 in
    let end = first + 64 + 64 * many in
    let after = first + n - end in
    let all = reads_are first n 0 (suc many) j end after (omega arith) (omega arith) (omega arith) (omega arith) refl in
    let rest = reads_are (first + 64) (n - 64) 0 many (suc j) end after (omega arith) (omega arith) (omega arith) (omega arith) (omega arith) in
    all ∙ no_front first j (suc many) end after ∙ ap (λ (rs : List Read). rs ++ singles end after) (several_first whole j many)
    ∙ ap (λ (rs : List Read). whole j ∷ rs) (sym (rest ∙ no_front (first + 64) (suc j) many end after))

-- .. and else a single bar, and then the rest
pub reads_close : (first n : ℕ) → 0 < n → begins_block first n ≡ false → reads first n ≡ single first ∷ reads (first + 1) (n - 1)
unfolding several
reads_close first n some e = go (eqb (first % 64) 0) refl
  where
    under : (x : ℕ) → (64 ≤ x → ⊥) → x < 64
    under x m = omega arith

    one_more : (x y : ℕ) → 0 < y → (x % 64 ≡ 0 → ⊥) → front x y ≡ suc (front (x + 1) (y - 1))
    one_more x y l m = omega arith

    as_many : (y f : ℕ) → (y - suc f) / 64 ≡ (y - 1 - f) / 64
    as_many y f = omega arith

    same_block : (x f : ℕ) → (x + suc f) / 64 ≡ (x + 1 + f) / 64
    same_block x f = omega arith

    same_end : (x f c : ℕ) → x + suc f + c ≡ x + 1 + f + c
    same_end x f c = omega arith

    as_long : (x y e : ℕ) → 0 < y → x + 1 + (y - 1) - e ≡ x + y - e
    as_long x y e l = omega arith

    -- a block begins here, and the bars end before it does
    short : first % 64 ≡ 0 → reads first n ≡ single first ∷ reads (first + 1) (n - 1)
    short begins =
        let few : n < 64 = under n (λ l. no_block first n e l begins) in
        let one_more : n ≡ suc (n - 1) = omega arith in
        let j = first / 64 in
        let all = reads_are first n 0 0 j first n (omega arith) (omega arith) (omega arith) (omega arith) (omega arith) in
        let rest =
        reads_are (first + 1) (n - 1) (n - 1) 0 ((first + n) / 64) (first + n) 0 (omega arith) (omega arith) (omega arith) (omega arith) (omega arith) in
        all ∙ ap (singles first) one_more ∙ several_first single first (n - 1)
        ∙ ap (λ (rs : List Read). single first ∷ rs) (ap (λ (x : ℕ). singles x (n - 1)) (sym (add-one first)) ∙ sym (rest ∙ append-nil _ ∙ append-nil _))

    -- before a block
    inside : (first % 64 ≡ 0 → ⊥) → reads first n ≡ single first ∷ reads (first + 1) (n - 1)
    inside not =
        let f = front (first + 1) (n - 1) in
        let many = (n - 1 - f) / 64 in
        let j = (first + 1 + f) / 64 in
        let end = first + 1 + f + 64 * many in
        let after = first + n - end in
        let all =
        reads_are first n (suc f) many j end after (one_more first n some not) (as_many n f) (same_block first f) (same_end first f (64 * many)) refl in
        let rest = reads_are (first + 1) (n - 1) f many j end after refl refl refl refl (as_long first n end some) in
        all ∙ front_first first f j many end after
        ∙ ap (λ (rs : List Read). single first ∷ rs) (ap (λ (x : ℕ). parts x f j many end after) (sym (add-one first)) ∙ sym rest)

    go : (t : Bool) → eqb (first % 64) 0 ≡ t → reads first n ≡ single first ∷ reads (first + 1) (n - 1)
    go true z = short (eqb-true _ _ z)
    go false z = inside (eqb-false _ _ z)

-- ---- joined in order

module _ (closes blocks : List ℕ) where
  pub onto-append : (b : Best) (rs ss : List Read) → onto closes blocks b (rs ++ ss) ≡ onto closes blocks (onto closes blocks b rs) ss
  unfolding onto
  onto-append b [] ss = refl
  onto-append b (r ∷ rs) ss = onto-append (join b (best closes blocks r)) rs ss

  pub onto-singles : (b : Best) (bar n : ℕ) → onto closes blocks b (singles bar n) ≡ with_closes closes b bar n
  unfolding onto best several with_closes
  onto-singles b bar zero = refl
  onto-singles b bar (suc n) =
      onto-append b (singles bar n) (single (bar + n) ∷ [])
      ∙ ap (λ (x : Best). join x (one (get_or closes (bar + n) 0) (bar + n))) (onto-singles b bar n)

  pub onto-wholes : (b : Best) (j n : ℕ) → onto closes blocks b (wholes j n) ≡ with_blocks blocks b j n
  unfolding onto best several with_blocks
  onto-wholes b j zero = refl
  onto-wholes b j (suc n) =
      onto-append b (wholes j n) (whole (j + n) ∷ []) ∙ ap (λ (x : Best). join x (block blocks (j + n))) (onto-wholes b j n)

  -- the three parts one after another
  pub onto-reads : (b : Best) (first n : ℕ) →
      (let start = first + front first n in
      let many = (n - front first n) / block_bars in
      let end = start + block_bars * many in
      onto closes blocks b (reads first n)
      ≡ with_closes closes (with_blocks blocks (with_closes closes b first (front first n)) (start / block_bars) many) end (first + n - end))
  unfolding reads
  onto-reads b first n =
      let start = first + front first n in
      let many = (n - front first n) / 64 in
      let end = start + 64 * many in
      let before = singles first (front first n) in
      let middle = wholes (start / 64) many in
      onto-append b (before ++ middle) (singles end (first + n - end))
      ∙ ap (λ (x : Best). onto closes blocks x (singles end (first + n - end)))
      (onto-append b before middle ∙ ap (λ (x : Best). onto closes blocks x middle) (onto-singles b first (front first n))
      ∙ onto-wholes (with_closes closes b first (front first n)) (start / 64) many)
      ∙ onto-singles _ end (first + n - end)

-- ---- how much is read

closes_append : (rs ss : List Read) → closes_read (rs ++ ss) ≡ closes_read rs + closes_read ss
unfolding closes_read
closes_append [] ss = omega arith
closes_append (single bar ∷ rs) ss = omega (arith, closes_append rs ss)
closes_append (whole j ∷ rs) ss = closes_append rs ss

closes_singles : (bar n : ℕ) → closes_read (singles bar n) ≡ n
unfolding closes_read several
closes_singles bar zero = refl
closes_singles bar (suc n) = closes_append (singles bar n) (single (bar + n) ∷ []) ∙ omega (arith, closes_singles bar n)

closes_wholes : (j n : ℕ) → closes_read (wholes j n) ≡ 0
unfolding closes_read several
closes_wholes j zero = refl
closes_wholes j (suc n) = closes_append (wholes j n) (whole (j + n) ∷ []) ∙ omega (arith, closes_wholes j n)

blocks_append : (rs ss : List Read) → blocks_read (rs ++ ss) ≡ blocks_read rs + blocks_read ss
unfolding blocks_read
blocks_append [] ss = omega arith
blocks_append (single bar ∷ rs) ss = blocks_append rs ss
blocks_append (whole j ∷ rs) ss = omega (arith, blocks_append rs ss)

blocks_singles : (bar n : ℕ) → blocks_read (singles bar n) ≡ 0
unfolding blocks_read several
blocks_singles bar zero = refl
blocks_singles bar (suc n) = blocks_append (singles bar n) (single (bar + n) ∷ []) ∙ omega (arith, blocks_singles bar n)

blocks_wholes : (j n : ℕ) → blocks_read (wholes j n) ≡ n
unfolding blocks_read several
blocks_wholes j zero = refl
blocks_wholes j (suc n) = blocks_append (wholes j n) (whole (j + n) ∷ []) ∙ omega (arith, blocks_wholes j n)

-- bars, and those after them
bars_on : (bar n m : ℕ) → bars bar n ++ bars (bar + n) m ≡ bars bar (n + m)
unfolding bars
bars_on bar n zero = append-nil (bars bar n) ∙ ap (bars bar) (sym (add-zero n))
bars_on bar n (suc m) =
    sym (append_assoc (bars bar n) (bars (bar + n) m) ((bar + n + m) ∷ []))
    ∙ ap (λ (l : List ℕ). l ++ ((bar + n + m) ∷ [])) (bars_on bar n m)
    ∙ ap (λ (i : ℕ). bars bar (n + m) ++ (i ∷ [])) (sum bar n m) ∙ sym (ap (bars bar) (add-suc n m))
  where
    sum : (x y z : ℕ) → x + y + z ≡ x + (y + z)
    sum x y z = omega arith

bars-append : (rs ss : List Read) → bars_read (rs ++ ss) ≡ bars_read rs ++ bars_read ss
unfolding bars_read
bars-append [] ss = refl
bars-append (single bar ∷ rs) ss = ap (λ (l : List ℕ). bar ∷ l) (bars-append rs ss)
bars-append (whole j ∷ rs) ss =
    ap (λ (l : List ℕ). bars (64 * j) 64 ++ l) (bars-append rs ss) ∙ sym (append_assoc (bars (64 * j) 64) (bars_read rs) (bars_read ss))

bars-singles : (bar n : ℕ) → bars_read (singles bar n) ≡ bars bar n
unfolding bars_read several bars
bars-singles bar zero = refl
bars-singles bar (suc n) = bars-append (singles bar n) (single (bar + n) ∷ []) ∙ ap (λ (l : List ℕ). l ++ ((bar + n) ∷ [])) (bars-singles bar n)

no_bars_lem : (x : ℕ) → bars_read [] ≡ bars x 0
unfolding bars_read bars
no_bars_lem x = refl

one_block : (j : ℕ) → bars_read (whole j ∷ []) ≡ bars (block_bars * j) block_bars
unfolding bars_read
one_block j = append-nil (bars (64 * j) 64)

bars-wholes : (j n : ℕ) → bars_read (wholes j n) ≡ bars (64 * j) (64 * n)
unfolding several
bars-wholes j zero = no_bars_lem (64 * j)
bars-wholes j (suc n) =
    bars-append (wholes j n) (whole (j + n) ∷ []) ∙ ap (λ (l : List ℕ). l ++ bars_read (whole (j + n) ∷ [])) (bars-wholes j n)
    ∙ ap (λ (l : List ℕ). bars (64 * j) (64 * n) ++ l) (one_block (j + n) ∙ ap (λ (i : ℕ). bars i 64) (at j n))
    ∙ bars_on (64 * j) (64 * n) 64 ∙ ap (bars (64 * j)) (more n)
  where
    at : (x y : ℕ) → 64 * (x + y) ≡ 64 * x + 64 * y
    at x y = omega arith

    more : (x : ℕ) → 64 * x + 64 ≡ 64 * suc x
    more x = omega arith

-- blocks that there are begin where the first bars end
aligned : (x y m : ℕ) → (0 < m → x ≡ y) → bars x (64 * m) ≡ bars y (64 * m)
unfolding bars
aligned x y zero e = refl
aligned x y (suc m) e = ap (λ (i : ℕ). bars i (64 * suc m)) (e (omega arith))

-- A QUESTION READS LITTLE, AND EACH BAR ONCE.
pub reads_little : (first n : ℕ) → Little first n (reads first n)
unfolding reads
reads_little first n = record {
  closes = few first n _ (closes_append (before ++ middle) behind ∙ omega (
    arith,
    closes_append before middle,
    closes_singles first (front first n),
    closes_wholes (start / 64) many,
    closes_singles end (first + n - end),
  ));
  blocks = omega (
    arith,
    blocks_append (before ++ middle) behind,
    blocks_append before middle,
    blocks_singles first (front first n),
    blocks_wholes (start / 64) many,
    blocks_singles end (first + n - end),
  );
  once = bars-append (before ++ middle) behind ∙ ap (λ (l : List ℕ). l ++ bars_read behind) (bars-append before middle)
      ∙ ap (λ (l : List ℕ). l ++ bars_read middle ++ bars_read behind) (bars-singles first (front first n))
      ∙ ap (λ (l : List ℕ). bars first (front first n) ++ l ++ bars_read behind)
      (bars-wholes (start / 64) many ∙ aligned (64 * (start / 64)) start many (λ some. edge first n some))
      ∙ ap (λ (l : List ℕ). l ++ bars_read behind) (bars_on first (front first n) (64 * many))
      ∙ ap (λ (l : List ℕ). bars first (front first n + 64 * many) ++ l)
      (bars-singles end (first + n - end) ∙ ap (λ (i : ℕ). bars i (first + n - end)) (sum first (front first n) (64 * many)))
      ∙ bars_on first (front first n + 64 * many) (first + n - end) ∙ ap (bars first) (count first n);
}
  where
    start : ℕ
    start = first + front first n

    many : ℕ
    many = (n - front first n) / 64

    end : ℕ
    end = start + 64 * many

    before : List Read
    before = singles first (front first n)

    middle : List Read
    middle = wholes (start / 64) many

    behind : List Read
    behind = singles end (first + n - end)

    few : (x y c : ℕ) → c ≡ front x y + (x + y - (x + front x y + 64 * ((y - front x y) / 64))) → c ≤ 126
    few x y c e = omega arith

    edge : (x y : ℕ) → 0 < (y - front x y) / 64 → 64 * ((x + front x y) / 64) ≡ x + front x y
    edge x y some = omega arith

    sum : (x y z : ℕ) → x + y + z ≡ x + (y + z)
    sum x y z = omega arith

    count : (x y : ℕ) → front x y + 64 * ((y - front x y) / 64) + (x + y - (x + front x y + 64 * ((y - front x y) / 64))) ≡ y
    count x y = omega arith
