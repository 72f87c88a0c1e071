-- Silent tests put into a list, node by node. Assumes nothing.
use Rattle.std.specs.Prelude.{Err, Ok, Result, ℕ}
use Rattle.words.specs.Prelude.{ℕ, suc, ◌+◌, ◌-◌, ◌≤◌, ◌<◌, min, ◌≡◌, refl, sym, ap, ◌∙◌, Bool, true, false, cond, ◌&&◌, List, [], ◌∷◌, ◌++◌, arith, add-one}
use Rattle.words.specs.Prelude.{leb, lt-ltb, le-ltb, length, set, drop, length-set, length-append}
use Rattle.words.specs.{Limits.most_rows, declared.refusal.Refusal.Refusal}
use Rattle.table.specs.{Header.count, Header.root, Kinds.is_test_kind, Nodes.node_at, Forest.trees}
use Rattle.table.specs.{Forest.first_trees, Forest.forest_of, Reach.own_back, Reach.weigh, Checked.checked, Ends.ends_beside, Laws.Accepted.ends_of}
use Rattle.table.specs.{Laws.Accepted.tree_whole, Silent.WholeTrees, Silent.silent_answer, Silent.list_after_answer, Silent.silent_node, Silent.silent_nodes}
use Rattle.table.specs.{Silent.four_silent, Silent.put_all, Laws.Silent.next_node, Laws.Silent.no_node}
use Rattle.table.specs.{Outcome.accepts}

-- ---- numbers put one after the other

pub put_append : (l : List ℕ) (at : ℕ) (xs ys : List ℕ) → put_all l at (xs ++ ys) ≡ put_all (put_all l at xs) (at + length xs) ys
unfolding put_all
put_append l at [] ys = ap (λ (n : ℕ). put_all l n ys) (omega arith)
put_append l at (x ∷ xs) ys =
    put_append (set l at x) (at + 1) xs ys ∙ ap (λ (n : ℕ). put_all (put_all (set l at x) (at + 1) xs) n ys) (omega arith)

put_past : (y : ℕ) (l : List ℕ) (at : ℕ) (xs : List ℕ) → put_all (y ∷ l) (suc at) xs ≡ y ∷ put_all l at xs
unfolding put_all
put_past y l at [] = refl
put_past y l at (x ∷ xs) =
    let on : suc at + 1 ≡ suc (at + 1) = omega arith in
    rw on (put_past y (set l at x) (at + 1) xs)

-- from the first place on, where they all have one
pub put_whole : (l xs : List ℕ) → length xs ≤ length l → put_all l 0 xs ≡ xs ++ drop (length xs) l
unfolding put_all
put_whole l [] le = refl
put_whole [] (x ∷ xs) le = absurd (omega arith)
put_whole (y ∷ l) (x ∷ xs) le = put_past x l 0 xs ∙ ap (λ (r : List ℕ). x ∷ r) (put_whole l xs (omega arith))

-- ---- the nodes b to e, of which those before i are done

pub record Listing (t : List ℕ) (d b e at : ℕ) (given list : List ℕ) (next i : ℕ) : Type 0 where
  pub low : b ≤ i
  pub high : i ≤ e
  pub few : next ≤ i
  pub long : length list ≡ length given
  pub many : next + length (silent_nodes d (trees t (e - i) i)) ≡ at + length (silent_nodes d (trees t (e - b) b))
  pub puts : put_all list next (silent_nodes d (trees t (e - i) i)) ≡ put_all given at (silent_nodes d (trees t (e - b) b))

pub listing_start : (t : List ℕ) (d b e at : ℕ) (given : List ℕ) → b ≤ e → at ≤ b → Listing t d b e at given given at b
listing_start t d b e at given le few = record { low = omega arith; high = le; few = few; long = refl; many = refl; puts = refl }

module _ (t : List ℕ) (d b e at : ℕ) (given list : List ℕ) (next i : ℕ) (l : Listing t d b e at given list next i) (more : i < e) (far : ℕ)
    (weighs : far ≡ min (weigh own_back (first_trees 1 (trees t (e - i) i))) most_rows) where
  after : List ℕ
  after = silent_nodes d (trees t (e - (i + 1)) (i + 1))

  abbrev pub is : Bool
  is = is_test_kind (node_at t i).kind && leb d far

  one : silent_nodes d (trees t (e - i) i) ≡ cond is (i ∷ []) [] ++ after
  unfolding after silent_node node_at
  one = next_node d t e i more ∙ rw weighs

  -- a silent test
  pub listing_yes : is ≡ true → Listing t d b e at given (set list next i) (next + 1) (i + 1)
  unfolding after put_all
  listing_yes so =
      let this : silent_nodes d (trees t (e - i) i) ≡ i ∷ silent_nodes d (trees t (e - (i + 1)) (i + 1)) = one ∙ rw so in
      record {
        low = omega (arith, l.low);
        high = omega (arith, more);
        few = omega (arith, l.few);
        long = length-set list next i ∙ l.long;
        many = omega (arith, ap length this, l.many);
        puts = ap (put_all list next) (sym this) ∙ l.puts;
      }

  -- any other node
  pub listing_no : is ≡ false → Listing t d b e at given list next (i + 1)
  unfolding after
  listing_no not_so =
      let this : silent_nodes d (trees t (e - i) i) ≡ silent_nodes d (trees t (e - (i + 1)) (i + 1)) = one ∙ rw not_so in
      record {
        low = omega (arith, l.low);
        high = omega (arith, more);
        few = omega (arith, l.few);
        long = l.long;
        many = rw (← this) l.many;
        puts = rw (← this) l.puts;
      }

-- the nodes of tree x
pub spans : (t : List ℕ) (x : ℕ) → root t (x + 1) ≡ root t x + count t x
unfolding root
spans t x = rw (add-one x)

module _ (t : List ℕ) (d x at : ℕ) (given list : List ℕ) (next i : ℕ)
    (l : Listing t d (root t x) (root t (x + 1)) at given list next i) (done : root t (x + 1) ≤ i) where
  own : silent_nodes d (trees t (root t (x + 1) - root t x) (root t x)) ≡ silent_nodes d (forest_of t x)
  unfolding forest_of
  own =
      let many : root t (x + 1) - root t x ≡ count t x = omega (arith, spans t x) in
      rw many

  pub listing_end : (next ≡ at + length (silent_nodes d (forest_of t x))) × (next ≤ root t (x + 1))
  listing_end =
      let all : next + length (silent_nodes d (trees t (root t (x + 1) - i) i)) ≡ at + length (silent_nodes d (forest_of t x)) = l.many ∙ rw own in
      (omega (arith, all, ap length (no_node d t (root t (x + 1)) i done)), omega (arith, l.few, l.high))

  pub listing_puts : list ≡ put_all given at (silent_nodes d (forest_of t x))
  unfolding put_all
  listing_puts = ap (put_all list next) (sym (no_node d t (root t (x + 1)) i done)) ∙ l.puts ∙ ap (put_all given at) own

-- ---- the four trees

-- the ends beside an accepted table are right for each of its trees
pub whole_all : (t ends : List ℕ) (n r : ℕ) → checked t ≡ accepts n r → ends ≡ ends_beside t → WholeTrees t ends
unfolding WholeTrees
whole_all t ends n r ok e x l = rw (e, ends_of t n r ok, add-one x) (tree_whole t n r ok x l)

-- four rows of numbers, each put where the one before it ended
pub put_four : (l m n o p A B C D : List ℕ) (a b c d : ℕ) → (a ≡ 0 + length A) → (m ≡ put_all l 0 A) → (b ≡ a + length B) → (n ≡ put_all m a B)
    → (c ≡ b + length C) → (o ≡ put_all n b C) → (d ≡ c + length D) → (p ≡ put_all o c D)
    → (d ≡ length (A ++ (B ++ (C ++ D)))) × (p ≡ put_all l 0 (A ++ (B ++ (C ++ D))))
put_four l m n o p A B C D a b c d ea em eb en ec eo ed ep = (
  omega (arith, length-append A (B ++ (C ++ D)), length-append B (C ++ D), length-append C D),
  ep ∙ rw (put_append l 0 A (B ++ (C ++ D)), ← em, ← ea, put_append m a B (C ++ D), ← en, ← eb, put_append n b C D, ← eo, ← ec),
)

-- ---- the answer

-- what is answered, and the list beside it
pub record Answers (t : List ℕ) (d : ℕ) (given : List ℕ) (answer : Result ℕ Refusal) (list : List ℕ) : Type 0 where
  pub is : answer ≡ silent_answer (checked t) (four_silent t d) (length given)
  pub leaves : list ≡ list_after_answer answer (four_silent t d) given

module _ (t : List ℕ) (d : ℕ) (given : List ℕ) where
  -- a table that is refused
  pub answers_refused : (why : Refusal) → checked t ≡ Err why → Answers t d given (Err why) given
  unfolding silent_answer list_after_answer
  answers_refused why bad = record { is = rw bad; leaves = refl }

  module _ (n r : ℕ) (ok : checked t ≡ accepts n r) (many : ℕ) (found : many ≡ length (four_silent t d)) where
    -- a list that is too small
    pub answers_small : length given < many → Answers t d given (Err (Refusal.Room 18)) given
    unfolding silent_answer list_after_answer
    answers_small less = record { is = rw (ok, lt-ltb (length given) (length (four_silent t d)) (omega arith)); leaves = refl }

    -- the numbers, and what stood past them
    pub answers_lists : (again : ℕ) (list : List ℕ) → many ≤ length given → again ≡ length (four_silent t d) → list ≡ put_all given 0 (four_silent t d)
        → Answers t d given (Ok again) list
    unfolding silent_answer list_after_answer
    answers_lists again list enough same puts =
        record {
          is = rw (ok, same, le-ltb (length given) (length (four_silent t d)) (omega arith));
          leaves = puts ∙ put_whole given (four_silent t d) (omega arith);
        }
