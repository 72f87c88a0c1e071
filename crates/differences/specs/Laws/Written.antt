-- Lines written one after another into a room. Assumes nothing.
use Rattle.std.specs.Prelude.{ℕ, ◌+◌, ◌*◌, ◌≤◌, ◌≡◌, refl, List, [], ◌∷◌, ◌++◌, length, take, drop}
use Rattle.words.specs.Prelude.{sym, ap, subst, ◌∙◌, append_assoc, append-nil, add-zero, zero-add, arith}
use Rattle.words.specs.Prelude.{length-append, take-append-drop, take_at, drop_at, drop-drop, length-take-le}
use Rattle.words.specs.{Words.overwrite, Laws.Overwrite.overwrite_fits, Laws.Overwrite.overwrite-length}
use Rattle.differences.specs.{Lines.Line, Lines.words_of}

-- words of two lists of lines
pub words_more : (ks ls : List Line) → words_of (ks ++ ls) ≡ words_of ks ++ words_of ls
unfolding words_of
words_more [] ls = refl
words_more (k ∷ ks) ls =
    let own = k.sort ∷ k.number ∷ k.word ∷ k.first ∷ k.second ∷ [] in
    ap (λ (x : List ℕ). own ++ x) (words_more ks ls) ∙ sym (append_assoc own (words_of ks) (words_of ls))

pub words_length : (ls : List Line) → length (words_of ls) ≡ 5 * length ls
unfolding words_of
words_length [] = refl
words_length (l ∷ ls) = omega (arith, words_length ls)

-- words written after others are written together
overwrite_on : (r xs ys : List ℕ) (at : ℕ) → at + length xs + length ys ≤ length r
    → overwrite (overwrite r at xs) (at + length xs) ys ≡ overwrite r at (xs ++ ys)
overwrite_on r xs ys at h =
    let n = at + length xs in
    let p = take at r ++ xs in
    let q = drop n r in
    let first : overwrite r at xs ≡ p ++ q = overwrite_fits r at xs (omega arith) in
    let long : length p ≡ n = length-append (take at r) xs ∙ ap (λ (z : ℕ). z + length xs) (length-take-le at r (omega arith)) in
    let room : n + length ys ≤ length (overwrite r at xs) = subst (λ (z : ℕ). n + length ys ≤ z) (sym (overwrite-length r at xs)) h in
    let rest : drop (n + length ys) (overwrite r at xs) ≡ drop (n + length ys) r =
    sym (drop-drop (length ys) n (overwrite r at xs)) ∙ ap (drop (length ys)) (ap (drop n) first ∙ drop_at p q n long) ∙ drop-drop (length ys) n r in
    let all : at + length (xs ++ ys) ≡ n + length ys = ap (λ (z : ℕ). at + z) (length-append xs ys) ∙ sum at (length xs) (length ys) in
    overwrite_fits (overwrite r at xs) n ys room
    ∙ ap (λ (x : List ℕ). x ++ ys ++ drop (n + length ys) (overwrite r at xs)) (ap (take n) first ∙ take_at p q n long)
    ∙ ap (λ (x : List ℕ). p ++ ys ++ x) rest ∙ ap (λ (x : List ℕ). x ++ drop (n + length ys) r) (append_assoc (take at r) xs ys)
    ∙ ap (λ (z : ℕ). take at r ++ (xs ++ ys) ++ drop z r) (sym all)
    ∙ sym (overwrite_fits r at (xs ++ ys) (subst (λ (z : ℕ). z ≤ length r) (sym all) h))
  where
    sum : (x y z : ℕ) → x + (y + z) ≡ x + y + z
    sum x y z = omega arith

pub no_lines : (ls : List Line) → length ls ≡ 0 → ls ≡ []
no_lines [] e = refl
no_lines (l ∷ ls) e = absurd (omega arith)

-- no line changes nothing
pub none_written : (r : List ℕ) (at : ℕ) → at ≤ length r → overwrite r at (words_of []) ≡ r
unfolding words_of
none_written r at h =
    overwrite_fits r at [] (subst (λ (z : ℕ). z ≤ length r) (sym (add-zero at)) h)
    ∙ ap (λ (x : List ℕ). x ++ drop (at + 0) r) (append-nil (take at r)) ∙ ap (λ (z : ℕ). take at r ++ drop z r) (add-zero at) ∙ take-append-drop at r

-- LINES WRITTEN AFTER OTHERS are written together: from line c on, as many as there are.
pub written_on : (r : List ℕ) (c : ℕ) (ks ls : List Line) → 5 * (c + length ks + length ls) ≤ length r
    → overwrite (overwrite r (5 * c) (words_of ks)) (5 * (c + length ks)) (words_of ls) ≡ overwrite r (5 * c) (words_of (ks ++ ls))
written_on r c ks ls h =
    let at : 5 * (c + length ks) ≡ 5 * c + length (words_of ks) = place c (length ks) (length (words_of ks)) (words_length ks) in
    let room : 5 * c + length (words_of ks) + length (words_of ls) ≤ length r =
    fits c (length ks) (length ls) (length (words_of ks)) (length (words_of ls)) (length r) (words_length ks) (words_length ls) h in
    ap (λ (n : ℕ). overwrite (overwrite r (5 * c) (words_of ks)) n (words_of ls)) at
    ∙ overwrite_on r (words_of ks) (words_of ls) (5 * c) room ∙ ap (overwrite r (5 * c)) (sym (words_more ks ls))
  where
    place : (c m x : ℕ) → x ≡ 5 * m → 5 * (c + m) ≡ 5 * c + x
    place c m x e = omega arith

    fits : (c m n x y z : ℕ) → x ≡ 5 * m → y ≡ 5 * n → 5 * (c + m + n) ≤ z → 5 * c + x + y ≤ z
    fits c m n x y z e f l = omega arith

-- ---- as a function that writes from line c on promises it: the number of lines then, and the room

-- before the first turn of a loop that writes m lines from line f on
pub none_yet : (f m : ℕ) (r : List ℕ) → 5 * (f + m) ≤ length r → (f ≡ f + 0) × (r ≡ overwrite r (5 * f) (words_of []))
none_yet f m r h = (sym (add-zero f), sym (none_written r (5 * f) (fits f m (length r) h)))
  where
    fits : (x y z : ℕ) → 5 * (x + y) ≤ z → 5 * x ≤ z
    fits x y z l = omega arith

pub none_put : (c : ℕ) (r : List ℕ) (ls : List Line) → ls ≡ [] → 5 * (c + length ls) ≤ length r
    → (c ≡ c + length ls) × (r ≡ overwrite r (5 * c) (words_of ls))
none_put c r ls e h =
    let none = none_yet c (length ls) r h in (
      none.0 ∙ sym (ap (λ (x : List Line). c + length x) e),
      none.1 ∙ sym (ap (λ (x : List Line). overwrite r (5 * c) (words_of x)) e),
    )

pub one_put : (c : ℕ) (r after : List ℕ) (ls : List Line) {l : Line} → ls ≡ l ∷ [] → after ≡ overwrite r (5 * c) (words_of (l ∷ []))
    → (c + 1 ≡ c + length ls) × (after ≡ overwrite r (5 * c) (words_of ls))
one_put c r after ls e w = (sym (ap (λ (x : List Line). c + length x) e), w ∙ sym (ap (λ (x : List Line). overwrite r (5 * c) (words_of x)) e))

-- A TURN of a loop that writes: lines `done` stand from line f on in a room for m of them; `next` is written after them.
module _ (r₀ r : List ℕ) (f c m : ℕ) (done next : List Line) (stand : (c ≡ f + length done) × (r ≡ overwrite r₀ (5 * f) (words_of done)))
    (few : length done + length next ≤ m) (room : 5 * (f + m) ≤ length r₀) where
  pub turn_fits : 5 * (c + length next) ≤ length r
  turn_fits =
      fits f c (length done) (length next) m (length r₀) (length r) stand.0 few room (ap length stand.1 ∙ overwrite-length r₀ (5 * f) (words_of done))
    where
      fits : (f c d n m l k : ℕ) → c ≡ f + d → d + n ≤ m → 5 * (f + m) ≤ l → k ≡ l → 5 * (c + n) ≤ k
      fits f c d n m l k e h i j = omega arith

  pub turn_stands : {c' : ℕ} {r' : List ℕ} (after : List Line) → after ≡ done ++ next
      → (c' ≡ c + length next) × (r' ≡ overwrite r (5 * c) (words_of next)) → (c' ≡ f + length after) × (r' ≡ overwrite r₀ (5 * f) (words_of after))
  turn_stands after e put = (
    put.0 ∙ sum f c (length done) (length next) stand.0 (ap length e ∙ length-append done next),
    put.1 ∙ ap (λ (w : List ℕ). overwrite w (5 * c) (words_of next)) stand.1
        ∙ ap (λ (n : ℕ). overwrite (overwrite r₀ (5 * f) (words_of done)) (5 * n) (words_of next)) stand.0
        ∙ written_on r₀ f done next (fits f (length done) (length next) m (length r₀) few room)
        ∙ ap (λ (ls : List Line). overwrite r₀ (5 * f) (words_of ls)) (sym e),
  )
    where
      sum : (f c d n : ℕ) {a : ℕ} → c ≡ f + d → a ≡ d + n → c + n ≡ f + a
      sum f c d n e g = omega arith

      fits : (f d n m l : ℕ) → d + n ≤ m → 5 * (f + m) ≤ l → 5 * (f + d + n) ≤ l
      fits f d n m l h i = omega arith

-- FOUR PARTS, each written where the one before it ends, are written together.
pub four_put : (r r1 r2 r3 r4 : List ℕ) (ks bs cs ds : List Line) (c d e : ℕ) → 5 * length (ks ++ bs ++ cs ++ ds) ≤ length r
    → c ≡ length ks → r1 ≡ overwrite r 0 (words_of ks) → d ≡ c + length bs → r2 ≡ overwrite r1 (5 * c) (words_of bs)
    → e ≡ d + length cs → r3 ≡ overwrite r2 (5 * d) (words_of cs) → r4 ≡ overwrite r3 (5 * e) (words_of ds)
    → r4 ≡ overwrite r 0 (words_of (ks ++ bs ++ cs ++ ds))
four_put r r1 r2 r3 r4 ks bs cs ds c d e h p q i s j t u =
    let ab = ks ++ bs in
    let abc = ks ++ bs ++ cs in
    let n1 = length-append ks bs in
    let n2 = length-append ab cs in
    let n3 = length-append abc ds in
    let two : r2 ≡ overwrite r 0 (words_of ab) =
    s ∙ ap (λ (x : List ℕ). overwrite x (5 * c) (words_of bs)) q
    ∙ ap (λ (n : ℕ). overwrite (overwrite r 0 (words_of ks)) (5 * n) (words_of bs)) (p ∙ sym (zero-add (length ks)))
    ∙ written_on r 0 ks bs (fits2 _ _ _ _ _ _ _ n1 n2 n3 h) in
    let three : r3 ≡ overwrite r 0 (words_of abc) =
    t ∙ ap (λ (x : List ℕ). overwrite x (5 * d) (words_of cs)) two
    ∙ ap (λ (n : ℕ). overwrite (overwrite r 0 (words_of ab)) (5 * n) (words_of cs)) (at2 _ _ _ _ p i n1)
    ∙ written_on r 0 ab cs (fits3 _ _ _ _ _ n2 n3 h) in
    u ∙ ap (λ (x : List ℕ). overwrite x (5 * e) (words_of ds)) three
    ∙ ap (λ (n : ℕ). overwrite (overwrite r 0 (words_of abc)) (5 * n) (words_of ds)) (at3 _ _ _ _ _ _ p i j n1 n2)
    ∙ written_on r 0 abc ds (fits4 _ _ _ _ n3 h)
  where
    fits2 : (a b c d ab abc all : ℕ) {z : ℕ} → ab ≡ a + b → abc ≡ ab + c → all ≡ abc + d → 5 * all ≤ z → 5 * (0 + a + b) ≤ z
    fits2 a b c d ab abc all e f g l = omega arith

    fits3 : (ab c d abc all : ℕ) {z : ℕ} → abc ≡ ab + c → all ≡ abc + d → 5 * all ≤ z → 5 * (0 + ab + c) ≤ z
    fits3 ab c d abc all f g l = omega arith

    fits4 : (abc d all z : ℕ) → all ≡ abc + d → 5 * all ≤ z → 5 * (0 + abc + d) ≤ z
    fits4 abc d all z g l = omega arith

    at2 : (a b ab x : ℕ) {y : ℕ} → x ≡ a → y ≡ x + b → ab ≡ a + b → y ≡ 0 + ab
    at2 a b ab x f g l = omega arith

    at3 : (a b c ab abc x : ℕ) {y z : ℕ} → x ≡ a → y ≡ x + b → z ≡ y + c → ab ≡ a + b → abc ≡ ab + c → z ≡ 0 + abc
    at3 a b c ab abc x f g i l m = omega arith
