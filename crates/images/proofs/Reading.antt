-- Words read one after another over the first of a room.
use Rattle.words.specs.Prelude.{ℕ, suc, ◌+◌, ◌*◌, ◌≤◌, ◌<◌, ◌≡◌, refl, sym, ◌∙◌, List, ◌++◌, zero-add, add-one, length, drop, set, get_or, drop-cons, set_at}
use Rattle.words.specs.Prelude.{append_snoc}
use Rattle.words.specs.{Limits.row_words, Words.overwrite, Laws.Overwrite.overwrite_fits}
use Rattle.table.specs.{Bytes.u64}
use Rattle.engine.specs.{Record.listed, Laws.Lengths.listed_long}
use Rattle.images.specs.{Layout.head_bytes, Reading.slots_in, Reading.rows_in, Reading.words_at, Reading.window_in}

-- none yet
pub words_none : (x : List ℕ) (at : ℕ) (room : List ℕ) → room ≡ words_at x at 0 ++ drop 0 room
unfolding words_at listed
words_none x at room = refl

-- one more
pub words_more : (x : List ℕ) (at : ℕ) (room : List ℕ) (i v : ℕ) {now : List ℕ} → i < length room → now ≡ words_at x at i ++ drop i room
    → v ≡ u64 x (at + 8 * i) → set now i v ≡ words_at x at (i + 1) ++ drop (i + 1) room
unfolding words_at listed
words_more x at room i v h n e =
    let f : ℕ → ℕ = λ j. u64 x (at + 8 * j) in
    rw (n, drop-cons room i 0 h, set_at (listed i f) (get_or room i 0) (drop (suc i) room) v i (listed_long i f), e, add-one i)
    (sym (append_snoc (listed i f) (f i) (drop (suc i) room)))

-- over the first words of a room that has as many
pub words_over : (x : List ℕ) (at n : ℕ) (room : List ℕ) → n ≤ length room → words_at x at n ++ drop n room ≡ overwrite room 0 (words_at x at n)
words_over x at n room h =
    let long : length (words_at x at n) ≡ n = unfold words_at in listed_long n _ in
    sym (overwrite_fits room 0 (words_at x at n) (rw (long, zero-add n) h) ∙ rw (long, zero-add n))

-- the window of an image
pub window_over : (x room : List ℕ) (r b : ℕ) {out : List ℕ} → r ≡ rows_in x → b ≡ slots_in x → rows_in x * row_words (slots_in x) ≤ length room
    → out ≡ words_at x head_bytes (r * (7 + b)) ++ drop (r * (7 + b)) room → out ≡ overwrite room 0 (window_in x)
unfolding window_in
window_over x room r b e f h o = rw (o, e, f) (words_over x head_bytes (rows_in x * row_words (slots_in x)) room h)
