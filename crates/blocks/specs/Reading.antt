-- "What reading every close gives": the high and the low of a stretch, "the numbers and the earliest bar of each". Definitions only.
use Rattle.std.specs.Prelude.{ℕ, zero, suc, ◌+◌, ◌<◌, ◌≤◌, ◌≡◌, Bool, true, false, cond, List, get_or}
use Rattle.words.specs.Prelude.{is_nan}
use Rattle.floats.specs.{Floats.◌≺◌, Floats.float_of}
use Rattle.blocks.specs.{declared.best.Best.Best}

-- a close, by its word, is above another, or below it
abbrev pub above : ℕ → ℕ → Bool
above a b = float_of b ≺ float_of a

abbrev pub below : ℕ → ℕ → Bool
below a b = float_of a ≺ float_of b

-- ---- reading

-- of one close
abbrev pub one : ℕ → ℕ → Best
one close bar = record { high = close; high_bar = bar; low = close; low_bar = bar }

-- of an earlier stretch and a later one: a later number takes the place only if strictly greater, or less
unfoldable pub join : Best → Best → Best
join a b =
    let up = above b.high a.high in
    let down = below b.low a.low in
    record {
      high = cond up b.high a.high;
      high_bar = cond up b.high_bar a.high_bar;
      low = cond down b.low a.low;
      low_bar = cond down b.low_bar a.low_bar;
    }

-- "reading every close": of bar `first` and the n after it, one after another
unfoldable pub reading : List ℕ → ℕ → ℕ → Best
reading closes first zero = one (get_or closes first 0) first
reading closes first (suc n) = join (reading closes first n) (one (get_or closes (first + suc n) 0) (first + suc n))

-- ---- what that has to be, with no word of how it is read

-- the word is that of a bar from `first` to `last`, no close there is over it, and all before that bar are under it: so it is "the earliest"
pub record Earliest (over : ℕ → ℕ → Bool) (closes : List ℕ) (first last word bar : ℕ) : Type 0 where
  pub from : first ≤ bar
  pub upto : bar ≤ last
  pub own : word ≡ get_or closes bar 0
  pub none_over : (i : ℕ) → first ≤ i → i ≤ last → over (get_or closes i 0) word ≡ false
  pub before_under : (i : ℕ) → first ≤ i → i < bar → over word (get_or closes i 0) ≡ true

-- "the highest and lowest close between two bars .. and the earliest bar of each"
pub record HighAndLow (closes : List ℕ) (first last : ℕ) (best : Best) : Type 0 where
  pub high : Earliest above closes first last best.high best.high_bar
  pub low : Earliest below closes first last best.low best.low_bar

-- a word that is no NaN's
abbrev pub Number : ℕ → Type 0
Number w = is_nan (float_of w) ≡ false
