-- Request 6, for readers of a trade's last two words: what they come to over the bars from the entry bar on. Definitions only.
use Rattle.std.specs.Prelude.{ℕ, ◌≡◌, ◌⊎◌, Bool, true, cond, List, [], ◌∷◌, Float, None, Option, Some}
use Rattle.floats.specs.{Floats.◌⊕◌, Floats.◌⊗◌, Floats.◌≼◌, Floats.finite}
use Rattle.portfolio.specs.{Portfolio.worse}
use Rattle.execution.specs.{declared.costs.Funding.Funding}
use Rattle.records.specs.{declared.settings.Settings.Settings, Bar.candle_of, Bar.funding_of}

-- ---- the least favourable price

-- "each bar's low for a long or high for a short"
abbrev pub against : Bool → List ℕ → Float
against long bar = cond long (candle_of bar).low (candle_of bar).high

-- "(the entry fill, then each bar's low for a long or high for a short, ..)", in their order
unfoldable pub worst_over : Bool → Float → List (List ℕ) → Float
worst_over long price [] = price
worst_over long price (bar ∷ bars) = worst_over long (worse (candle_of bar) price long) bars

-- w is as bad as x or worse: at most x for a long, at least x for a short
abbrev pub as_bad : Bool → Float → Float → Bool
as_bad long w x = cond long (w ≼ x) (x ≼ w)

-- as bad as each of the bars
unfoldable pub AsBadAsEach : Bool → Float → List (List ℕ) → Type 0
AsBadAsEach long w [] = Unit {0}
AsBadAsEach long w (bar ∷ bars) = (as_bad long w (against long bar) ≡ true) × AsBadAsEach long w bars

-- the price of one of the bars
unfoldable pub OneOfThem : Bool → Float → List (List ℕ) → Type 0
OneOfThem long w [] = ⊥
OneOfThem long w (bar ∷ bars) = (w ≡ against long bar) ⊎ OneOfThem long w bars

unfoldable pub AllFinite : Bool → List (List ℕ) → Type 0
AllFinite long [] = Unit {0}
AllFinite long (bar ∷ bars) = (finite (against long bar) ≡ true) × AllFinite long bars

-- ---- the funding paid

unfoldable pub paid_with : Option Funding → Float → Float → Float
paid_with None qty sum = sum
paid_with (Some funding) qty sum = sum ⊕ qty ⊗ funding.mark ⊗ funding.rate

-- what each bar charges a position of this quantity, added up in their order
unfoldable pub paid_over : Settings → Float → Float → List (List ℕ) → Float
paid_over s qty sum [] = sum
paid_over s qty sum (bar ∷ bars) = paid_over s qty (cond s.funding (paid_with (funding_of s.slots bar) qty sum) sum) bars
