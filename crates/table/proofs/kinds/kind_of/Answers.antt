-- The code's names of rows name the rows of the definition's table, one by one.
use Rattle.words.specs.Prelude.{◌≡◌, refl, sym, ◌∙◌, List, [], ◌∷◌, ℕ, ◌<◌, get_or, List·get_or-eq_default}
use Rattle.table.specs.{declared.kinds.Row.Row, declared.kinds.Row.TheVariants.Unknown, declared.kinds.Row.TheVariants.Const}
use Rattle.table.specs.{declared.kinds.Row.TheVariants.Ref, declared.kinds.Row.TheVariants.Price, declared.kinds.Row.TheVariants.Prev}
use Rattle.table.specs.{declared.kinds.Row.TheVariants.Arith, declared.kinds.Row.TheVariants.Extreme, declared.kinds.Row.TheVariants.Compare}
use Rattle.table.specs.{declared.kinds.Row.TheVariants.Cross, declared.kinds.Row.TheVariants.Between, declared.kinds.Row.TheVariants.Trend}
use Rattle.table.specs.{declared.kinds.Row.TheVariants.All, declared.kinds.Row.TheVariants.Any, declared.kinds.Row.TheVariants.Not}
use Rattle.table.specs.{declared.kinds.Row.TheVariants.InPosition, declared.kinds.Row.TheVariants.BarsSince, Kinds.kind_of, Kinds.kinds, Kinds.no_kind}
use Rattle.table.specs.{Kinds.row_named, Ends.from, Laws.Kinds.of_rows}
use Rattle.table.proofs.kinds.kind_of.Goals as goal

-- the code's names
names : List Row
names =
    Unknown ∷ Const ∷ Ref ∷ Price ∷ Prev ∷ Arith ∷ Arith ∷ Arith ∷ Arith ∷
    Extreme ∷ Extreme ∷ Unknown ∷ Unknown ∷ Unknown ∷ Unknown ∷ Unknown ∷
    Compare ∷ Compare ∷ Compare ∷ Compare ∷ Compare ∷ Compare ∷
    Cross ∷ Cross ∷ Between ∷ Trend ∷ Trend ∷ All ∷ Any ∷ Not ∷ InPosition ∷ BarsSince ∷ []

named : (k : ℕ) → k < 32 → row_named (get_or names k Unknown) ≡ kind_of k
named = of_rows (λ k. row_named (get_or names k Unknown)) kind_of (unfold from kind_of kinds row_named names in refl)

pub returns-then-i-lt32 : goal.returns-then-i-lt32
unfolding names
returns-then-i-lt32 c = c.row_named.ensures ∙ named _ c.if-i-lt32.true

pub returns-else-i-lt32 : goal.returns-else-i-lt32
unfolding kind_of kinds
returns-else-i-lt32 c = sym (List·get_or-eq_default kinds no_kind c.if-i-lt32.false)
