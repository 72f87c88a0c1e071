-- One count after another.
use Rattle.words.specs.Prelude.{◌≡◌, sym, ◌∙◌, ℕ, ◌+◌, arith}
use Rattle.differences.specs.{Laws.Counted.few_lines, Laws.Counted.equity_count, Laws.Counted.surplus-length}
use Rattle.differences.proofs.compare.count_few.Goals as goal

sum : (a b c x y z : ℕ) → a ≡ x → b ≡ y → c ≡ z → a + b + c ≡ x + y + z
sum a b c x y z e f g = omega arith

pub returns : goal.returns
unfolding few_lines
returns c = (
  sum _ _ _ _ _ _ (c.one_of-first.ensures.0 ∙ sym (equity_count _ _ _ _)) (c.apart-more_trades.ensures.0 ∙ surplus-length 0 3 _ _)
      (c.apart-more_points.ensures.0 ∙ surplus-length 0 4 _ _),
  omega (arith, c.one_of-first.ensures.1, c.apart-more_trades.ensures.1, c.apart-more_points.ensures.1),
)
